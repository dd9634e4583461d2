-- The samples hold: each side of each equation computes to the same.
use Prim.Native.Nat.{ℕ}
use mathlib.Core.Path.{◌≡◌, refl, sym, subst}
use mathlib.Core.Bool.{Bool, true, false, ◌||◌}
use lib.Dec.{eqb}
use borrow.Author.Tests.{eqb-true}
use Rattle.octets.specs.Number as octets
use Rattle.octets.specs.Signed as signs
use Rattle.octets.specs.Control as controls
use Rattle.table.specs.Entry.{find, marked_single, meaning, kind_number, inner_of}
use Rattle.table.specs.Schema.{is_revision, schema_of}
use Rattle.message.specs.Tree.{tree, value}
use Rattle.reading.specs.Reading.{on_accepted, in_order}
use Rattle.message.specs.Single.{among, repeats}
use Rattle.message.specs.Reading as readings
use Rattle.message.specs.Shortest.{shortest, field, least_contents}
use Rattle.message.specs.Samples as samples

-- All of them, the samples of document 01 under each revision.
computed : samples.Hold (samples.samples 1) × samples.Hold (samples.samples 2) × samples.Hold samples.single_samples
unfolding samples.Hold samples.samples samples.single_samples samples.outcome samples.outcome_of samples.sample samples.reads_uint samples.reads_int
    samples.only samples.nested_table samples.single_uint samples.single_message
    readings.reading readings.message_from readings.fields_from readings.after_step on_accepted in_order readings.step readings.step_from
    readings.step_by_kind readings.too_deep among repeats schema_of find marked_single meaning kind_number tree readings.tag_at readings.tag_of inner_of
    value shortest field least_contents
    octets.big_endian octets.octets_of octets.width octets.width_within octets.least_uint
    signs.integer signs.with_sign signs.lowest signs.least_int signs.signed_width signs.signed_bits
    controls.control controls.control_of controls.following controls.coded controls.least_control controls.least_code controls.first_fit
computed = (
  (refl, (refl, (refl, (refl, (refl, (refl, (refl, (refl, (refl, (refl, (refl, (refl, tt)))))))))))),
  (refl, (refl, (refl, (refl, (refl, (refl, (refl, (refl, (refl, (refl, (refl, (refl, tt)))))))))))),
  (refl, (refl, (refl, (refl, (refl, (refl, (refl, (refl, (refl, (refl, (refl, (refl, (refl, (refl, (refl, (refl, tt)))))))))))))))),
)

-- The samples of document 01 hold under either revision.
pub samples_hold : (revision : ℕ) → is_revision revision ≡ true → samples.Hold (samples.samples revision)
unfolding is_revision
samples_hold revision e = go (eqb revision 1) refl e
  where
    go : (t : Bool) → eqb revision 1 ≡ t → t || eqb revision 2 ≡ true → samples.Hold (samples.samples revision)
    go true is h = subst (λ (r : ℕ). samples.Hold (samples.samples r)) (sym (eqb-true revision 1 is)) computed.0
    go false is h = subst (λ (r : ℕ). samples.Hold (samples.samples r)) (sym (eqb-true revision 2 h)) computed.1

-- The samples of single fields hold.
pub single_samples_hold : samples.Hold samples.single_samples
single_samples_hold = computed.2
