-- The samples hold: each side of each equation computes to the same.
use Prim.Native.Nat.{ℕ}
use mathlib.Core.Path.{◌≡◌, refl, sym, subst}
use mathlib.Core.Bool.{Bool, true, false, ◌||◌}
use lib.Dec.{eqb}
use borrow.Author.Tests.{eqb-true}
use Rattle.octets.specs.Number as numbers
use Rattle.octets.specs.Signed as signs
use Rattle.octets.specs.Utf8.{grammar}
use Rattle.octets.specs.Text as texts
use Rattle.octets.specs.Control as controls
use Rattle.octets.specs.Short.{same}
use Rattle.reading.specs.Reading.{on_accepted, in_order}
use Rattle.reading.specs.Checks as answers
use Rattle.table.specs.Entry as entries
use Rattle.table.specs.Schema.{is_revision, schema_of, schema}
use Rattle.table.specs.Load as loads
use Rattle.table.specs.Repeat.{distinct}
use Rattle.table.specs.Valid as valids
use Rattle.message.specs.Single.{among, repeats}
use Rattle.message.specs.Tree as trees
use Rattle.message.specs.Reading as readings
use Rattle.message.specs.Shortest as shortests
use Rattle.message_calls.specs.Check as checks
use Rattle.message_calls.specs.Written.{shortest_of_reading}
use Rattle.message_calls.specs.Shorten as shortens
use Rattle.message_calls.specs.Short as shorts
use Rattle.message_calls.specs.Calls.{with_table, check_octets, short_octets}
use Rattle.message_calls.specs.Samples as samples

-- The definitions that the check's answer is made of. A proof that unfolds this computes it.
unfoldable pub checked : Type 0
unfolding samples.line samples.marked samples.messages samples.three_kinds samples.single_uint
    with_table check_octets checks.check checks.check_under checks.tree_counts answers.counts answers.refusal
    loads.load loads.load_from loads.accepted loads.refused loads.table_of loads.words_before loads.faulty loads.well_formed loads.announced
    loads.record_size loads.place_at loads.record_at loads.word_of loads.word_at loads.in_range loads.seen loads.pair
    valids.valid valids.all_in_range valids.all_zero distinct
    is_revision schema schema_of entries.entry entries.entries entries.find entries.marked_single entries.meaning entries.kind_number entries.inner_of
    readings.reading readings.message_from readings.fields_from readings.after_step readings.step readings.step_from readings.step_by_kind
    readings.too_deep among repeats readings.tag_at readings.tag_of on_accepted in_order trees.tree trees.value trees.fields trees.depth
    numbers.big_endian controls.control controls.control_of controls.following controls.coded
    texts.text texts.text_after texts.after texts.within grammar
checked = Unit {0}

-- What holds under revision 1 and under revision 2 holds under every revision.
either : (P : ℕ → Type 0) → P 1 → P 2 → (revision : ℕ) → is_revision revision ≡ true → P revision
unfolding is_revision
either P one two revision e = go (eqb revision 1) refl e
  where
    go : (t : Bool) → eqb revision 1 ≡ t → t || eqb revision 2 ≡ true → P revision
    go true is h = subst P (sym (eqb-true revision 1 is)) one
    go false is h = subst P (sym (eqb-true revision 2 h)) two

computed : samples.Hold (samples.samples 1) × samples.Hold (samples.samples 2) × samples.Hold samples.single_samples
unfolding checked samples.Hold samples.samples samples.single_samples samples.accepts samples.refuses samples.refuses_number samples.shown
    samples.person2 samples.nested_single
computed = (
  (refl, (refl, (refl, (refl, (refl, (refl, (refl, (refl, (refl, (refl, (refl, (refl, (refl, (refl, (refl, (refl, (refl, (refl, (refl, (refl, (refl, tt))))))))))))))))))))),
  (refl, (refl, (refl, (refl, (refl, (refl, (refl, (refl, (refl, (refl, (refl, (refl, (refl, (refl, (refl, (refl, (refl, (refl, (refl, (refl, (refl, tt))))))))))))))))))))),
  (refl, (refl, (refl, (refl, (refl, (refl, (refl, (refl, (refl, (refl, (refl, (refl, (refl, (refl, (refl, (refl, (refl, tt))))))))))))))))),
)

pub samples_hold : (revision : ℕ) → is_revision revision ≡ true → samples.Hold (samples.samples revision)
samples_hold = either (λ (r : ℕ). samples.Hold (samples.samples r)) computed.0 computed.1

pub single_samples_hold : samples.Hold samples.single_samples
single_samples_hold = computed.2

short_computed : samples.HoldShort (samples.short_samples 1) × samples.HoldShort (samples.short_samples 2) × samples.HoldShort samples.single_short_samples
unfolding checked short_octets shorts.short samples.HoldShort samples.short_samples samples.single_short_samples samples.is_short samples.not_short
    samples.uint_table samples.int_table
    shortens.shortest_by_table shortens.shortest_under shortest_of_reading shortests.shortest shortests.field shortests.least_contents same
    numbers.octets_of numbers.width numbers.width_within numbers.least_uint signs.integer signs.with_sign signs.lowest signs.least_int signs.signed_width
    signs.signed_bits controls.least_control controls.least_code controls.first_fit
short_computed = (
  (refl, (refl, (refl, (refl, (refl, (refl, (refl, (refl, (refl, (refl, (refl, (refl, (refl, (refl, (refl, (refl, (refl, (refl, tt)))))))))))))))))),
  (refl, (refl, (refl, (refl, (refl, (refl, (refl, (refl, (refl, (refl, (refl, (refl, (refl, (refl, (refl, (refl, (refl, (refl, tt)))))))))))))))))),
  (refl, (refl, (refl, tt))),
)

pub short_samples_hold : (revision : ℕ) → is_revision revision ≡ true → samples.HoldShort (samples.short_samples revision)
short_samples_hold = either (λ (r : ℕ). samples.HoldShort (samples.short_samples r)) short_computed.0 short_computed.1

pub single_short_samples_hold : samples.HoldShort samples.single_short_samples
single_short_samples_hold = short_computed.2
