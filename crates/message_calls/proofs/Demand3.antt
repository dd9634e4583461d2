-- Demand 3 of the order holds of the calls that take a field table as its octets: `check_octets` is what the contract of message_calls::check
-- says it answers, `shorten_octets` and `shorten_buffer` what that of message_calls::shorten says. specs/Demand3.antt states it.
use Prim.Native.Nat.{ℕ, ◌≤◌}
use mathlib.Core.Path.{◌≡◌, refl, sym, ap, ◌∙◌}
use mathlib.Core.Bool.{Bool, true, false, cond}
use mathlib.Core.List.{List}
use lib.ListN.{length}
use lib.Dec.{ltb, eqb}
use Rattle.octets.specs.Number.{Octets}
use Rattle.table.specs.Load.{load}
use Rattle.table.specs.Schema.{is_revision, schema}
use Rattle.reading.specs.Reading.{message_limit, last_number}
use Rattle.reading.specs.Checks as answers
use Rattle.reading.specs.declared.Checked.{Checked}
use Rattle.message_calls.proofs.AcceptedByCheck.{check_passed}
use Rattle.message_calls.specs.Shorten.{refusal}
use Rattle.message_calls.specs.Demand3.{Demand3, Demand3Holds}
use Rattle.message_calls.specs.declared.Shortened.{Shortened}
use Rattle.message_calls.proofs.Demand3Loaded.{demand_3_under, refused_alike_under}
use Rattle.message_calls.specs.Calls.{with_table, check_octets, shorten_octets, shorten_buffer}
use Rattle.message_calls.proofs.CallsByOctets.{loaded_good, check_as_loaded, shorten_as_loaded, buffer_as_loaded}

-- Where the check refuses, the shortener's answer is the same refusal, and the buffer afterwards the one before.
abbrev Alike : Checked → Shortened → List ℕ → List ℕ → Type 0
Alike c r after out =
    (c.refusal ≡ 0 → ⊥) → (r ≡ record { refusal = c.refusal; place = c.place; length = 0 }) × (after ≡ out)

refusal_alike : (reason place : ℕ) (out : List ℕ) → Alike (answers.refusal reason place) (refusal reason place) out out
unfolding answers.refusal refusal
refusal_alike reason place out ne = (refl, refl)

either_alike : (b : Bool) (c d : Checked) (r q : Shortened) (x y out : List ℕ)
    → Alike c r x out → Alike d q y out → Alike (cond b c d) (cond b r q) (cond b x y) out
either_alike true c d r q x y out p p' = p
either_alike false c d r q x y out p p' = p'

refused_alike : (table : List ℕ) (revision n : ℕ) (s out : List ℕ)
    → Alike (check_octets table revision n s) (shorten_octets table revision n s out) (shorten_buffer table revision n s out) out
unfolding check_octets shorten_octets shorten_buffer with_table
refused_alike table revision n s out =
    let l = load table in
    let t = l.table in
    either_alike (ltb message_limit (length s)) _ _ _ _ _ _ out (refusal_alike 1 0 out)
    (either_alike (eqb l.refusal 0) _ _ _ _ _ _ out (λ ne. refused_alike_under t revision n s ne out) (refusal_alike l.refusal l.place out))

within_limits : (table : List ℕ) → Octets table → (load table).refusal ≡ 0 → (revision : ℕ) → is_revision revision ≡ true
    → (n : ℕ) → n ≤ last_number → (s : List ℕ) → Octets s → length s ≤ message_limit
    → Demand3 (schema revision (load table).table) (check_octets table revision) (shorten_octets table revision) (shorten_buffer table revision) n s
within_limits table to loaded revision known n k s o h =
    let t = (load table).table in
    let d = demand_3_under t revision n (loaded_good table revision to loaded known) k s o h in
    let same = ap (λ (c : Checked). c.refusal) (check_as_loaded table s loaded h revision n) in
    record {
      accepted_exactly_cut = (λ e. d.accepted_exactly_cut.0 (sym same ∙ e), λ c. same ∙ d.accepted_exactly_cut.1 c);
      one_cut = d.one_cut;
      shortened = λ c.
          let short = (d.shortened c).0 in
          let p = (d.shortened c).1 in
          let e = p.shortest_accepted in (
            short,
            record {
              is_shortest = p.is_shortest;
              shortest_accepted = ap (λ (c : Checked). c.refusal) (check_as_loaded table short loaded (check_passed t revision n short e).0 revision n) ∙ e;
              with_room = λ out room.
                  let r = p.with_room out room in
                  (shorten_as_loaded table s loaded h revision n out ∙ r.0, buffer_as_loaded table s loaded h revision n out ∙ r.1);
              without_room = λ out room.
                  let r = p.without_room out room in
                  (shorten_as_loaded table s loaded h revision n out ∙ r.0, buffer_as_loaded table s loaded h revision n out ∙ r.1);
            },
          );
    }

pub demand_3 : Demand3Holds check_octets shorten_octets shorten_buffer
demand_3 = record { refused_alike = λ table revision n s ne out. refused_alike table revision n s out ne; within_limits = within_limits }
