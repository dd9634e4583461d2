-- When the check that takes the octets of a table accepts, and what it answers then.
use Prim.Native.Nat.{ℕ, ◌≤◌}
use native.Mathlib.Omega.{arith}
use mathlib.Core.Path.{◌≡◌, refl, sym, ap, ◌∙◌}
use mathlib.Core.Bool.{Bool, true, false}
use mathlib.Core.List.{List}
use mathlib.Core.Logic.{inr}
use lib.ListN.{length}
use lib.Dec.{ltb}
use borrow.Author.Tests.{ltb-true, ltb-false}
use Rattle.reading.specs.Reading.{message_limit, depth_limit, last_number}
use Rattle.reading.specs.Checks.{refusal, counts}
use Rattle.reading.specs.declared.Checked.{Checked}
use Rattle.octets.specs.Number.{Octets}
use Rattle.table.specs.Load.{load}
use Rattle.table.specs.Schema.{Schema, is_revision, schema}
use Rattle.table.specs.declared.Table.{Table}
use Rattle.message.specs.Cut.{Cut, Good}
use Rattle.message.specs.Tree.{tree, fields, depth}
use Rattle.message.specs.ReadTheSame.{HasCut}
use Rattle.message.proofs.Accepted.{accepted_exactly}
use Rattle.message_calls.specs.Calls.{check_octets}
use Rattle.message_calls.specs.Check.{tree_counts, check}
use Rattle.message_calls.proofs.AcceptedByCheck.{check_passed}
use Rattle.message_calls.proofs.CallsByOctets.{not_refused, loaded_good, check_as_loaded}
use Rattle.message_calls.proofs.CheckAnswers.{read_through}
use Rattle.message_calls.proofs.Demand1.{demand_1}

-- A message that the check can accept: its length and its number are within the limits, and it has a cut.
pub record Acceptable (sc : Schema) (n : ℕ) (s : List ℕ) : Type 0 where
  pub short_enough : length s ≤ message_limit
  pub numbered : n ≤ last_number
  pub divided : HasCut sc n s

module _ (table : List ℕ) (loads : (load table).refusal ≡ 0) (revision n : ℕ) (s : List ℕ) where
  abbrev sc : Schema
  sc = schema revision (load table).table

  -- A message that the check accepts is acceptable,
  pub accepted_acceptable : (check_octets table revision n s).refusal ≡ 0 → Acceptable sc n s
  unfolding check_octets refusal
  accepted_acceptable e =
      number (ltb last_number n) refl (not_refused table s (λ (t : Table). check t revision n s) refusal (λ (c : Checked). c.refusal) (λ reason place. refl) e).0
    where
      read : length s ≤ message_limit → n ≤ last_number → Acceptable sc n s
      read h k =
          let p = (check_passed (load table).table revision n s (sym (ap (λ (c : Checked). c.refusal) (check_as_loaded table s loads h revision n)) ∙ e)).1 in
          record { short_enough = h; numbered = k; divided = (p.0, (accepted_exactly sc n s p.0).0 p.1) }

      number : (b : Bool) → ltb last_number n ≡ b → length s ≤ message_limit → Acceptable sc n s
      number true f h =
          let r = ap (λ (c : Checked). c.refusal) (demand_1.bad_number table revision n s h loads (inr (ltb-true last_number n f))) in
          absurd (omega (arith, e, r))
      number false f h = read h (ltb-false last_number n f)

  -- and an acceptable one is accepted, with the counts of its tree.
  module _ (o : Octets table) (known : is_revision revision ≡ true) where
    pub counted : length s ≤ message_limit → n ≤ last_number → (cut : Cut) → Good sc depth_limit n s cut
        → check_octets table revision n s ≡ record { refusal = 0; place = 0; fields = fields (tree sc n cut); depth = depth (tree sc n cut) }
    unfolding tree_counts counts
    counted h k cut g =
        check_as_loaded table s loads h revision n ∙ read_through (load table).table revision n s h (loaded_good table revision o loads known) k
        ∙ ap (tree_counts sc n) ((accepted_exactly sc n s cut).1 g)

    pub acceptable_accepted : Acceptable sc n s → (check_octets table revision n s).refusal ≡ 0
    acceptable_accepted a = ap (λ (c : Checked). c.refusal) (counted a.short_enough a.numbered a.divided.0 a.divided.1)
