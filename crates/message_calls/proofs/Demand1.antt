-- Demand 1 of the order, its part about hproto messages, holds of the check that takes a field table as its octets. specs/Demand1.antt
-- states it.
use Prim.Native.Nat.{ℕ, ◌≤◌, ◌<◌}
use mathlib.Core.Path.{◌≡◌, refl, sym, ap, ◌∙◌, subst}
use mathlib.Core.Bool.{Bool, true, false, ◌&&◌}
use mathlib.Core.List.{List}
use mathlib.Core.Logic.{◌⊎◌, inl, inr}
use lib.ListN.{length}
use Rattle.reading.specs.Reading.{message_limit, last_number}
use Rattle.reading.specs.Refusals as refusals
use Rattle.octets.specs.Number.{Octets}
use Rattle.table.specs.Load.{load}
use Rattle.table.specs.Schema.{is_revision, schema}
use Rattle.table.specs.Valid.{valid}
use Rattle.table.specs.declared.Table.{Table}
use Rattle.table.proofs.LoadResults.{load_refusal}
use Rattle.reading.specs.Checks.{refusal, counts}
use Rattle.message.proofs.Accepted.{accepted_exactly, good_cut_unique}
use Rattle.message.proofs.FirstFault.{refused_exactly, first_fault_unique, cut_or_fault, cut_no_fault}
use Rattle.message_calls.specs.Check.{check, tree_counts}
use Rattle.message_calls.proofs.CheckAnswers as checks
use Rattle.message_calls.specs.Calls.{check_octets}
use Rattle.message_calls.specs.Demand1.{Demand1, Demand1Holds}
use Rattle.message_calls.proofs.CallsByOctets.{message_too_long, table_refused, loaded_good, check_as_loaded}

-- Demand 1 of the check that takes a table value, where the loader can give it.
pub demand_1_under : (t : Table) (revision n : ℕ) (s : List ℕ) → valid t && is_revision revision ≡ true → n ≤ last_number → Octets s
    → length s ≤ message_limit → Demand1 (schema revision t) n s (check t revision n s)
unfolding tree_counts counts
demand_1_under t revision n s v k o h =
    let sc = schema revision t in
    let e = checks.read_through t revision n s h v k in
    record {
      cut_or_fault = cut_or_fault sc 7 n s o;
      never_both = λ c f. cut_no_fault sc 7 n s o c.0 f.0 c.1 f.1;
      one_cut = good_cut_unique sc 8 n s;
      one_fault = first_fault_unique sc 7 n s o;
      with_cut = λ cut g. e ∙ ap (tree_counts sc n) ((accepted_exactly sc n s cut).1 g);
      with_fault = λ fault f. e ∙ ap (tree_counts sc n) ((refused_exactly sc n s o _ _).1 (fault, f, refl, refl));
    }

-- A number that is no revision and a message number over 15 are refused with 2, as a table that the loader cannot give is.
number_refused : (t : Table) (revision n : ℕ) (s : List ℕ) → length s ≤ message_limit → (is_revision revision ≡ false) ⊎ (last_number < n)
    → check t revision n s ≡ refusal refusals.table 0
number_refused t revision n s h (inl bad) = sym (checks.bad_table t revision n s h (checks.revision-fails t revision bad))
number_refused t revision n s h (inr k) = go (valid t && is_revision revision) refl
  where
    go : (v : Bool) → valid t && is_revision revision ≡ v → check t revision n s ≡ refusal refusals.table 0
    go true v = sym (checks.bad_number (schema revision t) n s h k ∙ checks.under-valid t revision n s h v (schema revision t) refl)
    go false v = sym (checks.bad_table t revision n s h v)

pub demand_1 : Demand1Holds check_octets
unfolding check_octets
demand_1 =
    record {
      too_long = λ table revision n s h. sym (message_too_long table s (λ (t : Table). check t revision n s) refusal h);
      bad_table = λ table revision n s h ne.
          sym (table_refused table s (λ (t : Table). check t revision n s) refusal h (load table) refl ne)
          ∙ ap (λ (k : ℕ). refusal k (load table).place) (load_refusal table ne);
      bad_number = λ table revision n s h z k. check_as_loaded table s z h revision n ∙ number_refused (load table).table revision n s h k;
      otherwise = λ table revision n s h z known k to o.
          let t = (load table).table in
          subst (Demand1 (schema revision t) n s) (sym (check_as_loaded table s z h revision n))
          (demand_1_under t revision n s (loaded_good table revision to z known) k o h);
    }
