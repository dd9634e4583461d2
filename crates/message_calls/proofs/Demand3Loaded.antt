-- Demand 3 of the order holds of the calls that take a table value. Demand3.antt has it of those that take a table's octets.
use Prim.Native.Nat.{ℕ, ◌+◌, ◌≤◌, ◌<◌}
use native.Mathlib.Omega.{arith}
use mathlib.Core.Path.{◌≡◌, refl, sym, ap, ◌∙◌, subst}
use mathlib.Core.Bool.{true, ◌&&◌}
use mathlib.Core.List.{List, ◌++◌}
use lib.ListN.{length, drop}
use Rattle.reading.specs.Refusals as refusals
use Rattle.reading.specs.Reading.{depth_limit, message_limit, last_number}
use Rattle.reading.specs.internal.Verdicts.{IsAccepted}
use Rattle.message.specs.internal.Accepts.{Accepts}
use Rattle.message.proofs.Accepted.{accepts_good, accepted_exactly, good_cut_unique}
use Rattle.octets_store.specs.Store.{stored}
use Rattle.octets_store.proofs.Stores.{stored_parts}
use Rattle.octets.specs.Number.{Octets}
use Rattle.table.specs.Schema.{is_revision, schema}
use Rattle.table.specs.Valid.{valid}
use Rattle.table.specs.declared.Table.{Table}
use Rattle.message.specs.Cut.{Cut, Good}
use Rattle.message.specs.ReadTheSame.{HasCut, IsShortest}
use Rattle.message.specs.Tree.{tree}
use Rattle.message.specs.Reading.{reading}
use Rattle.message.specs.Shortest.{shortest}
use Rattle.message.proofs.Shortened.{shortest_no_longer, is_shortest}
use Rattle.reading.specs.Checks.{counts}
use Rattle.reading.specs.declared.Checked.{Checked}
use Rattle.message_calls.specs.Check.{check, tree_counts}
use Rattle.message_calls.proofs.CheckAnswers.{read_through}
use Rattle.message_calls.specs.Shorten.{shortest_by_table, answer, buffer}
use Rattle.message_calls.specs.Demand3.{Demand3}
use Rattle.message_calls.proofs.ShortestPrefix.{shortest_is}
use Rattle.message_calls.proofs.ShortenAnswers.{shortestByTable-is, refused-first, no_room, shortened}
use Rattle.message_calls.proofs.AcceptedByCheck.{check_passed}

-- Whatever the check refuses under a table value, the shortener refuses alike, and it leaves the second buffer.
pub refused_alike_under : (t : Table) (revision n : ℕ) (s : List ℕ) → ((check t revision n s).refusal ≡ 0 → ⊥) → (out : List ℕ)
    → (answer t revision n s out ≡ record { refusal = (check t revision n s).refusal; place = (check t revision n s).place; length = 0 }) × (buffer t revision n s out ≡ out)
unfolding answer buffer
refused_alike_under t revision n s ne out =
    let r = refused-first (check t revision n s) (shortest_by_table t revision n s) out (check t revision n s) refl ne in
    (sym r.result_is, sym r.buffer-is)

module _ (t : Table) (revision n : ℕ) (v : valid t && is_revision revision ≡ true) (k : n ≤ last_number) where
  cut_accepted : (s : List ℕ) → length s ≤ message_limit → HasCut (schema revision t) n s → (check t revision n s).refusal ≡ 0
  unfolding tree_counts counts
  cut_accepted s h c =
      let e = (accepted_exactly (schema revision t) n s c.0).1 c.1 in
      ap (λ (x : Checked). x.refusal) (read_through t revision n s h v k ∙ ap (tree_counts (schema revision t) n) e)

  accepted_cut : (s : List ℕ) → (check t revision n s).refusal ≡ 0 → HasCut (schema revision t) n s
  unfolding Accepts IsAccepted reading
  accepted_cut s e = accepts_good (schema revision t) depth_limit n s (check_passed t revision n s e).1

  -- The short form is the shortest form of the tree of the cut.
  short_of : (s : List ℕ) (cut : Cut) → Good (schema revision t) depth_limit n s cut → shortest_by_table t revision n s ≡ shortest (tree (schema revision t) n cut)
  short_of s cut g = shortestByTable-is t revision n s ∙ shortest_is (schema revision t) depth_limit n s cut g

  module _ (s : List ℕ) (o : Octets s) (h : length s ≤ message_limit) (c : HasCut (schema revision t) n s) where
    passes : (check t revision n s).refusal ≡ 0
    passes = cut_accepted s h c

    is_short_lem : IsShortest (schema revision t) n s (shortest_by_table t revision n s)
    is_short_lem = subst (IsShortest (schema revision t) n s) (sym (short_of s c.0 c.1)) (is_shortest (schema revision t) n s c.0 o c.1)

    short_passes : (check t revision n (shortest_by_table t revision n s)).refusal ≡ 0
    short_passes =
        let e = ap length (short_of s c.0 c.1) in
        let l = shortest_no_longer (schema revision t) depth_limit n s c.0 o c.1 in
        let same = is_short_lem.reads_the_same in
        cut_accepted (shortest_by_table t revision n s) (omega arith) (same.second, same.second_good)

    written : (out : List ℕ) → length (shortest_by_table t revision n s) ≤ length out
        → (answer t revision n s out ≡ record { refusal = 0; place = 0; length = length (shortest_by_table t revision n s) })
        × (buffer t revision n s out ≡ shortest_by_table t revision n s ++ drop (length (shortest_by_table t revision n s)) out)
    unfolding answer buffer
    written out room =
        let xs = shortest_by_table t revision n s in
        let r = shortened (check t revision n s) xs out passes (length xs) (stored out 0 xs) room (omega arith) refl in
        let z : 0 + length xs ≡ length xs = omega arith in
        (sym r.result_is, sym r.buffer-is ∙ stored_parts out 0 xs (omega arith) ∙ rw z refl)

    unwritten : (out : List ℕ) → length out < length (shortest_by_table t revision n s)
        → (answer t revision n s out ≡ record { refusal = refusals.no_room; place = 0; length = 0 }) × (buffer t revision n s out ≡ out)
    unfolding answer buffer
    unwritten out room =
        let r = no_room (check t revision n s) (shortest_by_table t revision n s) out passes room in
        (sym r.result_is, sym r.buffer-is)

  -- Demand 3 of the calls that take a table value, where the loader can give it.
  pub demand_3_under : (s : List ℕ) → Octets s → length s ≤ message_limit → Demand3 (schema revision t) (check t revision) (answer t revision) (buffer t revision) n s
  demand_3_under s o h =
      record {
        accepted_exactly_cut = (accepted_cut s, cut_accepted s h);
        one_cut = good_cut_unique (schema revision t) depth_limit n s;
        shortened = λ c. (
          shortest_by_table t revision n s,
          record { is_shortest = is_short_lem s o h c; shortest_accepted = short_passes s o h c; with_room = written s o h c; without_room = unwritten s o h c },
        );
      }

  -- The short form of a short form is itself.
  pub shorten_again : (s : List ℕ) → Octets s → length s ≤ message_limit → HasCut (schema revision t) n s → shortest_by_table t revision n (shortest_by_table t revision n s) ≡ shortest_by_table t revision n s
  shorten_again s o h c =
      let r = (is_short_lem s o h c).reads_the_same in
      short_of (shortest_by_table t revision n s) r.second r.second_good ∙ ap shortest r.same_tree ∙ sym (short_of s r.first r.first_good)
