-- Shared by the loops of `write` and `measure`: the shortest form of the fields so far is a prefix of the whole shortest form.
use Prim.Native.Nat.{ℕ, suc, ◌%◌, ◌≤◌}
use native.Mathlib.Nat.{mod-eq_of_lt}
use native.Mathlib.Omega.{arith}
use mathlib.Core.Path.{◌≡◌, sym, ap, ◌∙◌}
use mathlib.Core.List.{List, [], ◌++◌, append_assoc, append-nil}
use lib.ListN.{length, take, drop, length-append}
use Rattle.octets.specs.Number.{Octets}
use Rattle.octets.proofs.Number.{octets_part}
use Rattle.octets.proofs.ControlPart.{part_of_control, part_bounds}
use Rattle.table.specs.Schema.{Schema}
use Rattle.table.specs.declared.Meaning.{Meaning}
use Rattle.table.specs.declared.Meaning.TheVariants.{Message}
use Rattle.message.specs.Cut.{Cut, Contents, Good}
use Rattle.message.specs.Tree.{Tree, value, tree}
use Rattle.message.specs.internal.Accepts.{Accepts}
use Rattle.message.specs.Shortest.{least_contents, field, shortest}
use Rattle.message.proofs.Accepted.{good_accepted, accepts_good, good_accepts}
use Rattle.message.proofs.Next.{Plain}
use Rattle.message_field.specs.internal.Heads.{head_at}
use Rattle.message_field.specs.internal.Heads.{Head}
use Rattle.message_field.specs.internal.Heads.{Field}
use Rattle.message_field.specs.internal.Heads.{Fieldless}
use Rattle.message_field.proofs.FieldsByHead as fields
use Rattle.message_field.proofs.FieldsByHead.{Remaining, all_remaining, none_remaining, here, leaf_next, nested_next}
use Rattle.message_calls.specs.Written.{shortest_of_reading}
use Rattle.message_calls.specs.internal.Stores.{shortest_within}

-- The cut of an accepted message, and its shortest form.
pub shortest_is : (sc : Schema) (levels n : ℕ) (s : List ℕ) (cut : Cut) → Good sc levels n s cut → shortest_within sc levels n s ≡ shortest (tree sc n cut)
unfolding shortest_within shortest_of_reading
shortest_is sc levels n s cut g = rw (good_accepted sc levels n 0 0 s cut g)

module _ (sc : Schema) (levels n : ℕ) (s : List ℕ) where
  -- After i octets, `written` is the shortest form of the fields so far.
  pub record Passed (i : ℕ) (written : List ℕ) : Type 0 where
    pub remaining : Remaining sc levels n s i
    pub whole : shortest_within sc (suc levels) n s ≡ written ++ shortest (tree sc n remaining.rest)

  pub nothing_passed : Accepts sc (suc levels) n s → Passed 0 []
  nothing_passed a =
      let g = accepts_good sc (suc levels) n s a in
      record { remaining = all_remaining sc levels n s g.0 g.1; whole = shortest_is sc (suc levels) n s g.0 g.1 }

  pub all_passed : (i : ℕ) (written : List ℕ) → Passed i written → (h : Head) → head_at i (drop i s) ≡ h → Fieldless h
      → shortest_within sc (suc levels) n s ≡ written
  unfolding tree shortest
  all_passed i written p h e q =
      p.whole ∙ ap (λ (c : Cut). written ++ shortest (tree sc n c)) (none_remaining sc levels n s i p.remaining h e q) ∙ append-nil written

  module _ (i : ℕ) (written : List ℕ) (p : Passed i written) (tag start stop : ℕ) (found : head_at i (drop i s) ≡ Field tag start stop) where
    -- The field's contents.
    abbrev pub field_contents : List ℕ
    field_contents = fields.field_contents sc levels n s i p.remaining tag start stop found

    -- Its tag has at most two octets.
    pub tag_small : Octets s → tag % 65536 ≡ tag
    tag_small o =
        let x = here sc levels n s i p.remaining tag start stop found in
        mod-eq_of_lt
        (part_bounds (take x.size (drop i s)) tag x.len (octets_part x.size i s o)
        (part_of_control (drop i s) tag x.len x.size x.control_part)).0

    module _ (k : Meaning) (means : k ≡ sc.means n tag) where
      -- A field that is no message: its least form is the next part of the shortest form.
      pub leaf_passed : Plain k → Passed stop (written ++ field tag (least_contents (value k field_contents)))
      unfolding shortest
      leaf_passed q =
          let x = leaf_next sc levels n s i p.remaining tag start stop found k means q in
          record {
            remaining = x.remaining;
            whole =
                p.whole ∙ ap (λ (y : Tree). written ++ shortest y) x.tree_is
                ∙ sym (append_assoc written (field tag (least_contents (value k field_contents))) (shortest (tree sc n x.remaining.rest)));
          }

      pub leaf_contents : Plain k → Contents k field_contents
      leaf_contents q = (leaf_next sc levels n s i p.remaining tag start stop found k means q).contents

      -- A field that is a message of the number m: it is accepted, and its shortest form with a control part is the next part.
      pub record NestedPassed (m : ℕ) : Type 0 where
        pub accepts : Accepts sc levels m field_contents
        pub passed : Passed stop (written ++ field tag (shortest_within sc levels m field_contents))
        pub positive : 1 ≤ levels

      pub nested_passed : (m : ℕ) → k ≡ Message m → NestedPassed m
      unfolding shortest
      nested_passed m q =
          let x = nested_next sc levels n s i p.remaining tag start stop found k means m q in
          let e = shortest_is sc levels m field_contents x.inner x.good_inner in
          record {
            accepts = good_accepts sc levels m field_contents x.inner x.good_inner;
            passed =
                record {
                  remaining = x.remaining;
                  whole =
                      p.whole ∙ ap (λ (y : Tree). written ++ shortest y) x.tree_is
                      ∙ rw (← e) (sym (append_assoc written (field tag (shortest_within sc levels m field_contents)) (shortest (tree sc n x.remaining.rest))));
                };
            positive = x.positive;
          }

  -- What has been passed is no longer than the whole.
  pub passed_length : (i : ℕ) (written : List ℕ) → Passed i written → length written ≤ length (shortest_within sc (suc levels) n s)
  passed_length i written p = rw p.whole (simp length-append (omega arith))
