-- The text of a message by the result of its check.
use Prim.Native.Nat.{ℕ, ◌≤◌}
use native.Mathlib.Omega.{arith}
use mathlib.Core.Path.{◌≡◌, refl, sym, ap, ◌∙◌}
use mathlib.Core.Bool.{Bool, true, false, cond, ◌&&◌}
use mathlib.Core.List.{List}
use lib.ListN.{length}
use lib.Dec.{ltb}
use borrow.Author.Tests.{eq-eqb, ne_eqb}
use Rattle.message.specs.internal.Accepts.{Accepts}
use Rattle.table.specs.Schema.{Schema, is_revision, schema}
use Rattle.table.specs.Valid.{valid}
use Rattle.octets.proofs.Bools.{and_left}
use Rattle.table.specs.declared.Table.{Table}
use Rattle.message.specs.Cut.{Cut}
use Rattle.message.specs.Tree as trees
use Rattle.message.specs.Tree.{tree}
use Rattle.reading.specs.Reading.{accepted, message_limit, last_number}
use Rattle.reading.specs.Refusals as refusals
use Rattle.reading.specs.internal.Verdicts.{IsAccepted}
use Rattle.message.specs.Reading.{reading}
use Rattle.reading.specs.Checks as answers
use Rattle.message_calls.specs.Check.{check, check_under, tree_counts}
use Rattle.message_calls.proofs.AcceptedByCheck.{check_passed}
use Rattle.reading.specs.declared.Checked.{Checked}
use Rattle.text_message.specs.Text.{page, shown, refusal_text, read_text, message_text}
use Rattle.text_message.specs.internal.OfTree.{of_tree, lines_of}

-- The text of a message that the check accepts.
shown_is : (t : Table) (s : List ℕ) (c : Checked) → c ≡ check t 2 0 s → c.refusal ≡ 0 → (cut : Cut) → reading (schema 2 t) 0 s ≡ accepted cut
    → c.fields ≡ trees.fields (tree (schema 2 t) 0 cut) → page (lines_of (schema 2 t) 8 0 s) c.fields (length s) ≡ message_text t s
unfolding message_text read_text shown lines_of of_tree reading
shown_is t s c e z cut r f = rw (← e, eq-eqb c.refusal 0 z, r, f)

-- A message that the check accepts is within the length limit, and its reading is a cut.
passed : (t : Table) (s : List ℕ) (c : Checked) → c ≡ check t 2 0 s → c.refusal ≡ 0
    → (length s ≤ message_limit) × ((cut : Cut) × (reading (schema 2 t) 0 s ≡ accepted cut))
passed t s c e z = check_passed t 2 0 s (ap (λ (x : Checked). x.refusal) (sym e) ∙ z)

-- The check's count of fields is that of the tree.
fields_are : (t : Table) (s : List ℕ) (c : Checked) → c ≡ check t 2 0 s → c.refusal ≡ 0 → (cut : Cut) → reading (schema 2 t) 0 s ≡ accepted cut
    → c.fields ≡ trees.fields (tree (schema 2 t) 0 cut)
unfolding check check_under answers.refusal tree_counts answers.counts
fields_are t s c e z cut r = long (ltb message_limit (length s)) e
  where
    Right : Type 0
    Right = c.fields ≡ trees.fields (tree (schema 2 t) 0 cut)

    read : c ≡ tree_counts (schema 2 t) 0 (reading (schema 2 t) 0 s) → Right
    read g = ap (λ (x : Checked). x.fields) (g ∙ ap (tree_counts (schema 2 t) 0) r)

    again : (b : Bool) → c ≡ cond b (answers.refusal refusals.too_long 0) (cond (ltb last_number 0) (answers.refusal refusals.table 0) (tree_counts (schema 2 t) 0 (reading (schema 2 t) 0 s))) → Right
    again true g = let l : c.refusal ≡ 1 = ap (λ (x : Checked). x.refusal) g in absurd (omega arith)
    again false g = read g

    good : (v : Bool) → c ≡ cond v (check_under (schema 2 t) 0 s) (answers.refusal refusals.table 0) → Right
    good true g = again (ltb message_limit (length s)) g
    good false g = let l : c.refusal ≡ 2 = ap (λ (x : Checked). x.refusal) g in absurd (omega arith)

    long : (b : Bool) → c ≡ cond b (answers.refusal refusals.too_long 0) (cond (valid t && is_revision 2) (check_under (schema 2 t) 0 s) (answers.refusal refusals.table 0)) → Right
    long true g = let l : c.refusal ≡ 1 = ap (λ (x : Checked). x.refusal) g in absurd (omega arith)
    long false g = good (valid t && is_revision 2) g

-- The message.
module _ (t : Table) (s : List ℕ) (c : Checked) (e : c ≡ check t 2 0 s) where
  pub message_refused : (c.refusal ≡ 0 → ⊥) → refusal_text c.refusal c.place ≡ message_text t s
  unfolding message_text
  message_refused ne = rw (← e, ne_eqb c.refusal 0 ne)

  module _ (z : c.refusal ≡ 0) where
    pub message_valid : valid t ≡ true
    unfolding check answers.refusal
    message_valid = and_left (valid t) (is_revision 2) (go (ltb message_limit (length s)) (valid t && is_revision 2) e)
      where
        go : (b v : Bool) → c ≡ cond b (answers.refusal refusals.too_long 0) (cond v (check_under (schema 2 t) 0 s) (answers.refusal refusals.table 0)) → v ≡ true
        go true v g = let l : c.refusal ≡ 1 = ap (λ (x : Checked). x.refusal) g in absurd (omega arith)
        go false true g = refl
        go false false g = let l : c.refusal ≡ 2 = ap (λ (x : Checked). x.refusal) g in absurd (omega arith)

    -- What holds under the schema of the table.
    module _ (sc : Schema) (same : sc ≡ schema 2 t) where
      pub message_accepts : (length s ≤ message_limit) × Accepts sc 8 0 s
      unfolding Accepts IsAccepted reading
      message_accepts = rw same (let p = passed t s c e z in (p.0, (p.1.0, p.1.1)))

      pub message_shown : page (lines_of sc 8 0 s) c.fields (length s) ≡ message_text t s
      message_shown =
          let p = (passed t s c e z).1 in
          rw same (shown_is t s c e z p.0 p.1 (fields_are t s c e z p.0 p.1))
