-- How the message numbers, tags and marks of a state agree with the fields given.
use Prim.Native.Nat.{ℕ, suc, ◌+◌, ◌≤◌, ◌<◌}
use native.Mathlib.Omega.{arith}
use mathlib.Core.Path.{◌≡◌, refl, ap, ◌∙◌}
use mathlib.Core.Bool.{true}
use mathlib.Core.List.{List, []}
use lib.ListN.{length, get_or, set, take, length-append}
use lib.Seq.{take-suc, get_or-set_same, get_or-set_other}
use Rattle.table.specs.Schema.{schema}
use Rattle.table.specs.Valid.{valid}
use Rattle.table.specs.declared.Table.{Table}
use Rattle.message.specs.Tree.{Tree, end}
use Rattle.message.specs.Shortest.{shortest}
use Rattle.writer_state.specs.Sound.{falling, small}
use Rattle.writer_laws.specs.Given.{Given, message, opened, on_fields, open_fields, innermost}
use Rattle.writer_laws.specs.Written.{written}
use Rattle.writer_laws.proofs.Tables.{inner_small}
use Rattle.writer_laws.proofs.Falling.{falling_last, small_last}

module _ (t : Table) (revision number len : ℕ) where
  -- The entries of the state for an open field. The octets before its mark are its contents, those from the mark on lie around it.
  pub record FieldAgrees (numbers marks tags : List ℕ) (tag : ℕ) (w : Tree) (around : Given) : Type 0 where
    pub tag_agrees : get_or tags (open_fields around) 0 ≡ tag
    pub mark_agrees : get_or marks (open_fields around) 0 + length (written around) ≡ len
    pub number_agrees : get_or numbers (suc (open_fields around)) 0 ≡ innermost (schema revision t) number (opened tag w around)

  unfoldable pub LevelsAgree : List ℕ → List ℕ → List ℕ → Given → Type 0
  LevelsAgree numbers marks tags (message w) = get_or numbers 0 0 ≡ number
  LevelsAgree numbers marks tags (opened tag w around) = FieldAgrees numbers marks tags tag w around × LevelsAgree numbers marks tags around

  module _ (numbers marks tags : List ℕ) where
    -- The number that the state has for the innermost message is its message number.
    pub levels_number : (g : Given) → LevelsAgree numbers marks tags g → get_or numbers (open_fields g) 0 ≡ innermost (schema revision t) number g
    unfolding LevelsAgree open_fields innermost
    levels_number (message w) n = n
    levels_number (opened tag w around) n = n.0.number_agrees

    pub levels_more : (f : Tree → Tree) (g : Given) → LevelsAgree numbers marks tags g → LevelsAgree numbers marks tags (on_fields f g)
    unfolding LevelsAgree on_fields innermost
    levels_more f (message w) n = n
    levels_more f (opened tag w around) n =
        (record { tag_agrees = n.0.tag_agrees; mark_agrees = n.0.mark_agrees; number_agrees = n.0.number_agrees }, n.1)

    -- The marks in use fall to every place from which on all is written.
    pub levels_fall : (g : Given) (from : ℕ) → open_fields g ≤ length marks → from + length (written g) ≡ len → LevelsAgree numbers marks tags g
        → falling from len (take (open_fields g) marks) ≡ true
    unfolding LevelsAgree open_fields written falling
    levels_fall (message w) from h e n = refl
    levels_fall (opened tag w around) from h e n =
        let k = open_fields around in
        let m = get_or marks k 0 in
        let q = n.0.mark_agrees in
        let l = length-append (shortest w) (written around) in
        rw (take-suc marks k 0 h) (falling_last from m len (take k marks) (omega arith) (omega arith)
        (levels_fall around m (omega arith) q n.1))

    pub levels_small : valid t ≡ true → number ≤ 15 → (g : Given) → suc (open_fields g) ≤ length numbers → LevelsAgree numbers marks tags g
        → small (take (suc (open_fields g)) numbers) ≡ true
    unfolding LevelsAgree open_fields innermost small
    levels_small v s (message w) h n = rw (take-suc numbers 0 0 h) (small_last (get_or numbers 0 0) [] (omega (arith, n)) refl)
    levels_small v s (opened tag w around) h n =
        let k = suc (open_fields around) in
        let e = n.0.number_agrees in
        let l = inner_small revision t (innermost (schema revision t) number around) tag v in
        rw (take-suc numbers k 0 h) (small_last (get_or numbers k 0) (take k numbers) (omega arith)
        (levels_small v s around (omega arith) n.1))

    -- Entries for one more level do not change those of the levels around it.
    levels_kept : (j tag mark m : ℕ) (g : Given) → open_fields g ≤ j → LevelsAgree numbers marks tags g
        → LevelsAgree (set numbers (suc j) m) (set marks j mark) (set tags j tag) g
    unfolding LevelsAgree open_fields
    levels_kept j tag mark m (message w) h n = get_or-set_other numbers (suc j) 0 m 0 (λ z. omega arith) ∙ n
    levels_kept j tag mark m (opened k w around) h n =
        let i = open_fields around in (
          record {
            tag_agrees = get_or-set_other tags j i tag 0 (λ z. omega arith) ∙ n.0.tag_agrees;
            mark_agrees = ap (λ (x : ℕ). x + length (written around)) (get_or-set_other marks j i mark 0 (λ z. omega arith)) ∙ n.0.mark_agrees;
            number_agrees = get_or-set_other numbers (suc j) (suc i) m 0 (λ z. omega arith) ∙ n.0.number_agrees;
          },
          levels_kept j tag mark m around (omega arith) n.1,
        )

    pub levels_opened : (tag start : ℕ) (g : Given) → suc (open_fields g) < length numbers → open_fields g < length marks → open_fields g < length tags
        → start + length (written g) ≡ len → LevelsAgree numbers marks tags g
        → LevelsAgree (set numbers (suc (open_fields g)) (innermost (schema revision t) number (opened tag end g))) (set marks (open_fields g) start)
        (set tags (open_fields g) tag) (opened tag end g)
    unfolding LevelsAgree
    levels_opened tag start g a b d e n =
        let k = open_fields g in
        let m = innermost (schema revision t) number (opened tag end g) in (
          record {
            tag_agrees = get_or-set_same tags k tag 0 d;
            mark_agrees = ap (λ (x : ℕ). x + length (written g)) (get_or-set_same marks k start 0 b) ∙ e;
            number_agrees = get_or-set_same numbers (suc k) m 0 a;
          },
          levels_kept k tag start m g (omega arith) n,
        )
