-- Invariants of loops that store octets: how they begin, how a step keeps them, and what they give at the end.
use Prim.Native.Nat.{ℕ, suc, ◌+◌, ◌≤◌, ◌<◌}
use native.Mathlib.Omega.{arith}
use mathlib.Core.Path.{◌≡◌, refl, sym, ap, ap₂, ◌∙◌}
use mathlib.Core.List.{List, [], ◌∷◌, ◌++◌}
use lib.ListN.{length, set, length-append}
use lib.Seq.{sets, length-sets}
use Rattle.octets_store.specs.Store.{stored}
use Rattle.octets_store.proofs.Sets.{sets_append, sets_before_sets}
use Rattle.octets_store.proofs.Stores.{stored_fits}

-- The buffer d with xs from `at` on, where they fit.
pub record Written (d : List ℕ) (at : ℕ) (xs out : List ℕ) : Type 0 where
  pub room : at + length xs ≤ length d
  pub is : out ≡ sets d at xs

pub written_length : (d : List ℕ) (at : ℕ) (xs out : List ℕ) → Written d at xs out → length out ≡ length d
written_length d at xs out w = ap length w.is ∙ length-sets d at xs

pub written_stored : (d : List ℕ) (at : ℕ) (xs out : List ℕ) → Written d at xs out → out ≡ stored d at xs
written_stored d at xs out w = w.is ∙ sym (stored_fits d at xs w.room)

pub none_written : (d : List ℕ) (at : ℕ) → at ≤ length d → Written d at [] d
none_written d at h = record { room = omega arith; is = refl }

pub more_before : (d : List ℕ) (i j : ℕ) (ys xs out : List ℕ) → j + length ys ≡ i → Written d i xs out → Written d j (ys ++ xs) (sets out j ys)
more_before d i j ys xs out e w =
    let r = w.room in
    record {
      room = rw (length-append ys xs) (omega arith);
      is =
          ap (λ (l : List ℕ). sets l j ys) w.is ∙ sets_before_sets d i j ys xs (omega arith)
          ∙ ap (λ (k : ℕ). sets (sets d j ys) k xs) (sym e) ∙ sym (sets_append d j ys xs);
    }

pub one_before : (d : List ℕ) (i j x : ℕ) (xs out : List ℕ) → suc j ≡ i → Written d i xs out → Written d j (x ∷ xs) (set out j x)
one_before d i j x xs out e w = more_before d i j (x ∷ []) xs out (omega arith) w

pub one_after : (d : List ℕ) (at j x : ℕ) (xs out : List ℕ) → at + length xs ≡ j → j < length d → Written d at xs out
    → Written d at (xs ++ (x ∷ [])) (set out j x)
one_after d at j x xs out e h w =
    record {
      room = rw (length-append xs (x ∷ [])) (omega arith);
      is = ap₂ (λ (l : List ℕ) (k : ℕ). set l k x) w.is (sym e) ∙ sym (sets_append d at xs (x ∷ []));
    }
