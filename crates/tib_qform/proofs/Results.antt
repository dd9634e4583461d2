-- What a result was before `map_err` or `ok`.
use Prim.Native.Nat.{ℕ}
use native.Mathlib.Omega.{arith}
use mathlib.Core.Path.{◌≡◌, refl, sym, ap, ◌∙◌, subst}
use mathlib.Core.List.{List}
use Rattle.std.specs.Prelude.{Option, Some, None, Result, Ok, Err, MatchResult, IsErrAnd}
use Rattle.std.specs.Result.{result_ok}
use Rattle.reading.specs.Reading.{Reading, accepted}
use Rattle.tib_dictionary.specs.internal.Cells.{CellsOf}
use Rattle.tib_dictionary.specs.declared.Entry.{Entry}
use Rattle.tib_qform.specs.internal.Found.{Noted}

module _ {T D E : Type 0} where
  pub was_err : (P : E → D → Type 0) (r : Result T E) {q : Result T D} → MatchResult r (λ x. q ≡ Ok x) (λ e. IsErrAnd q (P e)) → {y : D} → q ≡ Err y
      → (e : E) × (r ≡ Err e) × P e y
  was_err P (Ok x) h {y} g = let e : ◌≡◌ {A = Result T D} (Ok x) (Err y) = sym h ∙ g in let z : ◌≡◌ {A = ℕ} 0 1 = cc in absurd (omega arith)
  was_err P (Err e) h g = (e, refl, subst (λ q. IsErrAnd q (P e)) g h)

  pub was_ok : (P : E → D → Type 0) (r : Result T E) {q : Result T D} → MatchResult r (λ x. q ≡ Ok x) (λ e. IsErrAnd q (P e)) → {x : T} → q ≡ Ok x
      → r ≡ Ok x
  was_ok P (Ok y) h {x} g = let e : ◌≡◌ {A = Result T D} (Ok y) (Ok x) = sym h ∙ g in let f : y ≡ x = cc in ap (λ z. Ok z) f
  was_ok P (Err e) h {x} g = absurd (subst (λ q. IsErrAnd q (P e)) g h)

module _ {T E : Type 0} where
  pub ok_is_some : (r : Result T E) {q : Option T} → q ≡ result_ok r → {x : T} → q ≡ Some x → r ≡ Ok x
  ok_is_some (Ok y) h {x} g = let e : ◌≡◌ {A = Option T} (Some y) (Some x) = sym h ∙ g in let f : y ≡ x = cc in ap (λ z. Ok z) f
  ok_is_some (Err e) h {x} g =
      let e : ◌≡◌ {A = Option T} None (Some x) = sym h ∙ g in let z : ◌≡◌ {A = ℕ} 0 1 = cc in absurd (omega arith)

  pub ok_is_none : (r : Result T E) {q : Option T} → q ≡ result_ok r → q ≡ None → (e : E) × (r ≡ Err e)
  ok_is_none (Ok y) h g = let e : ◌≡◌ {A = Option T} (Some y) None = sym h ∙ g in let z : ◌≡◌ {A = ℕ} 0 1 = cc in absurd (omega arith)
  ok_is_none (Err e) h g = (e, refl)

-- A dictionary that was noted, where its place of a fault would be made a refusal.
pub was_noted : {D : Type 0} (P : ℕ → D → Type 0) (read : Reading (List Entry)) (r : Result (Unit {0}) ℕ) {q : Result (Unit {0}) D} (cells : List ℕ)
    → Noted read r cells → MatchResult r (λ x. q ≡ Ok x) (λ e. IsErrAnd q (P e)) → {x : Unit {0}} → q ≡ Ok x
    → (es : List Entry) × (read ≡ accepted es) × CellsOf es cells
was_noted P read r cells n h g = subst (λ r. Noted read r cells) (was_ok P r h g) n
