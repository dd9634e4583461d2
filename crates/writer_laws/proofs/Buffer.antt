-- The contents of a lent buffer while it is filled from its end.
use Prim.Native.Nat.{ℕ, ◌+◌, ◌-◌, ◌≤◌}
use native.Mathlib.Omega.{arith}
use mathlib.Core.Path.{◌≡◌, refl, sym, ap, ◌∙◌}
use mathlib.Core.List.{List, [], ◌++◌}
use lib.ListN.{length, take, drop, length-append, take-append-drop}
use lib.Seq.{take-take, drop-length}
use Rattle.octets_store.specs.Store.{stored}
use Rattle.octets_store.proofs.Stores.{length_stored, drop_stored, take_before_stored}
use Rattle.writer_laws.specs.Written.{AtEnd}

-- The octets xs stand from an offset to the end, and the octets before that offset are unchanged.
pub record Filled (lent d : List ℕ) (start : ℕ) (xs : List ℕ) : Type 0 where
  pub size : length d ≡ length lent
  pub place : start + length xs ≡ length lent
  pub stands : drop start d ≡ xs
  pub kept : take start d ≡ take start lent

pub not_filled : (lent : List ℕ) → Filled lent lent (length lent) []
not_filled lent = record { size = refl; place = omega arith; stands = drop-length lent; kept = refl }

-- Octets stored just before the others.
pub filled_before : (lent d : List ℕ) (start : ℕ) (xs ys : List ℕ) → Filled lent d start xs → length ys ≤ start
    → Filled lent (stored d (start - length ys) ys) (start - length ys) (ys ++ xs)
filled_before lent d start xs ys f h =
    let at = start - length ys in
    let e = f.size in
    let p = f.place in
    let l = length-append ys xs in
    let q : at + length ys ≡ start = omega arith in
    record {
      size = length_stored d at ys ∙ e;
      place = omega arith;
      stands = drop_stored d at ys (omega arith) ∙ rw (q, f.stands) refl;
      kept =
          take_before_stored d at at ys (omega arith) ∙ sym (take-take at start d (omega arith)) ∙ ap (take at) f.kept
          ∙ take-take at start lent (omega arith);
    }

pub filled_end : (lent d : List ℕ) (start : ℕ) (xs : List ℕ) → Filled lent d start xs → AtEnd lent start xs d
filled_end lent d start xs f =
    record { to_the_end = f.place; others_kept = sym (take-append-drop start d) ∙ rw (f.kept, f.stands) refl }
