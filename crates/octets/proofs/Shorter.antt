-- Being the shortest, and the only one of that length.
use Prim.Native.Nat.{ℕ, ◌+◌, ◌≤◌, ◌<◌}
use native.Mathlib.Omega.{arith}
use native.Mathlib.Nat.{eq-or-lt_of_le}
use mathlib.Core.Logic.{⊎_elim}
use mathlib.Core.Path.{◌≡◌, refl, ap₂}
use mathlib.Core.List.{List, ◌++◌}
use lib.ListN.{length, length-append}
use Rattle.octets.specs.Number.{Octets, big_endian, least_uint}
use Rattle.octets.proofs.Number.{number_injective, number_below, number_below_most, width_least, length_least_uint, octets_least_uint, number_least_uint}
use Rattle.octets.specs.NoShorter.{NoShorter}

pub no_shorter_self : (s : List ℕ) → NoShorter s s
no_shorter_self s = record { long = omega arith; same = λ e. refl }

pub no_shorter_append : (l s k t : List ℕ) → NoShorter l s → NoShorter k t → NoShorter (l ++ k) (s ++ t)
no_shorter_append l s k t a b =
    record {
      long = simp length-append (omega arith);
      same = λ e.
          let f : length l + length k ≡ length s + length t = simp length-append at e in
          let p = a.long in
          let q = b.long in
          ap₂ (λ (x y : List ℕ). x ++ y) (a.same (omega arith)) (b.same (omega arith));
    }

-- What is no shorter and not the same has more octets.
pub no_shorter_other : (l s : List ℕ) → NoShorter l s → (l ≡ s → ⊥) → length l < length s
no_shorter_other l s a ne = ⊎_elim (λ e. absurd (ne (a.same e))) (λ h. h) (eq-or-lt_of_le a.long)

-- Octets that hold a number are no shorter than its least octets.
pub least_uint_no_shorter : (s : List ℕ) → Octets s → length s ≤ 8 → NoShorter (least_uint (big_endian s)) s
least_uint_no_shorter s o h =
    let v = big_endian s in
    let shown = number_least_uint v (number_below_most s 8 o h) in
    let k = length_least_uint v in
    let m = width_least v (length s) (number_below s o) in
    record { long = omega arith; same = λ e. number_injective (least_uint v) s (octets_least_uint v) o e shown }
