-- Parts of octets that start or end where these do, and octets of length 0.
use Prim.Native.Nat.{ℕ, ◌-◌}
use native.Mathlib.Omega.{arith}
use mathlib.Core.Path.{◌≡◌, refl, sym, ap, ◌∙◌}
use mathlib.Core.List.{List, [], ◌∷◌}
use lib.ListN.{length, take, drop, length-drop}
use lib.Seq.{take_all}

pub length_zero : (s : List ℕ) → length s ≡ 0 → s ≡ []
length_zero [] e = refl
length_zero (x ∷ s) e = absurd (omega arith)

pub tail_part : (s : List ℕ) (d : ℕ) → take (length s - d) (drop d s) ≡ drop d s
tail_part s d = take_all (length s - d) (drop d s) (rw (length-drop d s) (omega arith))

-- What a reader that was handed the octets from i on found.
pub seen : {A : Type 0} (next : List ℕ → A) (s : List ℕ) (i : ℕ) (r p : A) → r ≡ next (take (length s - i) (drop i s)) → r ≡ p
    → next (drop i s) ≡ p
seen next s i r p e f = ap next (sym (tail_part s i)) ∙ sym e ∙ f

pub front_part : (s : List ℕ) (n : ℕ) → take (n - 0) (drop 0 s) ≡ take n s
front_part s n = let e : n - 0 ≡ n = omega arith in rw e
