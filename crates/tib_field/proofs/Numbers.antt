-- The number of one octet.
use Prim.Native.Nat.{ℕ, ◌*◌, ◌+◌}
use native.Mathlib.Omega.{arith}
use mathlib.Core.Path.{◌≡◌, sym, ◌∙◌}
use mathlib.Core.List.{List, [], ◌∷◌}
use lib.ListN.{length, get_or}
use Rattle.octets.specs.Number.{big_endian}
use Rattle.octets.specs.internal.Bounded.{unsigned}
use Rattle.octets.proofs.Number.{unsigned_is}

pub one_octet : (s : List ℕ) (v : ℕ) → length s ≡ 1 → v ≡ get_or s 0 0 → v ≡ unsigned s
unfolding big_endian
one_octet [] v h e = absurd (omega arith)
one_octet (x ∷ []) v h e = let one : x * 1 + 0 ≡ x = omega arith in e ∙ sym (unsigned_is (x ∷ []) (omega arith) ∙ one)
one_octet (x ∷ y ∷ s) v h e = absurd (omega arith)
