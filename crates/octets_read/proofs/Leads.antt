-- Laws for reading a control part.
use Prim.Native.Nat.{ℕ, suc, ◌+◌, ◌*◌, ◌-◌, ◌/◌, ◌≤◌, ◌<◌}
use native.Mathlib.Nat.{add_assoc}
use native.Mathlib.Omega.{arith}
use mathlib.Core.Path.{◌≡◌, refl, sym, ap, ◌∙◌}
use mathlib.Core.List.{List, ◌∷◌}
use lib.Bits.{bit_and, and_mask, mask_lt}
use lib.ListN.{length, get_or, take, drop}
use lib.Seq.{drop-cons}
use borrow.Author.Tests.{lt-ltb, le-ltb}
use Rattle.octets.specs.Number.{big_endian}
use Rattle.octets.specs.ControlPart.{Code, tag_code, length_code}
use Rattle.octets.specs.Control.{following, coded, control_of, control}
use Rattle.octets.specs.declared.Control.TheVariants.{Absent, Partial, Whole}
use Rattle.octets.proofs.Slices.{length_zero, tail_part}
use Rattle.octets.proofs.ControlPart.{control_some}

-- No octets follow a lead that is the number itself.
pub direct : (code : Code) (t : ℕ) → t < code.direct → 0 ≡ following code t
unfolding following
direct code t h = rw (lt-ltb t code.direct h)

pub marked : (code : Code) (t k : ℕ) → t ≡ k → following code k ≡ following code t
marked code t k e = ap (following code) (sym e)

pub control_none : (s : List ℕ) → length s ≡ 0 → Absent ≡ control s
unfolding control
control_none s h = sym (ap control (length_zero s h))

-- A control part is read from its first octet, whose nybbles are taken by shift and mask, and the octets after it.
pub read_octet : (x t l : ℕ) (s : List ℕ) → x < 256 → t ≡ x / 16 → l ≡ bit_and x 15 → control_of t l s ≡ control (x ∷ s)
read_octet x t l s h p q = rw (p, q ∙ and_mask x 4) (control_some x s h)

-- The octet at an offset and the octets after it are the octets from there on.
pub octets_at : (s : List ℕ) (i : ℕ) → i < length s → get_or s i 0 ∷ take (length s - (i + 1)) (drop (i + 1) s) ≡ drop i s
octets_at s i h =
    let k : i + 1 ≡ suc i = omega arith in
    rw (tail_part s (i + 1), drop-cons s i 0 h, k) refl

pub control_from : (s : List ℕ) (i t l : ℕ) → i < length s → t < 16 → t ≡ get_or s i 0 / 16 → l ≡ bit_and (get_or s i 0) 15
    → control_of t l (take (length s - (i + 1)) (drop (i + 1) s)) ≡ control (drop i s)
control_from s i t l h b p q =
    read_octet (get_or s i 0) t l (take (length s - (i + 1)) (drop (i + 1) s)) (omega arith) p q ∙ ap control (octets_at s i h)

pub nybbles : (x t l : ℕ) → x < 256 → t ≡ x / 16 → l ≡ bit_and x 15 → (t < 16) × (l < 16)
nybbles x t l h p q = let m = mask_lt x 4 in (omega arith, omega arith)

-- A control part of one octet.
pub whole_direct : (t l : ℕ) (s : List ℕ) → t < 14 → l < 12 → Whole t l 1 ≡ control_of t l s
unfolding control_of following coded
whole_direct t l s a b = rw (lt-ltb t 14 a, lt-ltb l 12 b, le-ltb (length s) 0 (omega arith))

-- A control part of two octets, with the tag in the second.
pub whole_tag : (x l : ℕ) (s : List ℕ) → l < 12 → Whole x l 2 ≡ control_of 14 l (x ∷ s)
unfolding control_of following coded big_endian
whole_tag x l s h =
    let e : x * 1 + 0 ≡ x = omega arith in
    rw (lt-ltb l 12 h, le-ltb (suc (length s)) 1 (omega arith), e)

-- The same with the length in the second.
pub whole_length : (t x : ℕ) (s : List ℕ) → t < 14 → Whole t x 2 ≡ control_of t 12 (x ∷ s)
unfolding control_of following coded big_endian
whole_length t x s h =
    let e : x * 1 + 0 ≡ x = omega arith in
    rw (lt-ltb t 14 h, le-ltb (suc (length s)) 1 (omega arith), e)

module _ (t l n m : ℕ) (s : List ℕ) (e : n ≡ following tag_code t) (f : m ≡ following length_code l) where
  pub partial : length s < n + m → Partial ≡ control_of t l s
  unfolding control_of
  partial h = rw (← e, ← f, lt-ltb (length s) (n + m) h)

  pub whole : (a b : ℕ) → n + m ≤ length s → a ≡ coded tag_code t (take (n - 0) (drop 0 s))
      → b ≡ coded length_code l (take (n + m - n) (drop n s)) → Whole a b (1 + (n + m)) ≡ control_of t l s
  unfolding control_of
  whole a b h p q =
      let y : n - 0 ≡ n = omega arith in
      let z : n + m - n ≡ m = omega arith in
      rw (← e, ← f, le-ltb (length s) (n + m) h, add_assoc 1 n m, p, q, y, z)
