-- What the reading finds at the front of octets, test by test.
use Prim.Native.Nat.{ℕ, suc, ◌+◌, ◌-◌, ◌*◌, ◌/◌, ◌%◌, ◌≤◌, ◌<◌}
use native.Mathlib.Omega.{arith}
use mathlib.Core.Path.{◌≡◌, refl, sym, ◌∙◌}
use mathlib.Core.Bool.{Bool, true, false, cond}
use mathlib.Core.List.{List, [], ◌∷◌}
use lib.ListN.{length, get_or, take, drop}
use lib.Seq.{length-take-le}
use lib.Dec.{eqb}
use borrow.Author.Tests.{lt-ltb, le-ltb}
use Rattle.octets.specs.Number.{big_endian}
use Rattle.octets.specs.internal.Bounded.{unsigned}
use Rattle.octets.proofs.Slices.{length_zero, tail_part, front_part}
use Rattle.octets.proofs.Number.{unsigned_is}
use Rattle.tib_msg_field.specs.Layout.{kind, size_width, size_allowed}
use Rattle.tib_field.specs.Steps.{Fault}
use Rattle.tib_msg_field.specs.Reading.{HintStep, HintFault, type_allowed, array_hint, partial_hint, value_hint, read_hint, hint_at, with_hint, from_data, from_size, from_type}

pub hint_cut : (k size : ℕ) (s : List ℕ) → length s < 2 → HintFault 3 ≡ read_hint k size s
unfolding read_hint
hint_cut k size [] h = refl
hint_cut k size (t ∷ []) h = refl
hint_cut k size (t ∷ n ∷ s) h = absurd (omega arith)

pub hint_two : (k size : ℕ) (s : List ℕ) (t n : ℕ) → 2 ≤ length s → t ≡ get_or s 0 0 → n ≡ get_or s 1 0
    → cond (eqb k 8) (array_hint size t n) (cond (eqb k 9) (partial_hint t) (value_hint t n (length s - 2))) ≡ read_hint k size s
unfolding read_hint
hint_two k size [] t n h p q = absurd (omega arith)
hint_two k size (a ∷ []) t n h p q = absurd (omega arith)
hint_two k size (a ∷ b ∷ s) t n h p q = let e : suc (suc (length s)) - 2 ≡ length s = omega arith in rw (p, q, e)

module _ (n c w l : ℕ) (s : List ℕ) where
  pub data_cut_lem : length s < l → Fault 4 ≡ from_data n c w l s
  unfolding from_data
  data_cut_lem h = rw (lt-ltb (length s) l h)

  pub data_whole : l ≤ length s → (p : HintStep) → p ≡ hint_at c l (take (length s - l) (drop l s)) → with_hint n c w l p ≡ from_data n c w l s
  unfolding from_data
  data_whole h p e = rw (le-ltb (length s) l h, e, tail_part s l)

pub size_few : (c : ℕ) → size_width c ≤ 8
unfolding size_width
size_few c = go (eqb (c / 128 % 2) 1)
  where
    go : (t : Bool) → cond t 4 1 ≤ 8
    go true = omega arith
    go false = omega arith

-- A size takes four octets or one.
pub size_one : (c w : ℕ) → w ≡ size_width c → (w ≡ 4 → ⊥) → 1 ≡ size_width c
unfolding size_width
size_one c w e d = go (eqb (c / 128 % 2) 1) e
  where
    go : (t : Bool) → w ≡ cond t 4 1 → ◌≡◌ {A = ℕ} 1 (cond t 4 1)
    go true f = absurd (d f)
    go false f = refl

-- The value of a size of one octet, and of more.
pub one_read : (s : List ℕ) (l : ℕ) → (length s ≡ 0 → ⊥) → l ≡ get_or s 0 0 → l ≡ big_endian (take 1 s)
unfolding big_endian
one_read [] l h e = absurd (h refl)
one_read (x ∷ s) l h e = let a : x * 1 + 0 ≡ x = omega arith in e ∙ sym a

pub four_read : (s : List ℕ) (l : ℕ) → 4 ≤ length s → l ≡ unsigned (take (4 - 0) (drop 0 s)) → l ≡ big_endian (take 4 s)
four_read s l h r = let a = length-take-le 4 s h in r ∙ rw (front_part s 4) (unsigned_is (take 4 s) (omega arith))

module _ (n c w : ℕ) (s : List ℕ) where
  pub size_cut : length s < w → Fault 3 ≡ from_size n c w s
  unfolding from_size
  size_cut h = rw (lt-ltb (length s) w h)

  module _ (h : w ≤ length s) (l : ℕ) (r : l ≡ big_endian (take w s)) where
    pub size_bad : (k : ℕ) → k ≡ kind c → size_allowed k l ≡ false → Fault 16 ≡ from_size n c w s
    unfolding from_size
    size_bad k f g = rw (le-ltb (length s) w h, ← r, ← f, g)

    pub size_good : (k : ℕ) → k ≡ kind c → size_allowed k l ≡ true
        → from_data n c w l (take (length s - w) (drop w s)) ≡ from_size n c w s
    unfolding from_size
    size_good k f g = rw (le-ltb (length s) w h, ← r, ← f, g, tail_part s w)

pub type_cut : (n : ℕ) (s : List ℕ) → length s ≡ 0 → Fault 3 ≡ from_type n s
unfolding from_type
type_cut n s h = rw (length_zero s h)

type_some : (n : ℕ) (s : List ℕ) → (length s ≡ 0 → ⊥)
    → cond (type_allowed (get_or s 0 0)) (from_size n (get_or s 0 0) (size_width (get_or s 0 0)) (drop 1 s)) (Fault 16) ≡ from_type n s
unfolding from_type
type_some n [] h = absurd (h refl)
type_some n (c ∷ s) h = refl

module _ (n : ℕ) (s : List ℕ) (h : length s ≡ 0 → ⊥) where
  pub type_bad : type_allowed (get_or s 0 0) ≡ false → Fault 16 ≡ from_type n s
  type_bad e = rw e at (type_some n s h)

  pub type_good : type_allowed (get_or s 0 0) ≡ true
      → from_size n (get_or s 0 0) (size_width (get_or s 0 0)) (take (length s - 1) (drop 1 s)) ≡ from_type n s
  type_good e = rw (tail_part s 1) (rw e at (type_some n s h))
