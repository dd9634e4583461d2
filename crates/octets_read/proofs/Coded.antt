-- Laws for reading a tag or a length from the octets after its lead.
use Prim.Native.Nat.{ℕ, zero, suc, ◌+◌, ◌*◌, ◌-◌, ◌%◌, ◌^◌, ◌≤◌, ◌<◌}
use native.Mathlib.Omega.{arith}
use mathlib.Core.Path.{◌≡◌, refl, sym, subst}
use mathlib.Core.List.{List}
use lib.ListN.{length, take}
use borrow.Author.Tests.{lt-ltb, le-ltb}
use Rattle.octets.specs.Number.{big_endian}
use Rattle.octets.specs.ControlPart.{Code, tag_code, length_code}
use Rattle.octets.specs.Control.{following, coded}
use Rattle.octets_read.proofs.Numbers.{all_octets}

-- What holds at each lead that octets follow.
by_tag : (P : ℕ → Type 0) → P 14 → P 15 → (t : ℕ) → 14 ≤ t → t < 16 → P t
by_tag P a b t h k = go (t - 14) (omega arith)
  where
    go : (m : ℕ) → t ≡ 14 + m → P t
    go zero e = subst P (sym e) a
    go (suc zero) e = subst P (sym e) b
    go (suc (suc m)) e = absurd (omega arith)

by_length : (P : ℕ → Type 0) → P 12 → P 13 → P 14 → P 15 → (l : ℕ) → 12 ≤ l → l < 16 → P l
by_length P a b c d l h k = go (l - 12) (omega arith)
  where
    go : (m : ℕ) → l ≡ 12 + m → P l
    go zero e = subst P (sym e) a
    go (suc zero) e = subst P (sym e) b
    go (suc (suc zero)) e = subst P (sym e) c
    go (suc (suc (suc zero))) e = subst P (sym e) d
    go (suc (suc (suc (suc m)))) e = absurd (omega arith)

-- How many octets follow a tag's lead, and a length's, by difference and by shift.
pub tag_follow : (t : ℕ) → 14 ≤ t → t < 16 → t - 13 ≡ following tag_code t
unfolding following
tag_follow t h k = by_tag (λ (x : ℕ). x - 13 ≡ following tag_code x) refl refl t h k

pub length_follow : (l : ℕ) → 12 ≤ l → l < 16 → (1 * 2 ^ (l - 12)) % 2 ^ 64 ≡ following length_code l
unfolding following
length_follow l h k = by_length (λ (x : ℕ). (1 * 2 ^ (x - 12)) % 2 ^ 64 ≡ following length_code x) refl refl refl refl l h k

-- What a lead alone stands for, and what it stands for with the octets after it.
pub coded_direct : (code : Code) (t : ℕ) (s : List ℕ) → t < code.direct → t ≡ coded code t s
unfolding coded
coded_direct code t s h = rw (lt-ltb t code.direct h)

pub coded_after : (code : Code) (t : ℕ) (s : List ℕ) (v : ℕ) → code.direct ≤ t → v ≡ big_endian s → v ≡ coded code t s
unfolding coded
coded_after code t s v h e = rw (le-ltb t code.direct h) e

coded_first : (code : Code) (t : ℕ) (s : List ℕ) (v n : ℕ) → code.direct ≤ t → length s ≤ n → v ≡ big_endian (take n s) → v ≡ coded code t s
coded_first code t s v n h k e = coded_after code t s v h (all_octets s v n k e)

-- The octets after a tag's lead, which are one or two.
module _ (t : ℕ) (s : List ℕ) (h : t < 16) (e : length s ≡ following tag_code t) (k : 14 ≤ t) where
  pub tag_one : (0 < length s) × (length s ≤ 8)
  tag_one = let f = tag_follow t k h in (omega arith, omega arith)

  pub tag_two : (t ≡ 14 → ⊥) → (1 < length s) × (length s ≤ 8)
  tag_two ne = let f = tag_follow t k h in (omega arith, omega arith)

  pub tag_of_one : (v : ℕ) → t ≡ 14 → v ≡ big_endian (take 1 s) → v ≡ coded tag_code t s
  tag_of_one v q r = let f = tag_follow t k h in coded_first tag_code t s v 1 k (omega arith) r

  pub tag_of_two : (v : ℕ) → v ≡ big_endian (take 2 s) → v ≡ coded tag_code t s
  tag_of_two v r = let f = tag_follow t k h in coded_first tag_code t s v 2 k (omega arith) r

-- How the widths of lengths rise with their leads.
record Rise (l n : ℕ) : Type 0 where
  one : l ≤ n + 11
  two : 2 * l ≤ n + 24
  four : 4 * l ≤ n + 52
  most : n ≤ 8

length_rise : (l : ℕ) → 12 ≤ l → l < 16 → Rise l (following length_code l)
unfolding following
length_rise l h k =
    by_length (λ (x : ℕ). Rise x (following length_code x))
    (record { one = omega arith; two = omega arith; four = omega arith; most = omega arith })
    (record { one = omega arith; two = omega arith; four = omega arith; most = omega arith })
    (record { one = omega arith; two = omega arith; four = omega arith; most = omega arith })
    (record { one = omega arith; two = omega arith; four = omega arith; most = omega arith }) l h k

pub length_most : (l : ℕ) → 12 ≤ l → l < 16 → following length_code l ≤ 8
length_most l h k = (length_rise l h k).most

-- The octets after a length's lead, which are one, two, four or eight.
module _ (l : ℕ) (s : List ℕ) (h : l < 16) (e : length s ≡ following length_code l) (k : 12 ≤ l) where
  pub length_one : (0 < length s) × (length s ≤ 8)
  length_one = let r = length_rise l k h in omega (arith, r.one, r.most)

  pub length_two : (l ≡ 12 → ⊥) → (1 < length s) × (length s ≤ 8)
  length_two a = let r = length_rise l k h in omega (arith, r.one, r.most)

  pub length_four : (l ≡ 12 → ⊥) → (l ≡ 13 → ⊥) → (3 < length s) × (length s ≤ 8)
  length_four a b = let r = length_rise l k h in omega (arith, r.two, r.most)

  pub length_eight : (l ≡ 12 → ⊥) → (l ≡ 13 → ⊥) → (l ≡ 14 → ⊥) → length s ≡ 8
  length_eight a b c = let r = length_rise l k h in omega (arith, r.four, r.most)

  pub length_of_one : (v : ℕ) → l ≡ 12 → v ≡ big_endian (take 1 s) → v ≡ coded length_code l s
  unfolding following
  length_of_one v q r = coded_first length_code l s v 1 k (rw (e, q) (omega arith)) r

  pub length_of_two : (v : ℕ) → l ≡ 13 → v ≡ big_endian (take 2 s) → v ≡ coded length_code l s
  unfolding following
  length_of_two v q r = coded_first length_code l s v 2 k (rw (e, q) (omega arith)) r

  pub length_of_four : (v : ℕ) → l ≡ 14 → v ≡ big_endian (take 4 s) → v ≡ coded length_code l s
  unfolding following
  length_of_four v q r = coded_first length_code l s v 4 k (rw (e, q) (omega arith)) r
