-- Laws of a record by its octets.
use Prim.Native.Nat.{ℕ, suc, ◌+◌, ◌*◌, ◌≤◌, ◌<◌}
use native.Mathlib.Nat.{add-zero}
use native.Mathlib.Numerals.{add-one}
use native.Mathlib.Omega.{arith}
use mathlib.Core.Path.{◌≡◌, refl, sym, ap, ◌∙◌}
use mathlib.Core.Bool.{Bool, true, false, ◌&&◌, ◌||◌, and-false}
use mathlib.Core.List.{List, [], ◌∷◌}
use lib.ListN.{length, take, drop, get_or, length-take, length-drop, get_or-eq_default}
use lib.Seq.{drop-cons, drop-drop, take-take, get_or-take, get_or-drop, length-take-le}
use lib.Dec.{eqb}
use borrow.Author.Tests.{ne_eqb}
use Rattle.std.specs.Int.{w64, from_be_bytes}
use Rattle.octets.specs.Number.{big_endian}
use Rattle.table.specs.Entry.{entry}
use Rattle.table.specs.Load.{in_range, announced, record_size, place_at, record_at, word_of, word_at, well_formed}
use Rattle.table.proofs.Load.{announced_front, size_least, front_cut, place_more, place_grows, well_formed_whole, well_formed_range}
use Rattle.table_index.specs.internal.Record.{record_of, sized_word}
use Rattle.table_index.specs.declared.record.Record.{Record}
use Rattle.std.specs.Prelude.{Some, None}
use Rattle.std.specs.Bool.{then_some}

-- A slice that is not empty begins with the element at its offset.
next : (s : List ℕ) (k at after : ℕ) → at < length s → at + 1 ≡ after → take (suc k) (drop at s) ≡ get_or s at 0 ∷ take k (drop after s)
next s k at after h e = rw (drop-cons s at 0 h, ← e, add-one at) refl

-- ---- octets as a number

five_octets : (s : List ℕ) (at : ℕ) → at + 5 ≤ length s
    → (((get_or s at 0 * 256 + get_or s (at + 1) 0) * 256 + get_or s (at + 2) 0) * 256 + get_or s (at + 3) 0) * 256 + get_or s (at + 4) 0
    ≡ big_endian (take 5 (drop at s))
unfolding big_endian
five_octets s at h =
    rw (
      next s 4 at (at + 1) (omega arith) (omega arith),
      next s 3 (at + 1) (at + 2) (omega arith) (omega arith),
      next s 2 (at + 2) (at + 3) (omega arith) (omega arith),
      next s 1 (at + 3) (at + 4) (omega arith) (omega arith),
      next s 0 (at + 4) (at + 5) (omega arith) (omega arith),
    )
    (omega arith)

-- The same number, as `from_be_bytes` gives it.
pub five_read : (s : List ℕ) (at n : ℕ) → at + 5 ≤ length s
    → n ≡ from_be_bytes w64 (0 ∷ 0 ∷ 0 ∷ get_or s at 0 ∷ get_or s (at + 1) 0 ∷ get_or s (at + 2) 0 ∷ get_or s (at + 3) 0 ∷ get_or s (at + 4) 0 ∷ [])
    → n ≡ big_endian (take 5 (drop at s))
five_read s at n h e = omega (arith, five_octets s at h)

-- The announced length by the two octets that were read.
pub announced_read : (s : List ℕ) (at a b : ℕ) → at + 3 ≤ length s → a ≡ get_or s (at + 1) 0 → b ≡ get_or s (at + 2) 0 → a * 256 + b ≡ announced (drop at s)
unfolding announced big_endian
announced_read s at a b h p q =
    rw (p, q, drop-drop 1 at s, next s 1 (at + 1) (at + 2) (omega arith) (omega arith), next s 0 (at + 2) (at + 3) (omega arith) (omega arith)) (omega arith)

-- ---- the record at the front of octets

-- The first k octets as a record.
front_is : (k : ℕ) (s : List ℕ) → 3 ≤ k → k ≤ length s
    → well_formed (take k s) ≡ eqb (get_or s 0 0) 1 && (eqb (announced s) 5 || eqb (announced s) 6) && eqb k (3 + announced s) && in_range (entry (word_of (take k s)))
unfolding well_formed
front_is k s h l = rw (get_or-take k s 0 0 (omega arith), announced_front k s h, length-take-le k s l) refl

-- The word of a record of eight octets, and of nine.
eight_word : (s : List ℕ) → word_of (take 8 s) ≡ big_endian (take 5 (drop 3 s)) * 256
unfolding word_of
eight_word [] = omega arith
eight_word (a ∷ []) = omega arith
eight_word (a ∷ b ∷ []) = omega arith
eight_word (a ∷ b ∷ c ∷ s) =
    rw (take-take 5 5 s (omega arith), get_or-eq_default (take 5 s) 0 {n = 5} (omega (arith, length-take 5 s))) (omega arith)

nine_word : (s : List ℕ) → word_of (take 9 s) ≡ big_endian (take 5 (drop 3 s)) * 256 + get_or s 8 0
unfolding word_of
nine_word [] = refl
nine_word (a ∷ []) = refl
nine_word (a ∷ b ∷ []) = refl
nine_word (a ∷ b ∷ c ∷ s) = rw (take-take 5 6 s (omega arith), get_or-take 6 s 5 0 (omega arith)) refl

module _ (s : List ℕ) where
  wrong : well_formed (take (record_size s) s) ≡ false → None ≡ record_of s
  unfolding record_of
  wrong e = rw e refl

  front_tag : (get_or s 0 0 ≡ 1 → ⊥) → None ≡ record_of s
  unfolding well_formed
  front_tag d = wrong (rw (get_or-take (record_size s) s 0 0 (omega (arith, size_least s)), ne_eqb (get_or s 0 0) 1 d) refl)

  front_length : (announced s ≡ 5 → ⊥) → (announced s ≡ 6 → ⊥) → None ≡ record_of s
  unfolding well_formed
  front_length d e =
      let k = record_size s in
      wrong (rw (announced_front k s (omega (arith, size_least s)), ne_eqb (announced s) 5 d, ne_eqb (announced s) 6 e, and-false (eqb (get_or (take k s) 0 0) 1)) refl)

  eight_is : 8 ≤ length s → get_or s 0 0 ≡ 1 → announced s ≡ 5 → record_of s ≡ sized_word (big_endian (take 5 (drop 3 s)) * 256) 8
  unfolding record_of record_size sized_word
  eight_is l tag e = rw (e, front_is 8 s (omega arith) l, e, tag, eight_word s) refl

  nine_is : 9 ≤ length s → get_or s 0 0 ≡ 1 → announced s ≡ 6 → record_of s ≡ sized_word (big_endian (take 5 (drop 3 s)) * 256 + get_or s 8 0) 9
  unfolding record_of record_size sized_word
  nine_is l tag e = rw (e, front_is 9 s (omega arith) l, e, tag, nine_word s) refl

-- ---- the record at an offset

module _ (s : List ℕ) (at : ℕ) where
  first_is : get_or (drop at s) 0 0 ≡ get_or s at 0
  first_is = get_or-drop at s 0 0 ∙ rw (add-zero at) refl

  pub wrong_short : length s < at + 8 → at ≤ length s → None ≡ record_of (drop at s)
  wrong_short h l = wrong (drop at s) (front_cut (drop at s) (omega (arith, length-drop at s, size_least (drop at s))))

  pub wrong_tag : (get_or s at 0 ≡ 1 → ⊥) → None ≡ record_of (drop at s)
  wrong_tag d = front_tag (drop at s) (λ e. d (sym first_is ∙ e))

  module _ {a : ℕ} (length_is : a ≡ announced (drop at s)) where
    pub wrong_length : (a ≡ 5 → ⊥) → (a ≡ 6 → ⊥) → None ≡ record_of (drop at s)
    wrong_length d e = front_length (drop at s) (λ q. d (length_is ∙ q)) (λ q. e (length_is ∙ q))

    pub wrong_cut : a ≡ 6 → length s < at + 9 → at ≤ length s → None ≡ record_of (drop at s)
    unfolding record_size
    wrong_cut e h l =
        let size : record_size (drop at s) ≡ 9 = rw (← length_is, e) refl in
        wrong (drop at s) (front_cut (drop at s) (omega (arith, length-drop at s, size)))

    module _ {w : ℕ} (tag : get_or s at 0 ≡ 1) (word-is : w ≡ big_endian (take 5 (drop (at + 3) s))) where
      five_is : big_endian (take 5 (drop 3 (drop at s))) ≡ w
      five_is = rw (drop-drop 3 at s) (sym word-is)

      pub right_five : a ≡ 5 → at + 8 ≤ length s → sized_word (w * 256) 8 ≡ record_of (drop at s)
      right_five e l =
          rw (eight_is (drop at s) (omega (arith, length-drop at s)) (first_is ∙ tag) (sym length_is ∙ e), five_is) refl

      pub right_six : {m : ℕ} → a ≡ 6 → at + 9 ≤ length s → m ≡ get_or s (at + 8) 0 → sized_word (w * 256 + m) 9 ≡ record_of (drop at s)
      right_six e l q =
          rw (nine_is (drop at s) (omega (arith, length-drop at s)) (first_is ∙ tag) (sym length_is ∙ e), five_is, get_or-drop at s 8 0, q) refl

-- ---- what a result says of a record

record_of_wrong : (s : List ℕ) → None ≡ record_of s → well_formed (take (record_size s) s) ≡ false
unfolding record_of
record_of_wrong s e = go (well_formed (take (record_size s) s)) e
  where
    read : Record
    read = record { word = word_of (take (record_size s) s); size = record_size s }

    go : (t : Bool) → None ≡ then_some t read → t ≡ false
    go true q = let z : ◌≡◌ {A = ℕ} 0 1 = cc in absurd (omega arith)
    go false q = refl

record_of_word : (s : List ℕ) (r : Record) → Some r ≡ record_of s
    → (well_formed (take (record_size s) s) ≡ true) × (r.word ≡ word_of (take (record_size s) s)) × (r.size ≡ record_size s)
unfolding record_of
record_of_word s r e = go (well_formed (take (record_size s) s)) e
  where
    read : Record
    read = record { word = word_of (take (record_size s) s); size = record_size s }

    go : (t : Bool) → Some r ≡ then_some t read → (t ≡ true) × (r.word ≡ read.word) × (r.size ≡ read.size)
    go true q = let p : r ≡ read = cc in (refl, ap (λ (x : Record). x.word) p, ap (λ (x : Record). x.size) p)
    go false q = let z : ◌≡◌ {A = ℕ} 0 1 = cc in absurd (omega arith)

-- The record at n, read at its place.
module _ (s : List ℕ) (n at : ℕ) (place : at ≡ place_at s n) where
  pub record_wrong : None ≡ record_of (drop at s) → well_formed (record_at s n) ≡ false
  unfolding record_at
  record_wrong e = rw (← place) (record_of_wrong (drop at s) e)

  module _ (r : Record) (e : Some r ≡ record_of (drop at s)) where
    pub record_formed : well_formed (record_at s n) ≡ true
    unfolding record_at
    record_formed = rw (← place) (record_of_word (drop at s) r e).0

    pub record_word : r.word ≡ word_at s n
    unfolding word_at record_at
    record_word = rw (← place) (record_of_word (drop at s) r e).1

    pub record_range : in_range (entry r.word) ≡ true
    record_range = rw record_word (well_formed_range s n record_formed)

    -- The next record begins after it, and the octets do not end before that.
    pub record_next : at + r.size ≡ place_at s (suc n)
    unfolding place_at
    record_next = rw (← place, (record_of_word (drop at s) r e).2) refl

    pub record_within : at + r.size ≤ length s
    record_within = rw record_next (well_formed_whole s n record_formed)

-- ---- place after place

-- A record before the one at i, whose place is within the octets: the next one begins after it, and not after their end.
module _ (s : List ℕ) (i n at : ℕ) (within : place_at s i ≤ length s) (before : n < i) (place : at ≡ place_at s n) where
  pub place_inside : at + 8 ≤ length s
  place_inside = omega (arith, place_more s n, place_grows s (suc n) i (omega arith))

  module _ {size : ℕ} (size_is : size ≡ record_size (drop at s)) where
    pub place_next : at + size ≡ place_at s (n + 1)
    unfolding place_at
    place_next = rw (add-one n, ← place, size_is) refl

    pub place_within : at + size ≤ length s
    place_within = rw (place_next, add-one n) (omega (arith, place_grows s (suc n) i (omega arith)))
