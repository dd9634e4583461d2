-- The tests of a header, one by one, and the reading by what they find.
use Prim.Native.Nat.{ℕ, ◌+◌, ◌-◌, ◌≤◌, ◌<◌}
use native.Mathlib.Omega.{arith}
use mathlib.Core.Path.{◌≡◌, refl, sym, ◌∙◌}
use mathlib.Core.Bool.{Bool, true, false}
use mathlib.Core.List.{List}
use lib.ListN.{length, take, drop, length-drop}
use lib.Seq.{length-take-le}
use lib.Dec.{ltb}
use borrow.Author.Tests.{ltb-false, lt-ltb, le-ltb, eq-eqb, ne_eqb}
use Rattle.octets.specs.Number.{big_endian}
use Rattle.octets.specs.internal.Bounded.{unsigned}
use Rattle.octets.proofs.Number.{unsigned_is}
use Rattle.tib_field.specs.Mark.{begins}
use Rattle.reading.specs.Reading.{Reading, refused, message_limit}
use Rattle.tib_field.specs.Header.{header_octets, header_fault, after_header, reading_of}

module _ (magic s : List ℕ) where
  pub header_cut_lem : length s < length magic + 4 → 3 ≡ header_fault magic s
  unfolding header_fault header_octets
  header_cut_lem h = rw (lt-ltb (length s) (length magic + 4) h)

  module _ (b : length magic + 4 ≤ length s) where
    pub other_magic_lem : begins magic s ≡ false → 13 ≡ header_fault magic s
    unfolding header_fault header_octets
    other_magic_lem e = rw (le-ltb (length s) (length magic + 4) b, e)

    module _ (c : begins magic s ≡ true) where
      pub other_size_lem : (big_endian (take 4 (drop (length magic) s)) ≡ length s - (length magic + 4) → ⊥) → 14 ≡ header_fault magic s
      unfolding header_fault header_octets
      other_size_lem h =
          rw (le-ltb (length s) (length magic + 4) b, c, ne_eqb (big_endian (take 4 (drop (length magic) s))) (length s - (length magic + 4)) h)

      pub good_header : big_endian (take 4 (drop (length magic) s)) ≡ length s - (length magic + 4) → 0 ≡ header_fault magic s
      unfolding header_fault header_octets
      good_header h =
          rw (le-ltb (length s) (length magic + 4) b, c, eq-eqb (big_endian (take 4 (drop (length magic) s))) (length s - (length magic + 4)) h)

    -- The size in the header, as `uint` reads it.
    pub size_read : (end l : ℕ) → end ≡ length magic + 4 → l ≡ unsigned (take (end - length magic) (drop (length magic) s))
        → big_endian (take 4 (drop (length magic) s)) ≡ l
    size_read end l d e =
        let four : end - length magic ≡ 4 = omega arith in
        let m = length-drop (length magic) s in
        let n = length-take-le 4 (drop (length magic) s) (omega arith) in
        sym (e ∙ rw four (unsigned_is (take 4 (drop (length magic) s)) (omega arith)))

  -- A message with a good header has all its octets.
  pub header_inside : header_fault magic s ≡ 0 → length magic + 4 ≤ length s
  unfolding header_fault header_octets
  header_inside e = go (ltb (length s) (length magic + 4)) refl
    where
      go : (t : Bool) → ltb (length s) (length magic + 4) ≡ t → length magic + 4 ≤ length s
      go true f = let g : ◌≡◌ {A = ℕ} 3 0 = rw f at e in absurd (omega arith)
      go false f = ltb-false (length s) (length magic + 4) f

  -- The reading of a message, by its length and its header.
  module _ {A : Type 0} (fields : ℕ → List ℕ → Reading A) where
    pub read_long : message_limit < length s → reading_of magic fields s ≡ refused 1 0
    unfolding reading_of
    read_long h = rw (lt-ltb message_limit (length s) h)

    pub read_fault : length s ≤ message_limit → (k : ℕ) → k ≡ header_fault magic s → (k ≡ 0 → ⊥) → reading_of magic fields s ≡ refused k 0
    unfolding reading_of after_header
    read_fault h k e n = rw (le-ltb message_limit (length s) h, ← e, ne_eqb k 0 n)

    pub read_fields : length s ≤ message_limit → (k : ℕ) → k ≡ header_fault magic s → k ≡ 0
        → reading_of magic fields s ≡ fields (length magic + 4) (drop (length magic + 4) s)
    unfolding reading_of after_header header_octets
    read_fields h k e z = rw (le-ltb message_limit (length s) h, ← e, z)
