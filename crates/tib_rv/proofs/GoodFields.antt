-- The sizes of a good field, read from its octets with no test.
use Prim.Native.Nat.{ℕ, ◌+◌, ◌-◌, ◌≤◌, ◌<◌}
use native.Mathlib.Omega.{arith}
use mathlib.Core.Path.{◌≡◌, refl, sym, ap, ◌∙◌}
use mathlib.Core.List.{List, [], ◌∷◌, ◌++◌, append_assoc}
use mathlib.Core.Option.{some}
use lib.ListN.{length, get_or, take, drop, length-append}
use lib.Seq.{drop_at, get_or_at, length-take-le}
use borrow.Author.Tests.{le-ltb, eq-eqb, ne_eqb}
use Rattle.octets.specs.Number.{big_endian}
use Rattle.octets.specs.internal.Bounded.{unsigned}
use Rattle.octets.proofs.Slices.{tail_part, front_part}
use Rattle.octets.proofs.Number.{unsigned_is}
use Rattle.tib_rv_field.specs.declared.Sizes.{Sizes}
use Rattle.tib_rv_field.specs.Reading.{Step, Done, Fault, Over, Into, following, own, counted, found, next_field}
use Rattle.tib_rv_field.proofs.Steps.{Finds, Read, step_read}
use Rattle.tib_rv.specs.internal.Found.{any_field, HasField}

-- The count in a size of more than one octet.
pub count_long : (m : ℕ) (s : List ℕ) (w k : ℕ) → 0x79 ≤ m → following m ≤ length s → w ≡ following m → w ≤ 4
    → k ≡ unsigned (take (w - 0) (drop 0 s)) → k ≡ counted m s
unfolding counted
count_long m s w k h there e few r =
    let l = length-take-le w s (omega arith) in
    let a : k ≡ big_endian (take w s) = r ∙ rw (front_part s w) (unsigned_is (take w s) (omega arith)) in
    rw (le-ltb m 0x79 h, ← e) a

finds : (q : Step) (z : Sizes) → any_field q ≡ some z → Finds q
unfolding any_field Finds
finds Done z e = let y : ◌≡◌ {A = ℕ} 0 1 = cc in absurd (omega arith)
finds (Fault k) z e = let y : ◌≡◌ {A = ℕ} 0 1 = cc in absurd (omega arith)
finds (Over x) z e = tt
finds (Into x) z e = tt

module _ (s : List ℕ) (has : HasField s) where
  read : Read (next_field s) (finds (next_field s) has.0 has.1) s
  read = step_read (next_field s) (finds (next_field s) has.0 has.1) s refl

  counted_all : length s ≡ 3 + length read.name + length read.tail
  counted_all = ap length read.divides ∙ simp length-append (omega arith)

  module _ (n : ℕ) (en : n ≡ get_or s 0 0) where
    name_read : n ≡ length read.name
    name_read = en ∙ ap (λ (r : List ℕ). get_or r 0 0) read.divides

    pub size_inside : 1 + n + 1 < length s
    size_inside = let a = name_read in let b = counted_all in omega arith

    module _ (c m : ℕ) (ec : c ≡ get_or s (1 + n) 0) (em : m ≡ get_or s (1 + n + 1) 0) where
      octet_read : c ≡ read.octet
      octet_read =
          let front = length read.name ∷ read.name in
          let a = name_read in
          ec ∙ ap (λ (r : List ℕ). get_or r (1 + n) 0) read.divides ∙ get_or_at front read.octet (read.marker ∷ read.tail) 0 (1 + n) (omega arith)

      marker_read : m ≡ read.marker
      marker_read =
          let front = length read.name ∷ (read.name ++ (read.octet ∷ [])) in
          let a = name_read in
          let l = length-append read.name (read.octet ∷ []) in
          let d : s ≡ front ++ (read.marker ∷ read.tail) = read.divides ∙ sym (simp append_assoc) in
          em ∙ ap (λ (r : List ℕ). get_or r (1 + n + 1) 0) d ∙ get_or_at front read.marker read.tail 0 (1 + n + 1) (omega arith)

      from_size_lem : take (length s - (1 + n + 1 + 1)) (drop (1 + n + 1 + 1) s) ≡ read.tail
      from_size_lem =
          let front = length read.name ∷ (read.name ++ (read.octet ∷ (read.marker ∷ []))) in
          let a = name_read in
          let l = length-append read.name (read.octet ∷ (read.marker ∷ [])) in
          let d : s ≡ front ++ read.tail = read.divides ∙ sym (simp append_assoc) in
          tail_part s (1 + n + 1 + 1) ∙ ap (drop (1 + n + 1 + 1)) d ∙ drop_at front read.tail (1 + n + 1 + 1) (omega arith)

      pub count_there : following m ≤ length (take (length s - (1 + n + 1 + 1)) (drop (1 + n + 1 + 1) s))
      count_there = rw (from_size_lem, marker_read) read.wide

      module _ (k : ℕ) (ek : k ≡ counted m (take (length s - (1 + n + 1 + 1)) (drop (1 + n + 1 + 1) s))) where
        count_read : k ≡ counted read.marker read.tail
        count_read = ek ∙ rw (from_size_lem, marker_read)

        pub count_enough : own m ≤ k
        count_enough = rw (marker_read, count_read) read.enough

        found_here : found n c m k ≡ next_field s
        found_here = rw (name_read, octet_read, marker_read, count_read) read.same

        pub holder_read : c ≡ 1 → any_field (next_field s) ≡ some (record { name = n; octet = c; width = 1; contents = k })
        unfolding found any_field
        holder_read e = ap any_field (sym found_here) ∙ rw (eq-eqb c 1 e)

        pub leaf_read : (c ≡ 1 → ⊥) → (f o : ℕ) → f ≡ following m → o ≡ own m
            → any_field (next_field s) ≡ some (record { name = n; octet = c; width = 1 + f; contents = k - o })
        unfolding found any_field
        leaf_read d f o ef eo = ap any_field (sym found_here) ∙ rw (ne_eqb c 1 d, ef, eo)
