-- The sizes of a good field, read from its octets with no test.
use Prim.Native.Nat.{ℕ, ◌+◌, ◌-◌, ◌≤◌, ◌<◌}
use native.Mathlib.Omega.{arith}
use mathlib.Core.Path.{◌≡◌, refl, sym, ap, ◌∙◌}
use mathlib.Core.Bool.{Bool, true, cond, ◌||◌}
use mathlib.Core.List.{List, [], ◌∷◌, ◌++◌, append_assoc}
use lib.ListN.{length, get_or, take, drop, length-append}
use lib.Seq.{take_at, drop_at, get_or_at}
use lib.Dec.{eqb}
use borrow.Author.Tests.{eq-eqb, ne_eqb}
use Rattle.octets.specs.internal.Bounded.{unsigned}
use Rattle.octets.proofs.Slices.{tail_part}
use Rattle.octets.proofs.Number.{unsigned_is}
use Rattle.tib_msg_field.specs.Layout.{kind, hinted, size_width, Hint, none, array, partial, value, Parts}
use Rattle.tib_field.specs.Steps.{Over}
use Rattle.tib_msg_field.specs.Reading.{next_field}
use Rattle.tib_msg_field.specs.internal.Sizes.{sizes}
use Rattle.tib_msg_field.proofs.Steps.{Found, step_found, flat}
use Rattle.tib_msg_field.proofs.StepTests.{size_few}
use Rattle.tib_msg.specs.internal.Found.{HasField, hint_octets}

hint_two : (k size : ℕ) (t : Bool) (hint : List ℕ) → Hint k size t hint → t ≡ true → 2 ≤ length hint
hint_two k size t hint (none a b) e = let z : ◌≡◌ {A = ℕ} 0 1 = cc in absurd (omega arith)
hint_two k size t hint (array x n h p q w d) e = omega arith
hint_two k size t hint (partial n h) e = omega arith
hint_two k size t hint (value x s a b p q w) e = omega arith

hint_counted : (k size : ℕ) (t : Bool) (hint rest : List ℕ) → Hint k size t hint
    → cond t (cond (eqb k 8 || eqb k 9) 2 (2 + get_or (hint ++ rest) 1 0)) 0 ≡ length hint
hint_counted k size t hint rest (none a b) = refl
hint_counted k size t hint rest (array x n h p q w d) = rw (eq-eqb k 8 h)
hint_counted k size t hint rest (partial n h) = let j : k ≡ 8 → ⊥ = λ e. omega arith in rw (ne_eqb k 8 j, eq-eqb k 9 h)
hint_counted k size t hint rest (value x s a b p q w) = rw (ne_eqb k 8 a, ne_eqb k 9 b) (omega arith)

module _ (s : List ℕ) (has : HasField s) where
  found : Found s has.0
  found = step_found s has.0 has.1

  abbrev f : Parts
  f = found.field

  abbrev after_size : List ℕ
  after_size = f.contents ++ (f.hint ++ found.rest)

  abbrev after_type : List ℕ
  after_type = f.size ++ after_size

  divided : s ≡ length f.name ∷ (f.name ++ (f.octet ∷ after_type))
  divided = found.divides ∙ flat f found.rest

  counted : length s ≡ 2 + length f.name + length f.size + length f.contents + length f.hint + length found.rest
  counted = ap length divided ∙ simp length-append (omega arith)

  module _ (n : ℕ) (en : n ≡ get_or s 0 0) where
    name_read : n ≡ length f.name
    name_read = en ∙ ap (λ (r : List ℕ). get_or r 0 0) divided

    pub type_inside : 1 + n < length s
    type_inside = let a = name_read in let b = counted in omega arith

    from_type_lem : drop (1 + n + 1) s ≡ after_type
    from_type_lem =
        let front = length f.name ∷ (f.name ++ (f.octet ∷ [])) in
        let a = name_read in
        let l = length-append f.name (f.octet ∷ []) in
        let d : s ≡ front ++ after_type = divided ∙ sym (simp append_assoc) in
        ap (drop (1 + n + 1)) d ∙ drop_at front after_type (1 + n + 1) (omega arith)

    module _ (c : ℕ) (ec : c ≡ get_or s (1 + n) 0) where
      octet_read : c ≡ f.octet
      octet_read =
          let front = length f.name ∷ f.name in
          let a = name_read in
          ec ∙ ap (λ (r : List ℕ). get_or r (1 + n) 0) divided ∙ get_or_at front f.octet after_type 0 (1 + n) (omega arith)

      module _ (w : ℕ) (ew : w ≡ size_width c) where
        width_read : w ≡ length f.size
        width_read = ew ∙ ap size_width octet_read ∙ sym found.allowed.width

        pub size_inside : 1 + n + 1 + w ≤ length s
        size_inside = let a = name_read in let b = width_read in let d = counted in omega arith

        module _ (l : ℕ) (el : l ≡ unsigned (take (1 + n + 1 + w - (1 + n + 1)) (drop (1 + n + 1) s))) where
          size_read : l ≡ length f.contents
          size_read =
              let a = width_read in
              let b = size_few f.octet in
              let d = found.allowed.width in
              let p : take (1 + n + 1 + w - (1 + n + 1)) (drop (1 + n + 1) s) ≡ f.size
              = ap (take (1 + n + 1 + w - (1 + n + 1))) from_type_lem ∙ take_at f.size after_size (1 + n + 1 + w - (1 + n + 1)) (omega arith) in
              el ∙ ap unsigned p ∙ unsigned_is f.size (omega arith) ∙ found.allowed.size

          pub data_inside : 1 + n + 1 + w + l ≤ length s
          data_inside = let a = name_read in let b = width_read in let d = size_read in let g = counted in omega arith

          from_hint : take (length s - (1 + n + 1 + w + l)) (drop (1 + n + 1 + w + l) s) ≡ f.hint ++ found.rest
          from_hint =
              let front = length f.name ∷ (f.name ++ (f.octet ∷ (f.size ++ f.contents))) in
              let a = name_read in
              let b = width_read in
              let g = size_read in
              let p = length-append f.name (f.octet ∷ (f.size ++ f.contents)) in
              let q = length-append f.size f.contents in
              let d : s ≡ front ++ (f.hint ++ found.rest) = divided ∙ sym (simp append_assoc) in
              tail_part s (1 + n + 1 + w + l) ∙ ap (drop (1 + n + 1 + w + l)) d ∙ drop_at front (f.hint ++ found.rest) (1 + n + 1 + w + l) (omega arith)

          pub hint_there : hinted c ≡ true → 2 ≤ length (take (length s - (1 + n + 1 + w + l)) (drop (1 + n + 1 + w + l) s))
          hint_there e =
              let a = hint_two (kind f.octet) (length f.contents) (hinted f.octet) f.hint found.allowed.hint (sym (ap hinted octet_read) ∙ e) in
              let b = ap length from_hint ∙ length-append f.hint found.rest in
              omega arith

          module _ (h : ℕ) (eh : h ≡ hint_octets c (take (length s - (1 + n + 1 + w + l)) (drop (1 + n + 1 + w + l) s))) where
            hint_read : h ≡ length f.hint
            unfolding hint_octets
            hint_read =
                eh ∙ rw (from_hint, octet_read)
                (hint_counted (kind f.octet) (length f.contents) (hinted f.octet) f.hint found.rest found.allowed.hint)

            pub all_read : next_field s ≡ Over (record { name = n; octet = c; width = w; contents = l; hint = h })
            unfolding sizes
            all_read = has.1 ∙ ap Over (sym found.sized) ∙ rw (name_read, octet_read, width_read, size_read, hint_read)
