-- A step of the reading refuses exactly the fields that are wrong, with the same number.
use Prim.Native.Nat.{ℕ, ◌+◌, ◌-◌, ◌%◌, ◌<◌}
use native.Mathlib.Omega.{arith}
use mathlib.Core.Path.{◌≡◌, refl, sym, ap, ◌∙◌, subst}
use mathlib.Core.Bool.{Bool, true, false, cond, ◌&&◌}
use mathlib.Core.List.{List, [], ◌∷◌, ◌++◌}
use lib.ListN.{length, take, drop, replicate, length-append, length-replicate, take-append-drop}
use lib.Seq.{take_at, drop_at, length-take-le}
use lib.Dec.{eqb, leb, ltb}
use borrow.Author.Tests.{leb-true, eqb-true, eqb-false, ltb-true, ltb-false, lt-ltb, le-ltb}
use Rattle.octets.specs.Number.{big_endian}
use Rattle.tib_field.proofs.Choices.{both}
use Rattle.tib_field.proofs.NameSteps.{next_done}
use Rattle.tib_field.proofs.WrongNames.{name_told, name_wrong}
use Rattle.tib_msg_field.specs.Layout as layouts
use Rattle.tib_msg_field.specs.Layout.{kind, hinted, size_width, is_width, size_allowed, Hint}
use Rattle.tib_msg_field.specs.FirstFault as faults
use Rattle.tib_msg_field.specs.FirstFault.{TypeOctet, WrongHint, WrongData, WrongSize, WrongType, WrongField}
use Rattle.tib_field.specs.Steps.{Step, Done, Fault, Over}
use Rattle.tib_msg_field.specs.declared.Sizes.{Sizes}
use Rattle.tib_msg_field.specs.Reading.{HintStep, HintFault, Size, type_allowed, array_hint, partial_hint, value_hint, read_hint, hint_at, with_hint, from_data, from_size, from_type, next_field}
use Rattle.tib_msg_field.proofs.Hints.{is_true, true_is, good_type, type_good, front_of_hint}

-- ---- hints

-- The three cases of the first two octets of a hint: no hint begins with them; they are a whole hint; or a value of n octets has to follow.
data Two (kind size t n : ℕ) : Type 0 where
  none : ((s : List ℕ) → read_hint kind size (t ∷ n ∷ s) ≡ HintFault 16) → Two kind size t n
  whole : ((s : List ℕ) → read_hint kind size (t ∷ n ∷ s) ≡ Size 2) → Hint kind size true (t ∷ n ∷ []) → Two kind size t n
  valued : ((s : List ℕ) → read_hint kind size (t ∷ n ∷ s) ≡ cond (ltb (length s) n) (HintFault 3) (Size (2 + n)))
      → ((s : List ℕ) → length s ≡ n → Hint kind size true (t ∷ n ∷ s)) → Two kind size t n

module _ (kind size t n : ℕ) where
  two : Two kind size t n
  unfolding read_hint array_hint partial_hint value_hint
  two = go (eqb kind 8) refl (eqb kind 9) refl
    where
      array : eqb kind 8 ≡ true → (a : Bool) → ((leb 4 t && leb t 7) && (is_width n && eqb (size % n) 0)) ≡ a → Two kind size t n
      array e true f =
          let a = both (leb 4 t && leb t 7) _ f in
          let b = both (leb 4 t) _ a.0 in
          let d = both (is_width n) _ a.1 in
          whole (λ s. rw (e, f))
          (layouts.array t n (eqb-true kind 8 e) (leb-true 4 t b.0) (leb-true t 7 b.1) (is_true (is_width n) d.0) (eqb-true (size % n) 0 d.1))
      array e false f = none (λ s. rw (e, f))

      partial : eqb kind 8 ≡ false → eqb kind 9 ≡ true → (a : Bool) → eqb t 6 ≡ a → Two kind size t n
      partial d e true f =
          whole (λ s. rw (d, e, f)) (subst (λ (x : ℕ). Hint kind size true (x ∷ n ∷ [])) (sym (eqb-true t 6 f)) (layouts.partial n (eqb-true kind 9 e)))
      partial d e false f = none (λ s. rw (d, e, f))

      value : eqb kind 8 ≡ false → eqb kind 9 ≡ false → (a : Bool) → ((leb 5 t && leb t 6) && is_width n) ≡ a → Two kind size t n
      value d e true f =
          let a = both (leb 5 t && leb t 6) _ f in
          let b = both (leb 5 t) _ a.0 in
          valued (λ s. rw (d, e, f))
          (λ s l.
          subst (λ (x : ℕ). Hint kind size true (t ∷ x ∷ s)) l
          (layouts.value t s (eqb-false kind 8 d) (eqb-false kind 9 e) (leb-true 5 t b.0) (leb-true t 6 b.1) (rw l (is_true (is_width n) a.1))))
      value d e false f = none (λ s. rw (d, e, f))

      go : (a : Bool) → eqb kind 8 ≡ a → (b : Bool) → eqb kind 9 ≡ b → Two kind size t n
      go true e b f = array e ((leb 4 t && leb t 7) && (is_width n && eqb (size % n) 0)) refl
      go false e true f = partial e f (eqb t 6) refl
      go false e false f = value e f ((leb 5 t && leb t 6) && is_width n) refl

  -- A hint is read to its end.
  hint_read : (s : List ℕ) → Hint kind size true (t ∷ n ∷ s) → (r : List ℕ) → read_hint kind size (t ∷ n ∷ (s ++ r)) ≡ Size (2 + length s)
  hint_read s h r = front_of_hint kind size (t ∷ n ∷ s) r h ∙ ap Size (omega arith)

HintTold : ℕ → ℕ → List ℕ → HintStep → Type 0
HintTold kind size s (HintFault k) = WrongHint kind size k s
HintTold kind size s (Size h) = Unit {0}

read_hint_told : (kind size : ℕ) (s : List ℕ) → HintTold kind size s (read_hint kind size s)
unfolding HintTold
read_hint_told kind size [] = unfold read_hint in faults.cut [] (omega arith)
read_hint_told kind size (t ∷ []) = unfold read_hint in faults.cut (t ∷ []) (omega arith)
read_hint_told kind size (t ∷ n ∷ s) = go (two kind size t n)
  where
    cut_off : ((r : List ℕ) → length r ≡ n → Hint kind size true (t ∷ n ∷ r)) → (a : Bool) → ltb (length s) n ≡ a
        → HintTold kind size (t ∷ n ∷ s) (cond a (HintFault 3) (Size (2 + n)))
    cut_off g false e = tt
    cut_off g true e =
        let h = ltb-true (length s) n e in
        let more : List ℕ = replicate (n - length s) 0 in
        let r : length more ≡ n - length s = length-replicate (n - length s) 0 in
        let l : length (s ++ more) ≡ n = length-append s more ∙ omega arith in
        faults.value_cut t n s more (omega arith) (g (s ++ more) l)

    go : Two kind size t n → HintTold kind size (t ∷ n ∷ s) (read_hint kind size (t ∷ n ∷ s))
    go (none f) =
        rw (f s)
        (faults.bad t n s (λ more h. let a = f (more ++ []) in let b = hint_read kind size t n more h [] in let z : ◌≡◌ {A = ℕ} 0 1 = cc in absurd (omega arith)))
    go (whole f h) = rw (f s) tt
    go (valued f g) = rw (f s) (cut_off g (ltb (length s) n) refl)

wrong_front : (kind size k : ℕ) (s : List ℕ) → WrongHint kind size k s → read_hint kind size s ≡ HintFault k
wrong_front kind size k s (faults.cut [] h) = unfold read_hint in refl
wrong_front kind size k s (faults.cut (t ∷ []) h) = unfold read_hint in refl
wrong_front kind size k s (faults.cut (t ∷ n ∷ r) h) = absurd (omega arith)
wrong_front kind size k s (faults.bad t n r never) = go (two kind size t n)
  where
    go : Two kind size t n → read_hint kind size (t ∷ n ∷ r) ≡ HintFault 16
    go (none f) = f r
    go (whole f h) = absurd (never [] h)
    go (valued f g) = absurd (never (replicate n 0) (g (replicate n 0) (length-replicate n 0)))
wrong_front kind size k s (faults.value_cut t n r more h g) = go (two kind size t n)
  where
    l : length (r ++ more) ≡ length r + length more
    l = length-append r more

    q : read_hint kind size (t ∷ n ∷ (r ++ more ++ [])) ≡ Size (2 + length (r ++ more))
    q = hint_read kind size t n (r ++ more) g []

    small : (a : Bool) → cond a (HintFault 3) (Size (2 + n)) ≡ Size (2 + length (r ++ more)) → length r < n
    small true e = let z : ◌≡◌ {A = ℕ} 0 1 = cc in absurd (omega arith)
    small false e = let x = l in let y : 2 + n ≡ 2 + length (r ++ more) = cc in omega arith

    go : Two kind size t n → read_hint kind size (t ∷ n ∷ r) ≡ HintFault 3
    go (none f) = let a = f (r ++ more ++ []) in let b = q in let z : ◌≡◌ {A = ℕ} 0 1 = cc in absurd (omega arith)
    go (whole f w) = let a = f (r ++ more ++ []) in let b = q in let x = l in let z : 2 ≡ 2 + length (r ++ more) = cc in absurd (omega arith)
    go (valued f w) = f r ∙ rw (lt-ltb (length r) n (small (ltb (length (r ++ more ++ [])) n) (sym (f (r ++ more ++ [])) ∙ q)))

-- ---- what a step refuses is wrong

-- The octets from a part on are wrong with the number that they are refused with, and are not the end.
StepTold : (ℕ → Type 0) → Step Sizes → Type 0
StepTold P Done = ⊥
StepTold P (Fault k) = P k
StepTold P (Over z) = Unit {0}

told_map : (P Q : ℕ → Type 0) → ((k : ℕ) → P k → Q k) → (x : Step Sizes) → StepTold P x → StepTold Q x
unfolding StepTold
told_map P Q f Done h = h
told_map P Q f (Fault k) h = f k h
told_map P Q f (Over z) h = tt

hint_told : (n c w l : ℕ) (s : List ℕ) → hinted c ≡ true → (p : HintStep) → HintTold (kind c) l s p
    → StepTold (λ (k : ℕ). WrongHint (kind c) l k s) (with_hint n c w l p)
unfolding StepTold HintTold with_hint
hint_told n c w l s e (HintFault k) h = h
hint_told n c w l s e (Size x) h = tt

data_told : (n c w l : ℕ) (s : List ℕ) → StepTold (λ (k : ℕ). WrongData c l k s) (from_data n c w l s)
unfolding StepTold from_data hint_at
data_told n c w l s = go (ltb (length s) l) refl
  where
    hint : length (take l s) ≡ l → (t : Bool) → hinted c ≡ t
        → StepTold (λ (k : ℕ). WrongData c l k s) (with_hint n c w l (cond t (read_hint (kind c) l (drop l s)) (Size 0)))
    hint e false f = unfold with_hint in tt
    hint e true f =
        told_map (λ (k : ℕ). WrongHint (kind c) l k (drop l s)) (λ (k : ℕ). WrongData c l k s)
        (λ k h. subst (WrongData c l k) (take-append-drop l s) (faults.hint k (take l s) (drop l s) e f h))
        (with_hint n c w l (read_hint (kind c) l (drop l s)))
        (hint_told n c w l (drop l s) f (read_hint (kind c) l (drop l s)) (read_hint_told (kind c) l (drop l s)))

    go : (t : Bool) → ltb (length s) l ≡ t
        → StepTold (λ (k : ℕ). WrongData c l k s) (cond t (Fault 4) (with_hint n c w l (cond (hinted c) (read_hint (kind c) l (drop l s)) (Size 0))))
    go true e = faults.cut s (ltb-true (length s) l e)
    go false e = hint (length-take-le l s (ltb-false (length s) l e)) (hinted c) refl

size_told : (n c : ℕ) (s : List ℕ) → StepTold (λ (k : ℕ). WrongSize c k s) (from_size n c (size_width c) s)
unfolding StepTold from_size
size_told n c s = go (ltb (length s) (size_width c)) refl
  where
    w : ℕ
    w = size_width c

    v : ℕ
    v = big_endian (take (size_width c) s)

    allowed : length (take w s) ≡ w → (t : Bool) → size_allowed (kind c) v ≡ t
        → StepTold (λ (k : ℕ). WrongSize c k s) (cond t (from_data n c w v (drop w s)) (Fault 16))
    allowed l true f =
        told_map (λ (k : ℕ). WrongData c v k (drop w s)) (λ (k : ℕ). WrongSize c k s)
        (λ k h. subst (WrongSize c k) (take-append-drop w s) (faults.later k (take w s) (drop w s) l (is_true (size_allowed (kind c) v) f) h))
        (from_data n c w v (drop w s)) (data_told n c w v (drop w s))
    allowed l false f =
        subst (WrongSize c 16) (take-append-drop w s)
        (faults.bad (take w s) (drop w s) l
        (λ t. let g = true_is (size_allowed (kind c) v) t in let z : ◌≡◌ {A = ℕ} 0 1 = cc in absurd (omega arith)))

    go : (t : Bool) → ltb (length s) w ≡ t
        → StepTold (λ (k : ℕ). WrongSize c k s) (cond t (Fault 3) (cond (size_allowed (kind c) v) (from_data n c w v (drop w s)) (Fault 16)))
    go true e = faults.cut s (ltb-true (length s) w e)
    go false e = allowed (length-take-le w s (ltb-false (length s) w e)) (size_allowed (kind c) v) refl

-- The computed test of a type octet is the layout's.
type_octet : (c : ℕ) → type_allowed c ≡ true → TypeOctet c
type_octet c e =
    let g = good_type c e in
    record {
      clear = g.clear;
      known = g.known;
      array = λ k. set (hinted c) refl (λ f. g.array f k);
      partial = λ k. set (hinted c) refl (λ f. g.partial f k);
    }
  where
    set : (t : Bool) → hinted c ≡ t → (hinted c ≡ false → ⊥) → hinted c ≡ true
    set true f never = f
    set false f never = absurd (never f)

octet_type : (c : ℕ) → TypeOctet c → type_allowed c ≡ true
octet_type c g =
    type_good c
    (record {
      clear = g.clear;
      known = g.known;
      array = λ f k. let a = g.array k in let z : ◌≡◌ {A = ℕ} 0 1 = cc in absurd (omega arith);
      partial = λ f k. let a = g.partial k in let z : ◌≡◌ {A = ℕ} 0 1 = cc in absurd (omega arith);
    })

type_told : (n : ℕ) (s : List ℕ) → StepTold (λ (k : ℕ). WrongType k s) (from_type n s)
unfolding StepTold from_type
type_told n [] = faults.missing
type_told n (c ∷ s) = go (type_allowed c) refl
  where
    go : (t : Bool) → type_allowed c ≡ t → StepTold (λ (k : ℕ). WrongType k (c ∷ s)) (cond t (from_size n c (size_width c) s) (Fault 16))
    go true e =
        told_map (λ (k : ℕ). WrongSize c k s) (λ (k : ℕ). WrongType k (c ∷ s)) (λ k h. faults.later k c s (type_octet c e) h) (from_size n c (size_width c) s)
        (size_told n c s)
    go false e = faults.bad c s (λ g. let f = octet_type c g in let z : ◌≡◌ {A = ℕ} 0 1 = cc in absurd (omega arith))

-- A step that refuses tells what is wrong.
pub field_told : (s : List ℕ) (k : ℕ) → next_field s ≡ Fault k → WrongField k s
unfolding StepTold next_field
field_told s k =
    name_told Done Fault from_type WrongType (λ j f. let z : ◌≡◌ {A = ℕ} 0 1 = cc in absurd (omega arith)) (λ i j f. cc)
    (λ j n r f. subst (StepTold (λ (i : ℕ). WrongType i r)) f (type_told n r)) k s

-- A step finds the end only where no octet remains.
pub step_done : (s : List ℕ) → next_field s ≡ Done → s ≡ []
unfolding StepTold next_field
step_done s =
    next_done Done Fault from_type s (λ k f. let z : ◌≡◌ {A = ℕ} 0 1 = cc in absurd (omega arith))
    (λ n r f. subst (StepTold (λ (k : ℕ). WrongType k r)) f (type_told n r))

-- ---- what is wrong is refused by a step

wrong_data : (c l k : ℕ) (s : List ℕ) → WrongData c l k s → (n w : ℕ) → from_data n c w l s ≡ Fault k
unfolding from_data hint_at with_hint
wrong_data c l k s (faults.cut r h) n w = rw (lt-ltb (length r) l h)
wrong_data c l k s (faults.hint j contents r e f h) n w =
    let x = length-append contents r in
    rw (le-ltb (length (contents ++ r)) l (omega arith), f, drop_at contents r l e, wrong_front (kind c) l j r h)

wrong_size : (c k : ℕ) (s : List ℕ) → WrongSize c k s → (n : ℕ) → from_size n c (size_width c) s ≡ Fault k
unfolding from_size
wrong_size c k s (faults.cut r h) n = rw (lt-ltb (length r) (size_width c) h)
wrong_size c k s (faults.bad size r e h) n =
    let x = length-append size r in
    rw (le-ltb (length (size ++ r)) (size_width c) (omega arith), take_at size r (size_width c) e, unset (size_allowed (kind c) (big_endian size)) refl)
  where
    unset : (t : Bool) → size_allowed (kind c) (big_endian size) ≡ t → size_allowed (kind c) (big_endian size) ≡ false
    unset true f = absurd (h (is_true (size_allowed (kind c) (big_endian size)) f))
    unset false f = f
wrong_size c k s (faults.later j size r e t h) n =
    let x = length-append size r in
    rw (le-ltb (length (size ++ r)) (size_width c) (omega arith), take_at size r (size_width c) e, drop_at size r (size_width c) e, true_is (size_allowed (kind c) (big_endian size)) t)
    (wrong_data c (big_endian size) j r h n (size_width c))

wrong_type : (k n : ℕ) (s : List ℕ) → WrongType k s → from_type n s ≡ Fault k
unfolding from_type
wrong_type k n s faults.missing = refl
wrong_type k n s (faults.bad c r h) = rw (unset (type_allowed c) refl)
  where
    unset : (t : Bool) → type_allowed c ≡ t → type_allowed c ≡ false
    unset true f = absurd (h (type_octet c f))
    unset false f = f
wrong_type k n s (faults.later j c r g h) = rw (octet_type c g) (wrong_size c j r h n)

pub wrong_field_lem : (k : ℕ) (s : List ℕ) → WrongField k s → next_field s ≡ Fault k
unfolding next_field
wrong_field_lem k s h = name_wrong Done Fault from_type WrongType wrong_type k s h
