-- A step of the reading refuses exactly the fields that are wrong, with the same number; and so does the test of a header.
use Prim.Native.Nat.{ℕ, ◌+◌, ◌-◌, ◌≤◌}
use native.Mathlib.Omega.{arith}
use mathlib.Core.Path.{◌≡◌, refl, sym, ap, ap₂, ◌∙◌, subst}
use mathlib.Core.Bool.{Bool, true, false, cond, not, ◌||◌}
use mathlib.Core.List.{List, [], ◌∷◌, ◌++◌}
use lib.ListN.{length, take, drop, replicate, length-append, length-drop, length-replicate, take-append-drop}
use lib.Seq.{take_at, drop_at, length-take-le, drop-drop}
use lib.Dec.{eqb, ltb}
use borrow.Author.Tests.{le-leb, eqb-true, eqb-false, eq-eqb, ne_eqb, ltb-true, ltb-false, lt-ltb, le-ltb}
use Rattle.octets.specs.Number.{big_endian}
use Rattle.octets.proofs.Slices.{length_zero}
use Rattle.tib_field.specs.Mark.{begins}
use Rattle.tib_field.proofs.Marks.{mark_begins, begins_mark}
use Rattle.tib_field.proofs.Choices.{either}
use Rattle.tib_field.proofs.NameSteps.{next_done}
use Rattle.tib_field.proofs.WrongNames.{name_told, name_wrong}
use Rattle.tib_rv_field.specs.Layout.{Size, magic}
use Rattle.tib_rv_field.specs.FirstFault as faults
use Rattle.tib_rv_field.specs.FirstFault.{SizeOctets, one, two, four, Announces, WrongSize, WrongType, WrongField, WrongHeader}
use Rattle.tib_rv_field.specs.Reading.{Step, Done, Fault, Over, Into, following, own, counted, count_allowed, found, from_count, from_size, from_type, next_field, header_fault}
use Rattle.tib_rv_field.proofs.Counts.{Form, short, middle, long, form, following_short, size_found, announced, good_count}

-- The octets of a size by its marker.
octets_of_lem : (m : ℕ) (s : List ℕ) → m ≤ 0x7a → length s ≡ following m → SizeOctets (m ∷ s)
unfolding following
octets_of_lem m s h l = go (form m h)
  where
    go : Form m → SizeOctets (m ∷ s)
    go (short k) = subst (λ (r : List ℕ). SizeOctets (m ∷ r)) (sym (length_zero s (l ∙ following_short m k))) (one m (omega arith))
    go (middle e) = subst (λ (x : ℕ). length s ≡ following x → SizeOctets (x ∷ s)) (sym e) (two s) l
    go (long e) = subst (λ (x : ℕ). length s ≡ following x → SizeOctets (x ∷ s)) (sym e) (four s) l

-- The marker of the octets of a size, and how many follow it.
record Marked (size : List ℕ) : Type 0 where
  lead : ℕ
  tail : List ℕ
  divides : size ≡ lead ∷ tail
  low : lead ≤ 0x7a
  width : length tail ≡ following lead

marked : (size : List ℕ) → SizeOctets size → Marked size
unfolding following
marked size (one m h) = record { lead = m; tail = []; divides = refl; low = omega arith; width = sym (following_short m (omega arith)) }
marked size (two s e) = record { lead = 0x79; tail = s; divides = refl; low = omega arith; width = e }
marked size (four s e) = record { lead = 0x7a; tail = s; divides = refl; low = omega arith; width = e }

-- A size that is good for a type octet passes the test of its count, and the other way round.
module _ (c m : ℕ) (tail : List ℕ) (low : m ≤ 0x7a) (wide : length tail ≡ following m) where
  allowed_announces : (r : List ℕ) → count_allowed c m (counted m (tail ++ r)) ≡ true
      → Announces c (m ∷ tail) (counted m (tail ++ r) - own m)
  allowed_announces r e =
      let g = good_count c m (counted m (tail ++ r)) e in
      let l = length-append tail r in
      let f : Size (m ∷ take (following m) (tail ++ r)) (counted m (tail ++ r) - own m) =
      size_found m (tail ++ r) low (omega arith) g.enough in
      record {
        counts = rw (take_at tail r (following m) wide) at f;
        long = λ i. (tail, ap (λ (x : ℕ). x ∷ tail) (g.marked i));
      }

  announces_counted : (n : ℕ) → Announces c (m ∷ tail) n → (r : List ℕ)
      → (count_allowed c m (counted m (tail ++ r)) ≡ true) × (counted m (tail ++ r) ≡ own m + n)
  unfolding count_allowed
  announces_counted n a r =
      let b = announced (m ∷ tail) n a.counts in
      let p : m ≡ b.marker = cc in
      let q : tail ≡ b.tail = cc in
      let e : counted m (tail ++ r) ≡ own m + n =
      ap₂ (λ (x : ℕ) (y : List ℕ). counted x (y ++ r)) p q ∙ b.count r ∙ ap (λ (x : ℕ). own x + n) (sym p) in
      (rw (e, le-leb (own m) (own m + n) (omega arith)) (go (eqb c 1) refl), e)
    where
      go : (t : Bool) → eqb c 1 ≡ t → (not t || eqb m 0x7a) ≡ true
      go true f = let d = (a.long (eqb-true c 1 f)).1 in let g : m ≡ 0x7a = cc in eq-eqb m 0x7a g
      go false f = refl

-- ---- what a step refuses is wrong

-- The octets from a part on are wrong with the number that they are refused with, and are not the end.
StepTold : (ℕ → Type 0) → Step → Type 0
StepTold P Done = ⊥
StepTold P (Fault k) = P k
StepTold P (Over z) = Unit {0}
StepTold P (Into z) = Unit {0}

told_map : (P Q : ℕ → Type 0) → ((k : ℕ) → P k → Q k) → (x : Step) → StepTold P x → StepTold Q x
unfolding StepTold
told_map P Q f Done h = h
told_map P Q f (Fault k) h = f k h
told_map P Q f (Over z) h = tt
told_map P Q f (Into z) h = tt

module _ (n c m : ℕ) (tail rest : List ℕ) (low : m ≤ 0x7a) (wide : length tail ≡ following m) where
  abbrev Tells : Step → Type 0
  Tells x = StepTold (λ (k : ℕ). WrongSize c k (m ∷ (tail ++ rest))) x

  count_told : Tells (from_count n c m (counted m (tail ++ rest)) (length rest))
  unfolding StepTold from_count
  count_told = go (count_allowed c m (counted m (tail ++ rest))) refl
    where
      v : ℕ
      v = counted m (tail ++ rest)

      left : count_allowed c m v ≡ true → (t : Bool) → ltb (length rest) (v - own m) ≡ t → Tells (cond t (Fault 4) (found n c m v))
      left e true f = faults.data_cut (v - own m) (m ∷ tail) rest (allowed_announces c m tail low wide rest e) (ltb-true (length rest) (v - own m) f)
      left e false f = unfold found in either Tells (eqb c 1) (Into _) (Over _) tt tt

      go : (t : Bool) → count_allowed c m v ≡ t → Tells (cond t (cond (ltb (length rest) (v - own m)) (Fault 4) (found n c m v)) (Fault 16))
      go true e = left e (ltb (length rest) (v - own m)) refl
      go false e =
          faults.bad (m ∷ tail) rest (octets_of_lem m tail low wide)
          (λ j a. let f = (announces_counted c m tail low wide j a rest).0 in let z : ◌≡◌ {A = ℕ} 0 1 = cc in absurd (omega arith))

size_told : (n c : ℕ) (s : List ℕ) → StepTold (λ (k : ℕ). WrongSize c k s) (from_size n c s)
unfolding StepTold from_size
size_told n c [] = faults.cut [] (0 ∷ []) (omega arith) (one 0 (omega arith))
size_told n c (m ∷ s) = go (ltb 0x7a m) refl
  where
    w : ℕ
    w = following m

    wide : m ≤ 0x7a → (t : Bool) → ltb (length s) w ≡ t
        → StepTold (λ (k : ℕ). WrongSize c k (m ∷ s)) (cond t (Fault 3) (from_count n c m (counted m s) (length s - w)))
    wide low true e =
        let h = ltb-true (length s) w e in
        let more : List ℕ = replicate (w - length s) 0 in
        let r : length more ≡ w - length s = length-replicate (w - length s) 0 in
        let l : length (s ++ more) ≡ w = length-append s more ∙ omega arith in
        faults.cut (m ∷ s) more (omega arith) (octets_of_lem m (s ++ more) low l)
    wide low false e =
        let a = count_told n c m (take w s) (drop w s) low (length-take-le w s (ltb-false (length s) w e)) in
        let b = rw (take-append-drop w s, length-drop w s) at a in
        b

    go : (t : Bool) → ltb 0x7a m ≡ t
        → StepTold (λ (k : ℕ). WrongSize c k (m ∷ s))
        (cond t (Fault 16) (cond (ltb (length s) w) (Fault 3) (from_count n c m (counted m s) (length s - w))))
    go true e = faults.marker m s (ltb-true 0x7a m e)
    go false e = wide (ltb-false 0x7a m e) (ltb (length s) w) refl

type_told : (n : ℕ) (s : List ℕ) → StepTold (λ (k : ℕ). WrongType k s) (from_type n s)
unfolding StepTold from_type
type_told n [] = faults.missing
type_told n (c ∷ s) =
    told_map (λ (k : ℕ). WrongSize c k s) (λ (k : ℕ). WrongType k (c ∷ s)) (λ k h. faults.later k c s h) (from_size n c s) (size_told n c s)

pub field_told : (s : List ℕ) (k : ℕ) → next_field s ≡ Fault k → WrongField k s
unfolding StepTold next_field
field_told s k =
    name_told Done Fault from_type WrongType (λ j f. let z : ◌≡◌ {A = ℕ} 0 1 = cc in absurd (omega arith)) (λ i j f. cc)
    (λ j n r f. subst (StepTold (λ (i : ℕ). WrongType i r)) f (type_told n r)) k s

-- A step finds the end only where no octet remains.
pub step_done : (s : List ℕ) → next_field s ≡ Done → s ≡ []
unfolding StepTold next_field
step_done s =
    next_done Done Fault from_type s (λ k f. let z : ◌≡◌ {A = ℕ} 0 1 = cc in absurd (omega arith))
    (λ n r f. subst (StepTold (λ (k : ℕ). WrongType k r)) f (type_told n r))

-- ---- what is wrong is refused by a step

-- A size whose octets are all there, and octets after it.
whole_size : (n c m : ℕ) (tail rest : List ℕ) → m ≤ 0x7a → length tail ≡ following m
    → from_size n c (m ∷ (tail ++ rest)) ≡ from_count n c m (counted m (tail ++ rest)) (length rest)
unfolding from_size
whole_size n c m tail rest low wide =
    let l = length-append tail rest in
    let d : length (tail ++ rest) - following m ≡ length rest = omega arith in
    rw (le-ltb 0x7a m low, le-ltb (length (tail ++ rest)) (following m) (omega arith), d)

wrong_size : (c k : ℕ) (s : List ℕ) → WrongSize c k s → (n : ℕ) → from_size n c s ≡ Fault k
unfolding from_size from_count
wrong_size c k s (faults.cut [] missing h o) n = refl
wrong_size c k s (faults.cut (m ∷ r) missing h o) n =
    let a = marked (m ∷ (r ++ missing)) o in
    let d = a.divides in
    let p : m ≡ a.lead = cc in
    let q : r ++ missing ≡ a.tail = cc in
    let low = a.low in
    let x : length (r ++ missing) ≡ following m = ap length q ∙ a.width ∙ ap following (sym p) in
    let l = length-append r missing in
    rw (le-ltb 0x7a m (omega arith), lt-ltb (length r) (following m) (omega arith))
wrong_size c k s (faults.marker m r h) n = rw (lt-ltb 0x7a m h)
wrong_size c k s (faults.bad size r o never) n =
    let a = marked size o in
    subst (λ (x : List ℕ). from_size n c (x ++ r) ≡ Fault 16) (sym a.divides)
    (whole_size n c a.lead a.tail r a.low a.width ∙ go a (count_allowed c a.lead (counted a.lead (a.tail ++ r))) refl)
  where
    go : (a : Marked size) (t : Bool) → count_allowed c a.lead (counted a.lead (a.tail ++ r)) ≡ t
        → from_count n c a.lead (counted a.lead (a.tail ++ r)) (length r) ≡ Fault 16
    go a true e =
        let b = allowed_announces c a.lead a.tail a.low a.width r e in
        absurd (never (counted a.lead (a.tail ++ r) - own a.lead) (subst (λ (x : List ℕ). Announces c x (counted a.lead (a.tail ++ r) - own a.lead)) (sym a.divides) b))
    go a false e = rw e
wrong_size c k s (faults.data_cut j size r a h) n =
    let b = announced size j a.counts in
    let w : length b.tail ≡ following b.marker = b.width in
    let d = announces_counted c b.marker b.tail b.low w j (subst (λ (x : List ℕ). Announces c x j) b.divides a) r in
    let f : own b.marker + j - own b.marker ≡ j = omega arith in
    subst (λ (x : List ℕ). from_size n c (x ++ r) ≡ Fault 4) (sym b.divides)
    (whole_size n c b.marker b.tail r b.low w ∙ rw (d.0, d.1, f, lt-ltb (length r) j h))

wrong_type : (k n : ℕ) (s : List ℕ) → WrongType k s → from_type n s ≡ Fault k
unfolding from_type
wrong_type k n s faults.missing = refl
wrong_type k n s (faults.later j c r h) = wrong_size c j r h n

pub wrong_field_lem : (k : ℕ) (s : List ℕ) → WrongField k s → next_field s ≡ Fault k
unfolding next_field
wrong_field_lem k s h = name_wrong Done Fault from_type WrongType wrong_type k s h

-- ---- headers

HeaderTold : List ℕ → ℕ → Type 0
HeaderTold s k = (k ≡ 0 → ⊥) → WrongHeader s k

pub header_told : (s : List ℕ) → (header_fault s ≡ 0 → ⊥) → WrongHeader s (header_fault s)
unfolding header_fault HeaderTold
header_told s ne = cut (ltb (length s) 8) refl ne
  where
    size : 8 ≤ length s → begins magic (drop 4 s) ≡ true → (t : Bool) → eqb (big_endian (take 4 s)) (length s) ≡ t → HeaderTold s (cond (not t) 14 0)
    size h m true e x = absurd (x refl)
    size h m false e x =
        faults.other_size (take 4 s) (drop 8 s)
        (sym (take-append-drop 4 s)
        ∙ ap (λ (r : List ℕ). take 4 s ++ r) (begins_mark magic (drop 4 s) m ∙ ap (λ (r : List ℕ). magic ++ r) (drop-drop 4 4 s)))
        (length-take-le 4 s (omega arith)) (eqb-false (big_endian (take 4 s)) (length s) e)

    mark : 8 ≤ length s → (t : Bool) → begins magic (drop 4 s) ≡ t
        → HeaderTold s (cond (not t) 13 (cond (not (eqb (big_endian (take 4 s)) (length s))) 14 0))
    mark h true e x = size h e (eqb (big_endian (take 4 s)) (length s)) refl x
    mark h false e x =
        let d = length-drop 4 s in
        let a = take-append-drop 4 (drop 4 s) in
        faults.other_mark (take 4 s) (take 4 (drop 4 s)) (drop 4 (drop 4 s))
        (sym (take-append-drop 4 s) ∙ ap (λ (r : List ℕ). take 4 s ++ r) (sym a))
        (length-take-le 4 s (omega arith)) (length-take-le 4 (drop 4 s) (omega arith))
        (λ q.
        let b : drop 4 s ≡ magic ++ drop 4 (drop 4 s) = sym a ∙ ap (λ (r : List ℕ). r ++ drop 4 (drop 4 s)) q in
        let f : begins magic (drop 4 s) ≡ true = ap (begins magic) b ∙ mark_begins magic (drop 4 (drop 4 s)) in
        let z : ◌≡◌ {A = ℕ} 0 1 = cc in
        absurd (omega arith))

    cut : (t : Bool) → ltb (length s) 8 ≡ t
        → HeaderTold s (cond t 3 (cond (not (begins magic (drop 4 s))) 13 (cond (not (eqb (big_endian (take 4 s)) (length s))) 14 0)))
    cut true e x = faults.cut (ltb-true (length s) 8 e)
    cut false e x = mark (ltb-false (length s) 8 e) (begins magic (drop 4 s)) refl x

pub wrong_header : (s : List ℕ) (k : ℕ) → WrongHeader s k → (header_fault s ≡ k) × (k ≡ 0 → ⊥)
unfolding header_fault
wrong_header s k (faults.cut h) = (rw (lt-ltb (length s) 8 h), λ e. omega arith)
wrong_header s k (faults.other_mark size mark rest e w m d) =
    let x : length s ≡ length size + length (mark ++ rest) = ap length e ∙ length-append size (mark ++ rest) in
    let y = length-append mark rest in
    (rw (le-ltb (length s) 8 (omega arith), differs (begins magic (drop 4 s)) refl), λ e. omega arith)
  where
    p : drop 4 s ≡ mark ++ rest
    p = ap (drop 4) e ∙ drop_at size (mark ++ rest) 4 w

    differs : (t : Bool) → begins magic (drop 4 s) ≡ t → begins magic (drop 4 s) ≡ false
    differs false f = f
    differs true f =
        absurd (d (sym (take_at mark rest 4 m) ∙ ap (take 4) (sym p ∙ begins_mark magic (drop 4 s) f) ∙ take_at magic (drop 4 (drop 4 s)) 4 refl))
wrong_header s k (faults.other_size size rest e w d) =
    let x : length s ≡ length size + length (magic ++ rest) = ap length e ∙ length-append size (magic ++ rest) in
    let y = length-append magic rest in
    let a : begins magic (drop 4 s) ≡ true = ap (begins magic) (ap (drop 4) e ∙ drop_at size (magic ++ rest) 4 w) ∙ mark_begins magic rest in
    let b : take 4 s ≡ size = ap (take 4) e ∙ take_at size (magic ++ rest) 4 w in
    (rw (le-ltb (length s) 8 (omega arith), a, b, ne_eqb (big_endian size) (length s) d), λ e. omega arith)
