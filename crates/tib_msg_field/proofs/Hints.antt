-- The computed tests of a type octet and of a hint are the layout's rules.
use Prim.Native.Nat.{ℕ, ◌+◌, ◌/◌, ◌%◌, ◌≤◌, ◌<◌}
use native.Mathlib.Omega.{arith}
use mathlib.Core.Path.{◌≡◌, refl, sym, ap, ◌∙◌, subst}
use mathlib.Core.Bool.{Bool, true, false, cond, ◌&&◌, ◌||◌, not}
use mathlib.Core.List.{List, [], ◌∷◌, ◌++◌}
use lib.ListN.{length, take, drop, length-append, take-append-drop}
use lib.Seq.{length-take-le}
use lib.Dec.{T, eqb, leb, ltb}
use borrow.Author.Tests.{leb-true, le-leb, eqb-true, eqb-false, eq-eqb, ne_eqb, ltb-false, le-ltb}
use Rattle.tib_field.proofs.Choices.{both}
use Rattle.tib_msg_field.specs.Layout.{kind, hinted, is_width, Hint, none, array, partial, value}
use Rattle.tib_msg_field.specs.Reading.{HintStep, HintFault, Size, type_allowed, array_hint, partial_hint, value_hint, read_hint, hint_at}

pub is_true : (t : Bool) → t ≡ true → T t
is_true t e = subst T (sym e) tt

pub true_is : (t : Bool) → T t → t ≡ true
true_is true h = refl
true_is false h = absurd h

-- A width is one of four numbers.
pub width_small : (n : ℕ) → is_width n ≡ true → (0 < n) × (n ≤ 8)
unfolding is_width
width_small n e = go (eqb n 1) refl (eqb n 2) refl (eqb n 4) refl (eqb n 8) refl e
  where
    go : (a : Bool) → eqb n 1 ≡ a → (b : Bool) → eqb n 2 ≡ b → (c : Bool) → eqb n 4 ≡ c → (d : Bool) → eqb n 8 ≡ d
        → (a || b || c || d) ≡ true → (0 < n) × (n ≤ 8)
    go true f b g c h d i w = let k = eqb-true n 1 f in omega arith
    go false f true g c h d i w = let k = eqb-true n 2 g in omega arith
    go false f false g true h d i w = let k = eqb-true n 4 h in omega arith
    go false f false g false h true i w = let k = eqb-true n 8 i in omega arith
    go false f false g false h false i w = let z : ◌≡◌ {A = ℕ} 0 1 = cc in absurd (omega arith)

-- What a good type octet has.
pub record GoodType (c : ℕ) : Type 0 where
  pub clear : c / 16 % 4 ≡ 0
  pub known : kind c ≤ 10
  pub array : hinted c ≡ false → kind c ≡ 8 → ⊥
  pub partial : hinted c ≡ false → kind c ≡ 9 → ⊥

neither : (t a b : Bool) → (t || not (a || b)) ≡ true → t ≡ false → (a ≡ false) × (b ≡ false)
neither true a b e f = let z : ◌≡◌ {A = ℕ} 0 1 = cc in absurd (omega arith)
neither false true b e f = let z : ◌≡◌ {A = ℕ} 0 1 = cc in absurd (omega arith)
neither false false true e f = let z : ◌≡◌ {A = ℕ} 0 1 = cc in absurd (omega arith)
neither false false false e f = (refl, refl)

pub good_type : (c : ℕ) → type_allowed c ≡ true → GoodType c
unfolding type_allowed
good_type c e =
    let p = both (eqb (c / 16 % 4) 0) _ e in
    let q = both (leb (kind c) 10) _ p.1 in
    record {
      clear = eqb-true (c / 16 % 4) 0 p.0;
      known = leb-true (kind c) 10 q.0;
      array = λ f. eqb-false (kind c) 8 (neither (hinted c) (eqb (kind c) 8) (eqb (kind c) 9) q.1 f).0;
      partial = λ f. eqb-false (kind c) 9 (neither (hinted c) (eqb (kind c) 8) (eqb (kind c) 9) q.1 f).1;
    }

pub type_good : (c : ℕ) → GoodType c → type_allowed c ≡ true
unfolding type_allowed
type_good c g = rw (eq-eqb (c / 16 % 4) 0 g.clear, le-leb (kind c) 10 g.known) (go (hinted c) refl)
  where
    go : (t : Bool) → hinted c ≡ t → (t || not (eqb (kind c) 8 || eqb (kind c) 9)) ≡ true
    go true e = refl
    go false e = rw (ne_eqb (kind c) 8 (g.array e), ne_eqb (kind c) 9 (g.partial e))

-- A hint of h octets at the front of octets.
pub record HintFound (kind size : ℕ) (present : Bool) (s : List ℕ) (h : ℕ) : Type 0 where
  pub hint : List ℕ
  pub rest : List ℕ
  pub divides : s ≡ hint ++ rest
  pub sized : length hint ≡ h
  pub allowed : Hint kind size present hint

passes : (t : Bool) (p : HintStep) (k h : ℕ) → cond t p (HintFault k) ≡ Size h → (t ≡ true) × (p ≡ Size h)
passes true p k h e = (refl, e)
passes false p k h e = let z : ◌≡◌ {A = ℕ} 0 1 = cc in absurd (omega arith)

fails : (t : Bool) (p : HintStep) (k h : ℕ) → cond t (HintFault k) p ≡ Size h → (t ≡ false) × (p ≡ Size h)
fails true p k h e = let z : ◌≡◌ {A = ℕ} 0 1 = cc in absurd (omega arith)
fails false p k h e = (refl, e)

module _ (kind size t n : ℕ) (s : List ℕ) (h : ℕ) where
  array_found : kind ≡ 8 → array_hint size t n ≡ Size h → HintFound kind size true (t ∷ n ∷ s) h
  unfolding array_hint
  array_found k e =
      let p = passes _ (Size 2) 16 h e in
      let a = both (leb 4 t && leb t 7) _ p.0 in
      let b = both (leb 4 t) _ a.0 in
      let d = both (is_width n) _ a.1 in
      let m : 2 ≡ h = cc in
      record {
        hint = t ∷ n ∷ [];
        rest = s;
        divides = refl;
        sized = m;
        allowed = array t n k (leb-true 4 t b.0) (leb-true t 7 b.1) (is_true (is_width n) d.0) (eqb-true (size % n) 0 d.1);
      }

  partial_found : kind ≡ 9 → partial_hint t ≡ Size h → HintFound kind size true (t ∷ n ∷ s) h
  unfolding partial_hint
  partial_found k e =
      let p = passes (eqb t 6) (Size 2) 16 h e in
      let m : 2 ≡ h = cc in
      record {
        hint = 6 ∷ n ∷ [];
        rest = s;
        divides = ap (λ (x : ℕ). x ∷ n ∷ s) (eqb-true t 6 p.0);
        sized = m;
        allowed = partial n k;
      }

  value_found : (kind ≡ 8 → ⊥) → (kind ≡ 9 → ⊥) → value_hint t n (length s) ≡ Size h → HintFound kind size true (t ∷ n ∷ s) h
  unfolding value_hint
  value_found j k e =
      let p = passes _ _ 16 h e in
      let a = both (leb 5 t && leb t 6) _ p.0 in
      let b = both (leb 5 t) _ a.0 in
      let q = fails (ltb (length s) n) (Size (2 + n)) 3 h p.1 in
      let m : 2 + n ≡ h = cc in
      let l : length (take n s) ≡ n = length-take-le n s (ltb-false (length s) n q.0) in
      let w : Hint kind size true (t ∷ length (take n s) ∷ take n s)
      = value t (take n s) j k (leb-true 5 t b.0) (leb-true t 6 b.1) (rw l (is_true (is_width n) a.1)) in
      record {
        hint = t ∷ n ∷ take n s;
        rest = drop n s;
        divides = ap (λ (r : List ℕ). t ∷ n ∷ r) (sym (take-append-drop n s));
        sized = rw l (omega arith);
        allowed = rw l at w;
      }

name_step_found : (kind size : ℕ) (s : List ℕ) (h : ℕ) → read_hint kind size s ≡ Size h → HintFound kind size true s h
unfolding read_hint
name_step_found kind size [] h e = let z : ◌≡◌ {A = ℕ} 0 1 = cc in absurd (omega arith)
name_step_found kind size (t ∷ []) h e = let z : ◌≡◌ {A = ℕ} 0 1 = cc in absurd (omega arith)
name_step_found kind size (t ∷ n ∷ s) h e = go (eqb kind 8) refl (eqb kind 9) refl e
  where
    go : (a : Bool) → eqb kind 8 ≡ a → (b : Bool) → eqb kind 9 ≡ b
        → cond a (array_hint size t n) (cond b (partial_hint t) (value_hint t n (length s))) ≡ Size h → HintFound kind size true (t ∷ n ∷ s) h
    go true f b g w = array_found kind size t n s h (eqb-true kind 8 f) w
    go false f true g w = partial_found kind size t n s h (eqb-true kind 9 g) w
    go false f false g w = value_found kind size t n s h (eqb-false kind 8 f) (eqb-false kind 9 g) w

pub hint_found : (c size : ℕ) (s : List ℕ) (h : ℕ) → GoodType c → hint_at c size s ≡ Size h → HintFound (kind c) size (hinted c) s h
unfolding hint_at
hint_found c size s h g e = go (hinted c) refl e
  where
    go : (t : Bool) → hinted c ≡ t → cond t (read_hint (kind c) size s) (Size 0) ≡ Size h → HintFound (kind c) size t s h
    go true f w = name_step_found (kind c) size s h w
    go false f w =
        let m : 0 ≡ h = cc in
        record { hint = []; rest = s; divides = refl; sized = m; allowed = none (g.array f) (g.partial f) }

-- A hint that the layout allows is what the reading finds.
pub front_of_hint : (kind size : ℕ) (hint rest : List ℕ) → Hint kind size true hint → read_hint kind size (hint ++ rest) ≡ Size (length hint)
unfolding read_hint array_hint partial_hint value_hint
front_of_hint kind size hint rest (array t n k a b w d) =
    rw (eq-eqb kind 8 k, le-leb 4 t a, le-leb t 7 b, true_is (is_width n) w, eq-eqb (size % n) 0 d)
front_of_hint kind size hint rest (partial n k) =
    let j : kind ≡ 8 → ⊥ = λ e. omega arith in
    rw (ne_eqb kind 8 j, eq-eqb kind 9 k)
front_of_hint kind size hint rest (value t s j k a b w) =
    let l = length-append s rest in
    rw (ne_eqb kind 8 j, ne_eqb kind 9 k, le-leb 5 t a, le-leb t 6 b, true_is (is_width (length s)) w, le-ltb (length (s ++ rest)) (length s) (omega arith))
    (ap Size (omega arith))

pub hint_of : (c size : ℕ) (hint rest : List ℕ) → Hint (kind c) size (hinted c) hint → hint_at c size (hint ++ rest) ≡ Size (length hint)
unfolding hint_at
hint_of c size hint rest h = go (hinted c) hint h
  where
    go : (t : Bool) (hint : List ℕ) → Hint (kind c) size t hint → cond t (read_hint (kind c) size (hint ++ rest)) (Size 0) ≡ Size (length hint)
    go true hint w = front_of_hint (kind c) size hint rest w
    go false hint (none j k) = refl

-- A hint has ten octets at most.
pub hint_small : (kind size : ℕ) (t : Bool) (hint : List ℕ) → Hint kind size t hint → length hint ≤ 10
hint_small kind size t hint (none j k) = omega arith
hint_small kind size t hint (array a n k p q w d) = omega arith
hint_small kind size t hint (partial n k) = omega arith
hint_small kind size t hint (value a s j k p q w) = let h = width_small (length s) (true_is (is_width (length s)) w) in omega arith

-- A hint that is found has ten octets at most, and lies within the octets.
pub hint_few : (c size : ℕ) (s : List ℕ) (h : ℕ) → hint_at c size s ≡ Size h → (h ≤ 10) × (h ≤ length s)
unfolding hint_at
hint_few c size s h e = go (hinted c) e
  where
    go : (t : Bool) → cond t (read_hint (kind c) size s) (Size 0) ≡ Size h → (h ≤ 10) × (h ≤ length s)
    go true w =
        let f = name_step_found (kind c) size s h w in
        let few = hint_small (kind c) size true f.hint f.allowed in
        let all = ap length f.divides ∙ length-append f.hint f.rest in
        let n = f.sized in
        (omega arith, omega arith)
    go false w = let m : 0 ≡ h = cc in (omega arith, omega arith)

-- Without its bit, no hint is there, and the field is neither an array nor a partial.
no_hint : (kind size : ℕ) (t : Bool) (hint : List ℕ) → t ≡ false → Hint kind size t hint → (kind ≡ 8 → ⊥) × (kind ≡ 9 → ⊥)
no_hint kind size t hint e (none j k) = (j, k)
no_hint kind size t hint e (array a n k p q w d) = let z : ◌≡◌ {A = ℕ} 0 1 = cc in absurd (omega arith)
no_hint kind size t hint e (partial n k) = let z : ◌≡◌ {A = ℕ} 0 1 = cc in absurd (omega arith)
no_hint kind size t hint e (value a s j k p q w) = let z : ◌≡◌ {A = ℕ} 0 1 = cc in absurd (omega arith)

-- The type octet of an allowed field is good.
pub type_of : (c size : ℕ) (hint : List ℕ) → c / 16 % 4 ≡ 0 → kind c ≤ 10 → Hint (kind c) size (hinted c) hint → type_allowed c ≡ true
type_of c size hint p q h =
    type_good c
    (record {
      clear = p;
      known = q;
      array = λ e. (no_hint (kind c) size (hinted c) hint e h).0;
      partial = λ e. (no_hint (kind c) size (hinted c) hint e h).1;
    })

-- Without the bit for a hint there is none.
pub hint_missing : (k n : ℕ) (b : Bool) (hint : List ℕ) → Hint k n b hint → b ≡ false → length hint ≡ 0
hint_missing k n b hint (none f g) e = refl
hint_missing k n b hint (array t m f g h w d) e = let z : ◌≡◌ {A = ℕ} 0 1 = cc in absurd (omega arith)
hint_missing k n b hint (partial m f) e = let z : ◌≡◌ {A = ℕ} 0 1 = cc in absurd (omega arith)
hint_missing k n b hint (value t s f g h l w) e = let z : ◌≡◌ {A = ℕ} 0 1 = cc in absurd (omega arith)
