-- Laws of zeros among octets, by their places.
use Prim.Native.Nat.{ℕ, ◌+◌, ◌-◌, ◌≤◌, ◌<◌}
use native.Mathlib.Omega.{arith}
use mathlib.Core.Path.{◌≡◌, refl, sym, subst, ◌∙◌}
use mathlib.Core.Bool.{Bool, true, false, ◌||◌, ◌&&◌}
use mathlib.Core.List.{List}
use lib.Dec.{eqb, ltb}
use lib.ListN.{length, get_or, take, drop, length-drop}
use lib.Seq.{length-take-le}
use Rattle.std.proofs.lemmas.List.{get_or-drop, get_or-take}
use Rattle.std.specs.List.{IsAnyAnswer}
use borrow.Author.Tests.{eqb-true, eqb-false, ltb-true, ltb-false, lt-ltb}
use Rattle.tib_field.specs.internal.Zeros.{ZeroIn}
use Rattle.octets.proofs.Slices.{tail_part}

-- Whether an octet at a place below n is zero.
unfoldable Told : Bool → ℕ → ℕ → ℕ → Type 0
Told true x i n = (i < n) × (x ≡ 0)
Told false x i n = i < n → x ≡ 0 → ⊥

told : (t : Bool) (x i n : ℕ) → t ≡ (ltb i n && eqb x 0) → Told t x i n
unfolding Told
told t x i n e = go t (ltb i n) refl (eqb x 0) refl e
  where
    go : (t u : Bool) → ltb i n ≡ u → (v : Bool) → eqb x 0 ≡ v → t ≡ (u && v) → Told t x i n
    go true true f true g e = (ltb-true i n f, eqb-true x 0 g)
    go true true f false g e = let z : ◌≡◌ {A = ℕ} 0 1 = cc in absurd (omega arith)
    go true false f v g e = let z : ◌≡◌ {A = ℕ} 0 1 = cc in absurd (omega arith)
    go false true f true g e = let z : ◌≡◌ {A = ℕ} 0 1 = cc in absurd (omega arith)
    go false true f false g e = λ h. eqb-false x 0 g
    go false false f v g e = λ h k. let l = ltb-false i n f in omega arith

one_more : (z t : Bool) (s : List ℕ) (a i n : ℕ) → a ≤ i → ZeroIn z s a i n → Told t (get_or s i 0) i n → ZeroIn (z || t) s a (i + 1) n
unfolding ZeroIn Told
one_more true t s a i n h p q = (p.0, p.1, omega arith, p.3, p.4)
one_more false true s a i n h p q = (i, h, omega arith, q.0, q.1)
one_more false false s a i n h p q = λ j f g l e. go j f g l e (ltb j i) refl
  where
    go : (j : ℕ) → a ≤ j → j < i + 1 → j < n → get_or s j 0 ≡ 0 → (t : Bool) → ltb j i ≡ t → ⊥
    go j f g l e true k = p j f (ltb-true j i k) l e
    go j f g l e false k =
        let m = ltb-false j i k in
        let same : j ≡ i = omega arith in
        q (omega arith) (subst (λ (x : ℕ). get_or s x 0 ≡ 0) same e)

pub none_yet : (s : List ℕ) (n : ℕ) → ZeroIn false s 1 1 n
unfolding ZeroIn
none_yet s n = λ j f g l e. omega arith

pub octet_told : (z t : Bool) (s : List ℕ) (i n : ℕ) → 1 ≤ i → ZeroIn z s 1 i n → t ≡ (ltb i n && eqb (get_or s i 0) 0) → ZeroIn (z || t) s 1 (i + 1) n
octet_told z t s i n h p e = one_more z t s 1 i n h p (told t (get_or s i 0) i n e)

-- The octets from a on, one after the other. All stand below n.
pub none_from : (s : List ℕ) (a n : ℕ) → ZeroIn false s a (a + 0) n
unfolding ZeroIn
none_from s a n = λ j f g l e. omega arith

pub place_told : (z : Bool) (s : List ℕ) (a i n : ℕ) → a + i < n → ZeroIn z s a (a + i) n
    → ZeroIn (z || eqb (get_or s (a + i) 0) 0) s a (a + (i + 1)) n
place_told z s a i n h p =
    let e : a + i + 1 ≡ a + (i + 1) = omega arith in
    let t = told (eqb (get_or s (a + i) 0) 0) (get_or s (a + i) 0) (a + i) n (rw (lt-ltb (a + i) n h)) in
    subst (λ (b : ℕ). ZeroIn (z || eqb (get_or s (a + i) 0) 0) s a b n) e (one_more z _ s a (a + i) n (omega arith) p t)

-- The octets from a place on, as the library looks for a zero among them.
pub no_places : (s : List ℕ) (a n : ℕ) → n ≤ a → ZeroIn false s a n n
unfolding ZeroIn
no_places s a n h = λ j f g l e. omega arith

pub part_told : (s : List ℕ) (a n : ℕ) → a < n → n ≤ length s → (t : Bool)
    → IsAnyAnswer (λ y b. eqb y 0 ≡ b) (take (n - a) (drop a s)) t → ZeroIn t s a n n
unfolding ZeroIn
part_told s a n h g true p =
    let m = length-drop a s in
    let k = length-take-le (n - a) (drop a s) (omega arith) in
    let low : a ≤ a + p.0 = omega arith in
    let high : a + p.0 < n = omega arith in (
      a + p.0,
      low,
      high,
      high,
      sym (get_or-drop a s p.0 0) ∙ (sym (get_or-take (n - a) (drop a s) p.0 0 (omega arith)) ∙ eqb-true _ 0 (p.2 0)),
    )
part_told s a n h g false p = λ j f l k e.
    let m = length-drop a s in
    let q = length-take-le (n - a) (drop a s) (omega arith) in
    let same : a + (j - a) ≡ j = omega arith in
    let x = get_or-take (n - a) (drop a s) (j - a) 0 (omega arith) ∙ get_or-drop a s (j - a) 0 in
    eqb-false _ 0 (p (j - a) 0 (omega arith) (omega arith)) (x ∙ rw same e)

-- The octets up to 16, and those after them.
pub same_size : (t : Bool) (s : List ℕ) (e n : ℕ) → e ≡ n → ZeroIn t s 1 e e → ZeroIn t s 1 n n
same_size t s e n g p = subst (λ (m : ℕ). ZeroIn t s 1 m m) g p

pub near_zero : (t : Bool) (s : List ℕ) (b n : ℕ) → t ≡ true → ZeroIn t s 1 b n → ZeroIn t s 1 n n
unfolding ZeroIn
near_zero true s b n e p = (p.0, p.1, p.3, p.3, p.4)
near_zero false s b n e p = let z : ◌≡◌ {A = ℕ} 0 1 = cc in absurd (omega arith)

pub near_none : (t : Bool) (s : List ℕ) (e n : ℕ) → t ≡ false → ZeroIn t s 1 17 n → e ≡ n → ZeroIn false s 1 17 e
near_none t s e n f p g = subst (λ (m : ℕ). ZeroIn false s 1 17 m) (sym g) (subst (λ (u : Bool). ZeroIn u s 1 17 n) f p)

-- No zero stands below b, and the places from c to d are told.
joined : (t : Bool) (s : List ℕ) (b c d n : ℕ) → 1 ≤ c → c ≤ b → d ≤ n → ZeroIn false s 1 b n → ZeroIn t s c d d → ZeroIn t s 1 d n
unfolding ZeroIn
joined true s b c d n f g h p q = let l = q.1 in let m = q.2 in (q.0, omega arith, q.2, omega arith, q.4)
joined false s b c d n f g h p q = λ j k l m x. go j k l m x (ltb j b) refl
  where
    go : (j : ℕ) → 1 ≤ j → j < d → j < n → get_or s j 0 ≡ 0 → (t : Bool) → ltb j b ≡ t → ⊥
    go j k l m x true e = p j k (ltb-true j b e) m x
    go j k l m x false e = let r = ltb-false j b e in q j (omega arith) l l x

pub near_and_far : (t u : Bool) (s : List ℕ) (e n : ℕ) → t ≡ false → ZeroIn t s 1 17 n → e ≡ n → ZeroIn u s 17 e e → ZeroIn u s 1 n n
near_and_far t u s e n f p g q = same_size u s e n g (joined u s 17 17 e e (omega arith) (omega arith) (omega arith) (near_none t s e n f p g) q)

-- No zero stands below i, and the sixteen octets from c on are told. They begin at i or before it.
module _ (s : List ℕ) (i n : ℕ) (p : ZeroIn false s 1 i n) (t : Bool) (c : ℕ) (q : ZeroIn t s c (c + 16) (c + 16)) (h : 1 ≤ c) (g : c ≤ i) (k : c + 16 ≤ n) where
  pub sixteen_told : (d : ℕ) → c + 16 ≡ d → ZeroIn t s 1 d n
  sixteen_told d f = subst (λ (m : ℕ). ZeroIn t s 1 m n) f (joined t s i c (c + 16) n h g k p q)

  pub sixteen_zero : t ≡ true → ZeroIn true s 1 n n
  sixteen_zero e = subst (λ (u : Bool). ZeroIn u s 1 n n) e (near_zero t s (c + 16) n e (sixteen_told (c + 16) refl))

  pub sixteen_none : t ≡ false → (d : ℕ) → c + 16 ≡ d → ZeroIn false s 1 d n
  sixteen_none e d f = subst (λ (u : Bool). ZeroIn u s 1 d n) e (sixteen_told d f)

-- The octets from the first on are all of them.
pub of_all : (t : Bool) (s : List ℕ) (n : ℕ) → ZeroIn t (take (length s - 0) (drop 0 s)) 1 n n → ZeroIn t s 1 n n
of_all t s n p = subst (λ (l : List ℕ). ZeroIn t l 1 n n) (tail_part s 0) p
