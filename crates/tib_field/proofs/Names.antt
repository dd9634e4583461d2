-- Laws of names: the computed test is the rule, and the test by places.
use Prim.Native.Nat.{ℕ, zero, suc, ◌+◌, ◌-◌, ◌≤◌, ◌<◌}
use native.Mathlib.Omega.{arith}
use mathlib.Core.Path.{◌≡◌, refl, sym, ap, ap₂, ◌∙◌, subst}
use mathlib.Core.Bool.{Bool, true, false, cond}
use mathlib.Core.List.{List, [], ◌∷◌, ◌++◌}
use lib.Dec.{eqb, ltb}
use lib.ListN.{length, get_or, take, drop, length-append, take-append-drop}
use lib.Seq.{take_at, length-take-le, get_or-take}
use borrow.Author.Tests.{eq-eqb, ne_eqb, eqb-true, eqb-false, lt-ltb, le-ltb, ltb-false}
use Rattle.octets.proofs.Slices.{length_zero}
use Rattle.tib_field.specs.Name.{NoZero, Name, none, closed, closes, named, name_step, NameStep, End, Fault, Sized}
use Rattle.tib_field.specs.internal.Zeros.{fault_of, name_fault, ZeroIn}

abbrev Closed : List ℕ → Type 0
Closed s = (r : List ℕ) × NoZero r × (s ≡ r ++ (0 ∷ []))

closes_name : (s : List ℕ) → closes s ≡ true → Closed s
unfolding closes NoZero
closes_name [] e = let z : ◌≡◌ {A = ℕ} 0 1 = cc in absurd (omega arith)
closes_name (x ∷ s) e = go (eqb x 0) refl (closes_name s) e
  where
    go : (t : Bool) → eqb x 0 ≡ t → (closes s ≡ true → Closed s) → cond t (eqb (length s) 0) (closes s) ≡ true → Closed (x ∷ s)
    go true f later g = ([], tt, ap₂ (λ (a : ℕ) (l : List ℕ). a ∷ l) (eqb-true x 0 f) (length_zero s (eqb-true (length s) 0 g)))
    go false f later g = let r = later g in (x ∷ r.0, (eqb-false x 0 f, r.1), ap (λ (l : List ℕ). x ∷ l) r.2)

pub named_name : (s : List ℕ) → named s ≡ true → Name s
unfolding named
named_name [] e = none
named_name (x ∷ s) e = let r = closes_name (x ∷ s) e in subst Name (sym r.2) (closed r.0 r.1)

closed_closes : (s : List ℕ) → NoZero s → closes (s ++ (0 ∷ [])) ≡ true
unfolding closes NoZero
closed_closes [] h = refl
closed_closes (x ∷ s) h = rw (ne_eqb x 0 h.0) (closed_closes s h.1)

pub name_named : (s : List ℕ) → Name s → named s ≡ true
unfolding named
name_named s none = refl
name_named s (closed [] h) = closed_closes [] h
name_named s (closed (x ∷ r) h) = closed_closes (x ∷ r) h

-- The computed test by places: k octets that are not zero and then a zero; a zero before the last octet; a last octet that is not zero.
both_false : (t u v : Bool) → u ≡ false → v ≡ false → cond t u v ≡ false
both_false true u v f g = f
both_false false u v f g = g

closes_good : (l : List ℕ) (k : ℕ) → length l ≡ suc k → ((j : ℕ) → j < k → get_or l j 0 ≡ 0 → ⊥) → get_or l k 0 ≡ 0 → closes l ≡ true
unfolding closes
closes_good [] k h f e = absurd (omega arith)
closes_good (x ∷ l) zero h f e = rw (eq-eqb x 0 e, eq-eqb (length l) 0 (omega arith))
closes_good (x ∷ l) (suc k) h f e =
    rw (ne_eqb x 0 (f 0 (omega arith))) (closes_good l k (omega arith) (λ j g. f (suc j) (omega arith)) e)

closes_early : (l : List ℕ) (j : ℕ) → suc j < length l → get_or l j 0 ≡ 0 → closes l ≡ false
unfolding closes
closes_early [] j h e = absurd (omega arith)
closes_early (x ∷ l) zero h e = rw (eq-eqb x 0 e, ne_eqb (length l) 0 (λ z. omega arith))
closes_early (x ∷ l) (suc j) h e =
    both_false (eqb x 0) (eqb (length l) 0) (closes l) (ne_eqb (length l) 0 (λ z. omega arith)) (closes_early l j (omega arith) e)

closes_open : (l : List ℕ) (k : ℕ) → length l ≡ suc k → (get_or l k 0 ≡ 0 → ⊥) → closes l ≡ false
unfolding closes
closes_open [] k h f = absurd (omega arith)
closes_open (x ∷ []) zero h f = rw (ne_eqb x 0 f)
closes_open (x ∷ (y ∷ l)) zero h f = absurd (omega arith)
closes_open (x ∷ l) (suc k) h f =
    both_false (eqb x 0) (eqb (length l) 0) (closes l) (ne_eqb (length l) 0 (λ z. omega arith)) (closes_open l k (omega arith) f)

named_some : (s : List ℕ) → 0 < length s → closes s ≡ named s
unfolding named
named_some [] h = absurd (omega arith)
named_some (x ∷ s) h = refl

-- The same of a name of n octets after the octet x of its size, at the places 1 to n.
module _ (x : ℕ) (s : List ℕ) where
  name_good : (n : ℕ) → n ≤ length s → get_or (x ∷ s) n 0 ≡ 0 → ZeroIn false (x ∷ s) 1 n n → named (take n s) ≡ true
  unfolding named ZeroIn
  name_good zero h e p = refl
  name_good (suc k) h e p =
      let l = length-take-le (suc k) s h in
      sym (named_some (take (suc k) s) (omega arith))
      ∙ closes_good (take (suc k) s) k l
      (λ j g z. p (suc j) (omega arith) (omega arith) (omega arith) (sym (get_or-take (suc k) s j 0 (omega arith)) ∙ z))
      (get_or-take (suc k) s k 0 (omega arith) ∙ e)

  name_open : (n : ℕ) → n ≤ length s → n ≡ x → (get_or (x ∷ s) n 0 ≡ 0 → ⊥) → named (take n s) ≡ false
  unfolding named
  name_open zero h e f = absurd (f (sym e))
  name_open (suc k) h e f =
      let l = length-take-le (suc k) s h in
      sym (named_some (take (suc k) s) (omega arith))
      ∙ closes_open (take (suc k) s) k l (λ z. f (sym (get_or-take (suc k) s k 0 (omega arith)) ∙ z))

  name_early : (n j : ℕ) → n ≤ length s → 1 ≤ j → j < n → get_or (x ∷ s) j 0 ≡ 0 → named (take n s) ≡ false
  name_early n zero h f g e = absurd (omega arith)
  name_early n (suc j) h f g e =
      let l = length-take-le n s h in
      sym (named_some (take n s) (omega arith))
      ∙ closes_early (take n s) j (omega arith) (get_or-take n s j 0 (omega arith) ∙ e)

  name_zero : (n : ℕ) → n ≤ length s → ZeroIn true (x ∷ s) 1 n n → named (take n s) ≡ false
  unfolding ZeroIn
  name_zero n h p = name_early n p.0 h p.1 p.2 p.4

-- Why the name at the front of octets is refused.
pub fault_of_none : (s : List ℕ) → length s ≡ 0 → 0 ≡ name_fault s
unfolding name_fault name_step fault_of
fault_of_none s h = sym (ap name_fault (length_zero s h))

pub fault_cut : (s : List ℕ) (n : ℕ) → 0 < length s → n ≡ get_or s 0 0 → length s - 1 < n → 3 ≡ name_fault s
unfolding name_fault name_step fault_of
fault_cut [] n h e g = absurd (omega arith)
fault_cut (x ∷ s) n h e g = rw (lt-ltb (length s) x (omega arith))

fault_whole : (x : ℕ) (s : List ℕ) (t : Bool) → x ≤ length s → named (take x s) ≡ t → fault_of (cond t (Sized x) (Fault 15)) ≡ name_fault (x ∷ s)
unfolding name_fault name_step
fault_whole x s t h e = rw (le-ltb (length s) x h, e)

pub fault_open : (s : List ℕ) (n : ℕ) → 0 < length s → n ≡ get_or s 0 0 → n ≤ length s - 1 → (get_or s n 0 ≡ 0 → ⊥) → 15 ≡ name_fault s
unfolding fault_of
fault_open [] n h e g f = absurd (omega arith)
fault_open (x ∷ s) n h e g f =
    fault_whole x s false (omega arith) (rw e at (name_open x s n (omega arith) e f))

pub fault_early : (s : List ℕ) (n : ℕ) → 0 < length s → n ≡ get_or s 0 0 → n ≤ length s - 1 → (t : Bool) → t ≡ true
    → ZeroIn t s 1 (get_or s 0 0) (get_or s 0 0) → 15 ≡ name_fault s
unfolding fault_of
fault_early [] n h e g t f p = absurd (omega arith)
fault_early (x ∷ s) n h e g t f p =
    fault_whole x s false (omega arith) (name_zero x s x (omega arith) (subst (λ (u : Bool). ZeroIn u (x ∷ s) 1 x x) f p))

pub fault_good : (s : List ℕ) (n : ℕ) → 0 < length s → n ≡ get_or s 0 0 → n ≤ length s - 1 → get_or s n 0 ≡ 0 → (t : Bool) → t ≡ false
    → ZeroIn t s 1 (get_or s 0 0) (get_or s 0 0) → 0 ≡ name_fault s
unfolding fault_of
fault_good [] n h e g z t f p = absurd (omega arith)
fault_good (x ∷ s) n h e g z t f p =
    fault_whole x s true (omega arith)
    (name_good x s x (omega arith) (subst (λ (m : ℕ). get_or (x ∷ s) m 0 ≡ 0) e z) (subst (λ (u : Bool). ZeroIn u (x ∷ s) 1 x x) f p))

-- What stands at the front, from the refusal of its name.
pub name_step_none : (s : List ℕ) → length s ≡ 0 → name_step s ≡ End
unfolding name_step
name_step_none s h = ap name_step (length_zero s h)

refused_name_step : (f : NameStep) (k : ℕ) → k ≡ fault_of f → (k ≡ 0 → ⊥) → f ≡ Fault k
unfolding fault_of
refused_name_step End k e h = absurd (h e)
refused_name_step (Fault m) k e h = ap Fault (sym e)
refused_name_step (Sized n) k e h = absurd (h e)

pub name_step_refused : (s : List ℕ) (k : ℕ) → k ≡ name_fault s → (k ≡ 0 → ⊥) → name_step s ≡ Fault k
unfolding name_fault
name_step_refused s k e h = refused_name_step (name_step s) k e h

sized_front : (n : ℕ) (t u : Bool) → 0 ≡ fault_of (cond t (Fault 3) (cond u (Sized n) (Fault 15))) → cond t (Fault 3) (cond u (Sized n) (Fault 15)) ≡ Sized n
unfolding fault_of
sized_front n true u e = absurd (omega arith)
sized_front n false true e = refl
sized_front n false false e = absurd (omega arith)

pub name_step_sized : (s : List ℕ) (n k : ℕ) → (length s ≡ 0 → ⊥) → k ≡ name_fault s → k ≡ 0 → n ≡ get_or s 0 0 → name_step s ≡ Sized n
unfolding name_fault name_step
name_step_sized [] n k h e z m = absurd (h refl)
name_step_sized (x ∷ s) n k h e z m = sized_front x (ltb (length s) x) (named (take x s)) (sym z ∙ e) ∙ ap Sized (sym m)

-- A message ends only where no octet remains.
some_front : (n : ℕ) (t u : Bool) → cond t (Fault 3) (cond u (Sized n) (Fault 15)) ≡ End → ⊥
some_front n true u e = let z : ◌≡◌ {A = ℕ} 0 1 = cc in omega arith
some_front n false true e = let z : ◌≡◌ {A = ℕ} 0 1 = cc in omega arith
some_front n false false e = let z : ◌≡◌ {A = ℕ} 0 1 = cc in omega arith

pub name_step_end : (s : List ℕ) → name_step s ≡ End → s ≡ []
unfolding name_step
name_step_end [] e = refl
name_step_end (n ∷ s) e = absurd (some_front n (ltb (length s) n) (named (take n s)) e)

-- A name that is found lies within the octets.
pub record Found (s : List ℕ) (n : ℕ) : Type 0 where
  pub name : List ℕ
  pub rest : List ℕ
  pub divides : s ≡ n ∷ (name ++ rest)
  pub sized : length name ≡ n
  pub good : Name name

pub name_step_found : (s : List ℕ) (n : ℕ) → name_step s ≡ Sized n → Found s n
unfolding name_step
name_step_found [] n e = let z : ◌≡◌ {A = ℕ} 0 1 = cc in absurd (omega arith)
name_step_found (x ∷ s) n e = go (ltb (length s) x) refl (named (take x s)) refl e
  where
    go : (t : Bool) → ltb (length s) x ≡ t → (u : Bool) → named (take x s) ≡ u → cond t (Fault 3) (cond u (Sized x) (Fault 15)) ≡ Sized n
        → Found (x ∷ s) n
    go true f u g h = let z : ◌≡◌ {A = ℕ} 0 1 = cc in absurd (omega arith)
    go false f true g h =
        let m : x ≡ n = cc in
        subst (Found (x ∷ s)) m
        (record {
          name = take x s;
          rest = drop x s;
          divides = ap (λ (r : List ℕ). x ∷ r) (sym (take-append-drop x s));
          sized = length-take-le x s (ltb-false (length s) x f);
          good = named_name (take x s) g;
        })
    go false f false g h = let z : ◌≡◌ {A = ℕ} 0 1 = cc in absurd (omega arith)

pub name_step_of_name : (name rest : List ℕ) → Name name → name_step (length name ∷ (name ++ rest)) ≡ Sized (length name)
unfolding name_step
name_step_of_name name rest h =
    let l = length-append name rest in
    rw (le-ltb (length (name ++ rest)) (length name) (omega arith), take_at name rest (length name) refl, name_named name h)

pub found_inside : (s : List ℕ) (n : ℕ) → name_step s ≡ Sized n → 1 + n ≤ length s
found_inside s n e =
    let f = name_step_found s n e in
    let l = ap length f.divides in
    let m = length-append f.name f.rest in
    let k = f.sized in
    omega arith

pub sized_inside : (s : List ℕ) (n k : ℕ) → (length s ≡ 0 → ⊥) → k ≡ name_fault s → k ≡ 0 → n ≡ get_or s 0 0 → 1 + n ≤ length s
sized_inside s n k h e z m = found_inside s n (name_step_sized s n k h e z m)

few_fault : (n : ℕ) (t u : Bool) → fault_of (cond t (Fault 3) (cond u (Sized n) (Fault 15))) ≤ 15
unfolding fault_of
few_fault n true u = omega arith
few_fault n false true = omega arith
few_fault n false false = omega arith

-- The refusal of a name is small.
pub name_fault_few : (s : List ℕ) → name_fault s ≤ 15
unfolding name_fault name_step fault_of
name_fault_few [] = omega arith
name_fault_few (x ∷ s) = few_fault x (ltb (length s) x) (named (take x s))
