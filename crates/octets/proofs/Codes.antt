-- Laws of numbers that stand for themselves or follow in a chosen width, and of their least forms.
use Prim.Native.Nat.{ℕ, zero, suc, ◌+◌, ◌-◌, ◌^◌, ◌≤◌, ◌<◌}
use native.Mathlib.Omega.{arith}
use mathlib.Core.Path.{◌≡◌, refl, sym, ◌∙◌, subst}
use mathlib.Core.Bool.{Bool, true, false, cond}
use mathlib.Core.List.{List, [], ◌∷◌}
use lib.ListN.{length, get_or}
use lib.Dec.{ltb}
use borrow.Author.Tests.{ltb-true, ltb-false, lt-ltb, le-ltb}
use Rattle.octets.specs.Number.{Octets, big_endian, octets_of}
use Rattle.octets.specs.ControlPart.{Code, Form, direct, follows}
use Rattle.octets.specs.Control.{following, coded, first_fit, least_code}
use Rattle.octets.proofs.Slices.{length_zero}
use Rattle.octets.proofs.Number.{number_below, number_octets_of, octets_octets_of, length_octets_of, number_injective}

pub form_following : (code : Code) (v x : ℕ) (s : List ℕ) → Form code v x s → following code x ≡ length s
unfolding following
form_following code v x s (direct h) = rw (lt-ltb v code.direct h)
form_following code v x s (follows i r h l e) =
    let k : code.direct + i - code.direct ≡ i = omega arith in
    rw (le-ltb (code.direct + i) code.direct (omega arith), k) (sym l)

pub form_coded : (code : Code) (v x : ℕ) (s : List ℕ) → Form code v x s → coded code x s ≡ v
unfolding coded
form_coded code v x s (direct h) = rw (lt-ltb v code.direct h)
form_coded code v x s (follows i r h l e) = rw (le-ltb (code.direct + i) code.direct (omega arith)) e

pub form_lead : (code : Code) (v x : ℕ) (s : List ℕ) → Form code v x s → x < code.direct + length code.widths
form_lead code v x s (direct h) = omega arith
form_lead code v x s (follows i r h l e) = omega arith

-- Every lead of a code, with as many octets as follow it, stands for a number.
pub form_of : (code : Code) (x : ℕ) (s : List ℕ) → x < code.direct + length code.widths → length s ≡ following code x → Form code (coded code x s) x s
unfolding following coded
form_of code x s h l = go (ltb x code.direct) refl l
  where
    go : (t : Bool) → ltb x code.direct ≡ t → length s ≡ cond t 0 (get_or code.widths (x - code.direct) 0)
        → Form code (cond t x (big_endian s)) x s
    go true e k = subst (Form code x x) (sym (length_zero s k)) (direct (ltb-true x code.direct e))
    go false e k =
        let b = ltb-false x code.direct e in
        let i = x - code.direct in
        let f : code.direct + i ≡ x = omega arith in
        subst (λ (y : ℕ). Form code (big_endian s) y s) f (follows i s (omega arith) k refl)

-- The widths of a code rise from above w.
unfoldable pub Rising : ℕ → List ℕ → Type 0
Rising w [] = Unit {0}
Rising w (u ∷ us) = (w < u) × Rising u us

pub rising_below : (w : ℕ) (ws : List ℕ) (i : ℕ) → Rising w ws → i < length ws → w < get_or ws i 0
unfolding Rising
rising_below w [] i r h = absurd (omega arith)
rising_below w (u ∷ us) zero r h = r.0
rising_below w (u ∷ us) (suc i) r h = let k = rising_below u us i r.1 (omega arith) in let l = r.0 in omega arith

-- A number in the width at `place`, with the lead d for the first width.
pub record Fit (d : ℕ) (ws : List ℕ) (v x : ℕ) (s : List ℕ) : Type 0 where
  pub place : ℕ
  pub inside : place < length ws
  pub lead : x ≡ d + place
  pub wide : length s ≡ get_or ws place 0
  pub value : big_endian s ≡ v
  pub octets : Octets s

fit_later : (d w : ℕ) (ws : List ℕ) (v x : ℕ) (s : List ℕ) → Fit (suc d) ws v x s → Fit d (w ∷ ws) v x s
fit_later d w ws v x s f =
    let l = f.lead in
    let h = f.inside in
    record { place = suc f.place; inside = omega arith; lead = omega arith; wide = f.wide; value = f.value; octets = f.octets }

-- The first width that holds a number, where one does.
first_fit_fits : (d : ℕ) (ws : List ℕ) (v i : ℕ) → i < length ws → v < 256 ^ get_or ws i 0 → Fit d ws v (first_fit d ws v).0 (first_fit d ws v).1
unfolding first_fit
first_fit_fits d [] v i h k = absurd (omega arith)
first_fit_fits d (w ∷ ws) v i h k = go (ltb v (256 ^ w)) refl i h k (first_fit_fits (suc d) ws v)
  where
    go : (t : Bool) → ltb v (256 ^ w) ≡ t → (i : ℕ) → i < suc (length ws) → v < 256 ^ get_or (w ∷ ws) i 0
        → ((j : ℕ) → j < length ws → v < 256 ^ get_or ws j 0 → Fit (suc d) ws v (first_fit (suc d) ws v).0 (first_fit (suc d) ws v).1)
        → Fit d (w ∷ ws) v (cond t (d, octets_of w v) (first_fit (suc d) ws v)).0 (cond t (d, octets_of w v) (first_fit (suc d) ws v)).1
    go true e i h k later =
        record {
          place = 0;
          inside = omega arith;
          lead = omega arith;
          wide = length_octets_of w v;
          value = number_octets_of w v (ltb-true v (256 ^ w) e);
          octets = octets_octets_of w v;
        }
    go false e zero h k later = let b = ltb-false v (256 ^ w) e in absurd (omega arith)
    go false e (suc j) h k later =
        fit_later d w ws v (first_fit (suc d) ws v).0 (first_fit (suc d) ws v).1 (later j (omega arith) k)

-- Nothing that stands for as large a number is shorter than the first fit, and what stands for the same number in as many octets is it.
pub record Least (x : ℕ) (s : List ℕ) (y : ℕ) (r : List ℕ) (v w : ℕ) : Type 0 where
  pub long : length s ≤ length r
  pub same : length s ≡ length r → v ≡ w → (x ≡ y) × (s ≡ r)

first_fit_least : (d u : ℕ) (ws : List ℕ) (v w y : ℕ) (r : List ℕ) → Rising u ws → v ≤ w → Fit d ws w y r
    → Least (first_fit d ws v).0 (first_fit d ws v).1 y r v w
unfolding first_fit Rising
first_fit_least d u [] v w y r a h f = let k = f.inside in absurd (omega arith)
first_fit_least d u (n ∷ ws) v w y r a h f =
    go (ltb v (256 ^ n)) refl f.place f.inside f.lead f.wide (first_fit_least (suc d) n ws v w y r a.1 h)
  where
    go : (t : Bool) → ltb v (256 ^ n) ≡ t → (i : ℕ) → i < suc (length ws) → y ≡ d + i → length r ≡ get_or (n ∷ ws) i 0
        → (Fit (suc d) ws w y r → Least (first_fit (suc d) ws v).0 (first_fit (suc d) ws v).1 y r v w)
        → Least (cond t (d, octets_of n v) (first_fit (suc d) ws v)).0 (cond t (d, octets_of n v) (first_fit (suc d) ws v)).1 y r v w
    go true e zero k l b later =
        let c = length_octets_of n v in
        record {
          long = omega arith;
          same = λ p q. (
            omega arith,
            number_injective (octets_of n v) r (octets_octets_of n v) f.octets p
                (number_octets_of n v (ltb-true v (256 ^ n) e) ∙ q ∙ sym f.value),
          );
        }
    go true e (suc j) k l b later =
        let c = length_octets_of n v in
        let g = rising_below n ws j a.1 (omega arith) in
        record { long = omega arith; same = λ p q. absurd (omega arith) }
    go false e zero k l b later =
        let c : big_endian r < 256 ^ n = subst (λ (m : ℕ). big_endian r < 256 ^ m) b (number_below r f.octets) in
        let g = ltb-false v (256 ^ n) e in
        let q = f.value in
        absurd (omega arith)
    go false e (suc j) k l b later =
        later (record { place = j; inside = omega arith; lead = omega arith; wide = b; value = f.value; octets = f.octets })

-- A code whose widths rise from 1 on, and a number that its widest form holds.
pub record Encodable (code : Code) (v : ℕ) : Type 0 where
  pub rising : Rising 0 code.widths
  pub widest : ℕ
  pub inside : widest < length code.widths
  pub below : v < 256 ^ get_or code.widths widest 0

-- The least form of a number stands for it.
pub least_code_form : (code : Code) (v : ℕ) → Encodable code v → Form code v (least_code code v).0 (least_code code v).1
unfolding least_code
least_code_form code v h = go (ltb v code.direct) refl
  where
    go : (t : Bool) → ltb v code.direct ≡ t
        → Form code v (cond t (v, []) (first_fit code.direct code.widths v)).0 (cond t (v, []) (first_fit code.direct code.widths v)).1
    go true e = direct (ltb-true v code.direct e)
    go false e =
        let f = first_fit_fits code.direct code.widths v h.widest h.inside h.below in
        subst (λ (x : ℕ). Form code v x (first_fit code.direct code.widths v).1) (sym f.lead)
        (follows f.place (first_fit code.direct code.widths v).1 f.inside f.wide f.value)

pub least_code_octets : (code : Code) (v : ℕ) → Encodable code v → Octets (least_code code v).1
unfolding least_code Octets
least_code_octets code v h = go (ltb v code.direct)
  where
    go : (t : Bool) → Octets (cond t (v, []) (first_fit code.direct code.widths v)).1
    go true = tt
    go false = (first_fit_fits code.direct code.widths v h.widest h.inside h.below).octets

-- A form of as large a number is no shorter than the least form, and a form of the same number in as many octets is the least form.
pub least_code_least : (code : Code) (v w y : ℕ) (r : List ℕ) → Rising 0 code.widths → v ≤ w → Octets r → Form code w y r
    → Least (least_code code v).0 (least_code code v).1 y r v w
unfolding least_code
least_code_least code v w y r a h o f = go (ltb v code.direct) refl y r o f
  where
    go : (t : Bool) → ltb v code.direct ≡ t → (y : ℕ) (r : List ℕ) → Octets r → Form code w y r
        → Least (cond t (v, []) (first_fit code.direct code.widths v)).0 (cond t (v, []) (first_fit code.direct code.widths v)).1 y r v w
    go true e y r o (direct k) = record { long = omega arith; same = λ p q. (q, refl) }
    go true e y r o (follows i s k l n) =
        let c = rising_below 0 code.widths i a k in
        record { long = omega arith; same = λ p q. absurd (omega arith) }
    go false e y r o (direct k) = let c = ltb-false v code.direct e in absurd (omega arith)
    go false e y r o (follows i s k l n) =
        first_fit_least code.direct 0 code.widths v w (code.direct + i) s a h
        (record { place = i; inside = k; lead = refl; wide = l; value = n; octets = o })
