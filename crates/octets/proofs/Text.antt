-- Just the text of Utf8.antt passes the test for text.
use Prim.Native.Nat.{ℕ, zero, suc, ◌≤◌, ◌<◌}
use native.Mathlib.Omega.{arith}
use mathlib.Core.Path.{◌≡◌, refl, ap, ◌∙◌, subst}
use mathlib.Core.Bool.{Bool, true, false, cond, ◌&&◌, and-false, false≢true}
use mathlib.Core.List.{List, [], ◌∷◌, ◌++◌}
use mathlib.Core.Logic.{◌↔◌, inl, inr}
use mathlib.Core.Option.{Option, none, some}
use lib.Dec.{leb}
use borrow.Author.Tests.{leb-true, leb-false, le-leb, lt-leb}
use borrow.Author.Rules.{rules}
use Rattle.octets.specs.Utf8 as utf8
use Rattle.octets.specs.Utf8.{Range, grammar, Fits, FitsOne, IsText}
use Rattle.octets.specs.Text.{within, after, text_after, text}

-- ---- an octet and a range

-- By cases at a number.
pub up_to : {A : Type 0} (v n : ℕ) → (v ≤ n → A) → (n < v → A) → A
up_to {A} v n a b = go (leb v n) refl
  where
    go : (t : Bool) → leb v n ≡ t → A
    go true e = a (leb-true v n e)
    go false e = b (leb-false v n e)

pub in_range_lem : (r : Range) (x : ℕ) → r.low ≤ x → x ≤ r.high → within r x ≡ true
unfolding within
in_range_lem r x l h = rw (le-leb r.low x l, le-leb x r.high h)

pub below_range : (r : Range) (x : ℕ) → x < r.low → within r x ≡ false
unfolding within
below_range r x h = rw (lt-leb r.low x h)

pub above_range : (r : Range) (x : ℕ) → r.high < x → within r x ≡ false
unfolding within
above_range r x h = rw (lt-leb x r.high h) (and-false (leb r.low x))

range_of : (r : Range) (x : ℕ) → within r x ≡ true → (r.low ≤ x) × (x ≤ r.high)
unfolding within
range_of r x e = go (leb r.low x) refl (leb x r.high) refl e
  where
    go : (a : Bool) → leb r.low x ≡ a → (b : Bool) → leb x r.high ≡ b → (a && b) ≡ true → (r.low ≤ x) × (x ≤ r.high)
    go true p true q e = (leb-true r.low x p, leb-true x r.high q)
    go true p false q e = absurd (false≢true e)
    go false p b q e = absurd (false≢true e)

-- ---- the rows of the grammar

-- No row is empty, and the leads of each row are above those of the rows before it; the first one's are n or more.
unfoldable pub Ascending : ℕ → List (List Range) → Type 0
Ascending n [] = Unit {0}
Ascending n ([] ∷ rows) = ⊥
Ascending n ((r ∷ rs) ∷ rows) = ((n ≤ r.low) × (r.low ≤ r.high)) × Ascending (suc r.high) rows

pub grammar_ascending : Ascending 0 grammar
unfolding Ascending grammar
grammar_ascending = search rules

-- An octet is a lead of the k-th row.
unfoldable pub Leads : List (List Range) → ℕ → ℕ → Type 0
Leads [] k x = ⊥
Leads ([] ∷ rows) zero x = ⊥
Leads ((r ∷ rs) ∷ rows) zero x = (r.low ≤ x) × (x ≤ r.high)
Leads (row ∷ rows) (suc k) x = Leads rows k x

-- What comes after a lead of the k-th row.
unfoldable pub rest_of : List (List Range) → ℕ → List Range
rest_of [] k = []
rest_of ([] ∷ rows) zero = []
rest_of ((r ∷ rs) ∷ rows) zero = rs
rest_of (row ∷ rows) (suc k) = rest_of rows k

-- A lead of a row is a lead of no row before it.
after_row : (n : ℕ) (rows : List (List Range)) (k x : ℕ) → Ascending n rows → Leads rows k x → (n ≤ x) × (after rows x ≡ some (rest_of rows k))
unfolding Ascending Leads rest_of after
after_row n [] k x a l = absurd l
after_row n ([] ∷ rows) k x a l = absurd a
after_row n ((r ∷ rs) ∷ rows) zero x a l = (omega (arith, a.0.0, l.0), rw (in_range_lem r x l.0 l.1))
after_row n ((r ∷ rs) ∷ rows) (suc k) x a l =
    let f = after_row (suc r.high) rows k x a.1 l in
    (omega (arith, a.0.0, a.0.1, f.0), rw (above_range r x f.0) f.1)

pub after_lead : (k x : ℕ) → Leads grammar k x → after grammar x ≡ some (rest_of grammar k)
after_lead k x l = (after_row 0 grammar k x grammar_ascending l).1

-- Octets that fit one of the rows begin with a lead of it.
record Row (rows : List (List Range)) (x : ℕ) (g : List ℕ) : Type 0 where
  index : ℕ
  leads : Leads rows index x
  fits : Fits (rest_of rows index) g

row_at : (rows : List (List Range)) (x : ℕ) (g : List ℕ) → FitsOne rows (x ∷ g) → Row rows x g
unfolding FitsOne Fits Leads rest_of
row_at [] x g f = absurd f
row_at ([] ∷ rows) x g (inl f) = absurd f
row_at ((r ∷ rs) ∷ rows) x g (inl f) = record { index = 0; leads = f.0; fits = f.1 }
row_at (row ∷ rows) x g (inr f) =
    let k = row_at rows x g f in
    record { index = suc k.index; leads = k.leads; fits = k.fits }

never_empty : (n : ℕ) (rows : List (List Range)) → Ascending n rows → FitsOne rows [] → ⊥
unfolding Ascending FitsOne Fits
never_empty n [] a f = f
never_empty n ([] ∷ rows) a f = a
never_empty n ((r ∷ rs) ∷ rows) a (inl f) = f
never_empty n ((r ∷ rs) ∷ rows) a (inr f) = never_empty (suc r.high) rows a.1 f

row_of : (rows : List (List Range)) (x : ℕ) (rs : List Range) (g : List ℕ) → after rows x ≡ some rs → Fits rs g → FitsOne rows (x ∷ g)
unfolding FitsOne Fits after
row_of [] x rs g e f = let z : ◌≡◌ {A = ℕ} 0 1 = cc in absurd (omega arith)
row_of ([] ∷ rows) x rs g e f = inr (row_of rows x rs g e f)
row_of ((r ∷ qs) ∷ rows) x rs g e f = go (within r x) refl e (λ e. row_of rows x rs g e f)
  where
    go : (t : Bool) → within r x ≡ t → cond t (some qs) (after rows x) ≡ some rs → (after rows x ≡ some rs → FitsOne rows (x ∷ g))
        → FitsOne ((r ∷ qs) ∷ rows) (x ∷ g)
    go true p e later = let q : rs ≡ qs = cc in inl (range_of r x p, subst (λ (rs : List Range). Fits rs g) q f)
    go false p e later = inr (later e)

-- ---- text passes

pub lead_passed : (x : ℕ) (rs : List Range) (s : List ℕ) → after grammar x ≡ some rs → text_after [] (x ∷ s) ≡ text_after rs s
unfolding text_after
lead_passed x rs s e = ap (λ (o : Option (List Range)). elim o [ none ↦ false | some rs ↦ text_after rs s ]) e

pub no_character : (x : ℕ) (s : List ℕ) → after grammar x ≡ none → text_after [] (x ∷ s) ≡ false
unfolding text_after
no_character x s e = rw (text_after, e)

rest_passed : (rs : List Range) (g s : List ℕ) → Fits rs g → text_after rs (g ++ s) ≡ text_after [] s
unfolding Fits text_after
rest_passed [] [] s f = refl
rest_passed [] (x ∷ g) s f = absurd f
rest_passed (r ∷ rs) [] s f = absurd f
rest_passed (r ∷ rs) (x ∷ g) s f = rw (in_range_lem r x f.0.0 f.0.1) (rest_passed rs g s f.1)

character_passed : (g s : List ℕ) → FitsOne grammar g → text_after [] (g ++ s) ≡ text_after [] s
character_passed [] s f = absurd (never_empty 0 grammar grammar_ascending f)
character_passed (x ∷ g) s f =
    let r = row_at grammar x g f in
    let rs = rest_of grammar r.index in
    lead_passed x rs (g ++ s) (after_lead r.index x r.leads) ∙ rest_passed rs g s r.fits

text_passes : (s : List ℕ) → IsText s → text_after [] s ≡ true
unfolding text_after
text_passes s utf8.none = refl
text_passes s (utf8.more g rest f t) = character_passed g rest f ∙ text_passes rest t

-- ---- what passes is text

-- The rest of a character, and text after it.
record Begun (rs : List Range) (s : List ℕ) : Type 0 where
  front : List ℕ
  rest : List ℕ
  fits : Fits rs front
  good : IsText rest
  joined : front ++ rest ≡ s

led : (x : ℕ) (rs : List Range) (s : List ℕ) → after grammar x ≡ some rs → Begun rs s → IsText (x ∷ s)
led x rs s e b =
    subst (λ (s : List ℕ). IsText (x ∷ s)) b.joined (utf8.more (x ∷ b.front) b.rest (row_of grammar x rs b.front e b.fits) b.good)

passed_text : (s : List ℕ) (rs : List Range) → text_after rs s ≡ true → Begun rs s
unfolding text_after Fits
passed_text [] [] e = record { front = []; rest = []; fits = tt; good = utf8.none; joined = refl }
passed_text [] (r ∷ rs) e = absurd (false≢true e)
passed_text (x ∷ s) [] e = record { front = []; rest = x ∷ s; fits = tt; good = go (after grammar x) refl e (passed_text s); joined = refl }
  where
    go : (o : Option (List Range)) → after grammar x ≡ o → elim o [ none ↦ false | some rs ↦ text_after rs s ] ≡ true
        → ((rs : List Range) → text_after rs s ≡ true → Begun rs s) → IsText (x ∷ s)
    go none f e later = absurd (false≢true e)
    go (some rs) f e later = led x rs s f (later rs e)
passed_text (x ∷ s) (r ∷ rs) e = go (within r x) refl e (passed_text s rs)
  where
    go : (t : Bool) → within r x ≡ t → (t && text_after rs s) ≡ true → (text_after rs s ≡ true → Begun rs s) → Begun (r ∷ rs) (x ∷ s)
    go true p e later =
        let b = later e in
        record {
          front = x ∷ b.front;
          rest = b.rest;
          fits = (range_of r x p, b.fits);
          good = b.good;
          joined = ap (λ (s : List ℕ). x ∷ s) b.joined;
        }
    go false p e later = absurd (false≢true e)

text_of : (s : List ℕ) → Begun [] s → IsText s
unfolding Fits
text_of s b = go b.front b.fits b.joined
  where
    go : (front : List ℕ) → Fits [] front → front ++ b.rest ≡ s → IsText s
    go [] f e = subst IsText e b.good
    go (x ∷ g) f e = absurd f

-- Octets pass the test exactly where they are text.
pub text_exactly : (s : List ℕ) → (text s ≡ true) ↔ IsText s
unfolding text
text_exactly s = (λ e. text_of s (passed_text s [] e), text_passes s)
