-- What comes after each lead octet of the grammar.
use Rattle.std.proofs.Common.{◌≡◌, ℕ, suc, ◌<◌, ◌≤◌, Bool, true, false, cond, eqb, List, [], ◌∷◌, drop, refl, arith, rules, le-ltb, lt-ltb, ne_eqb}
use mathlib.Core.Option.{none, some}
use lib.ListN.{replicate}
use Rattle.octets.specs.Utf8.{Range, ◌to◌, tail, grammar}
use Rattle.octets.specs.Text.{within, after}
use Rattle.octets.proofs.Text.{up_to, below_range, above_range, Ascending, Leads, rest_of, after_lead}
use Rattle.octets_text.specs.internal.Pending.{wants, next, pending}

-- An octet below the leads of all rows, and one above them, is no lead.
below_rows : (n : ℕ) (rows : List (List Range)) (x : ℕ) → Ascending n rows → x < n → after rows x ≡ none
unfolding Ascending after
below_rows n [] x a h = refl
below_rows n ([] ∷ rows) x a h = absurd a
below_rows n ((r ∷ rs) ∷ rows) x a h =
    rw (below_range r x (omega (arith, a.0.0))) (below_rows (suc r.high) rows x a.1 (omega (arith, a.0.0, a.0.1)))

UpTo : ℕ → List (List Range) → Type 0
UpTo m [] = Unit {0}
UpTo m ([] ∷ rows) = UpTo m rows
UpTo m ((r ∷ rs) ∷ rows) = (r.high ≤ m) × UpTo m rows

above_rows : (m : ℕ) (rows : List (List Range)) (x : ℕ) → UpTo m rows → m < x → after rows x ≡ none
unfolding UpTo after
above_rows m [] x u h = refl
above_rows m ([] ∷ rows) x u h = above_rows m rows x u h
above_rows m ((r ∷ rs) ∷ rows) x u h = rw (above_range r x (omega (arith, u.0))) (above_rows m rows x u.1 h)

-- ---- the octet after a lead

-- Four leads narrow the range of the octet after them.
next_tail : (c : ℕ) → ((c ≡ 0xe0 → ⊥) × (c ≡ 0xed → ⊥)) × ((c ≡ 0xf0 → ⊥) × (c ≡ 0xf4 → ⊥)) → next c ≡ tail
unfolding next
next_tail c n = rw (ne_eqb c 0xe0 n.0.0, ne_eqb c 0xed n.0.1, ne_eqb c 0xf0 n.1.0, ne_eqb c 0xf4 n.1.1)

pub next_low : (c : ℕ) → c < 0xe0 → next c ≡ tail
next_low c h = next_tail c (omega arith)

-- No octet but 80 to bf comes after a lead.
pub next_inside : (c : ℕ) → (0x80 ≤ (next c).low) × ((next c).high ≤ 0xbf)
unfolding next
next_inside c = (low (eqb c 0xe0) (eqb c 0xf0), high (eqb c 0xed) (eqb c 0xf4))
  where
    low : (t u : Bool) → 0x80 ≤ cond t 0xa0 (cond u 0x90 0x80)
    low true u = omega arith
    low false true = omega arith
    low false false = omega arith

    high : (t u : Bool) → cond t 0x9f (cond u 0x8f 0xbf) ≤ 0xbf
    high true u = omega arith
    high false true = omega arith
    high false false = omega arith

-- ---- the leads

pub wants_none : (x : ℕ) → x < 0xc0 → wants x ≡ 0
unfolding wants
wants_none x h = rw (lt-ltb x 0xc0 h)

pub wants_one : (x : ℕ) → 0xc0 ≤ x → x < 0xe0 → wants x ≡ 1
unfolding wants
wants_one x l h = rw (le-ltb x 0xc0 l, lt-ltb x 0xe0 h)

pub wants_two : (x : ℕ) → 0xe0 ≤ x → x < 0xf0 → wants x ≡ 2
unfolding wants
wants_two x l h = rw (le-ltb x 0xc0 (omega arith), le-ltb x 0xe0 l, lt-ltb x 0xf0 h)

pub wants_three : (x : ℕ) → 0xf0 ≤ x → wants x ≡ 3
unfolding wants
wants_three x l = rw (le-ltb x 0xc0 (omega arith), le-ltb x 0xe0 (omega arith), le-ltb x 0xf0 l)

-- The octets that a lead wants are those that the grammar has after it.
module _ (x : ℕ) where
  pub alone : x < 0x80 → after grammar x ≡ some []
  unfolding Leads rest_of grammar
  alone h = after_lead 0 x (omega arith)

  pub leads_one : 0xc2 ≤ x → x < 0xe0 → after grammar x ≡ some (pending 1 x)
  unfolding Leads rest_of grammar pending replicate
  leads_one l h = rw (next_low x h) (after_lead 1 x (omega arith))

  pub leads_two : 0xe0 ≤ x → x < 0xf0 → after grammar x ≡ some (pending 2 x)
  unfolding Leads rest_of grammar pending replicate next after within
  leads_two l h =
      up_to x 0xe0 (λ k. let e : x ≡ 0xe0 = omega arith in rw e) λ k.
      up_to x 0xec (λ m. rw (next_tail x (omega arith)) (after_lead 3 x (omega arith))) λ m.
      up_to x 0xed (λ n. let e : x ≡ 0xed = omega arith in rw e) λ n.
      rw (next_tail x (omega arith)) (after_lead 5 x (omega arith))

  pub leads_three : 0xf0 ≤ x → x < 0xf5 → after grammar x ≡ some (pending 3 x)
  unfolding Leads rest_of grammar pending replicate next after within
  leads_three l h =
      up_to x 0xf0 (λ k. let e : x ≡ 0xf0 = omega arith in rw e) λ k.
      up_to x 0xf3 (λ m. rw (next_tail x (omega arith)) (after_lead 7 x (omega arith))) λ m.
      let e : x ≡ 0xf4 = omega arith in rw e

  pub no_lead : 0x80 ≤ x → x < 0xc2 → after grammar x ≡ none
  unfolding Ascending grammar after
  no_lead l h = rw (above_range (0x00 to 0x7f) x l) (below_rows 0xc2 (drop 1 grammar) x (search rules) h)

  pub no_lead_above : 0xf5 ≤ x → after grammar x ≡ none
  unfolding UpTo grammar
  no_lead_above l = above_rows 0xf4 grammar x (search rules) l
