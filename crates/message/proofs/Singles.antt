-- Single fields: the reading compares a field with those before it, a good cut with those after it, and both come to the same.
use Prim.Native.Nat.{ℕ}
use mathlib.Core.Path.{◌≡◌, refl, sym, ap, ◌∙◌}
use mathlib.Core.Bool.{Bool, true, false, ◌&&◌, ◌||◌, and-false, and-or_distrib_left}
use mathlib.Core.List.{List, [], ◌∷◌, map}
use lib.Dec.{eqb}
use borrow.Author.Tests.{eqb-true}
use Rattle.octets.proofs.Bools.{or_left, or_right, or_neither, eqb_swap}
use Rattle.table.specs.Entry.{Entry}
use Rattle.table.specs.Schema.{Schema, schema_of}
use Rattle.message.specs.Cut.{Cut, end, leaf, nested, tags, Allowed, Good}
use Rattle.message.specs.Tree.{tree}
use Rattle.message.specs.Items.{items, item_tag}
use Rattle.message.specs.Single.{among, repeats}

-- None of the fields with some tags repeats one before them. They may repeat one another.
unfoldable pub Clear : Schema → ℕ → List ℕ → List ℕ → Type 0
Clear sc n before [] = Unit {0}
Clear sc n before (t ∷ ts) = (repeats sc n before t ≡ false) × Clear sc n before ts

module _ (sc : Schema) (n : ℕ) where
  -- A field repeats no field where there is none.
  pub repeats_none : (t : ℕ) → repeats sc n [] t ≡ false
  unfolding repeats among
  repeats_none t = and-false (sc.single n t)

  -- A field repeats one of several where it repeats the first, or one of the others.
  pub repeats_more : (x : ℕ) (ts : List ℕ) (t : ℕ) → repeats sc n (x ∷ ts) t ≡ sc.single n t && eqb x t || repeats sc n ts t
  unfolding repeats among
  repeats_more x ts t = and-or_distrib_left (sc.single n t) (eqb x t) (among t ts)

  -- Of two fields the one repeats the other exactly where the other repeats it.
  pub either_way : (t x : ℕ) → sc.single n t && eqb x t ≡ sc.single n x && eqb t x
  either_way t x = go (eqb x t) refl
    where
      go : (b : Bool) → eqb x t ≡ b → sc.single n t && eqb x t ≡ sc.single n x && eqb t x
      go true e = rw (eqb-true x t e)
      go false e = rw (eqb_swap t x, e) (and-false (sc.single n t) ∙ sym (and-false (sc.single n x)))

  -- Where no field stands before, nothing is repeated.
  pub clear_none : (ts : List ℕ) → Clear sc n [] ts
  unfolding Clear
  clear_none [] = tt
  clear_none (t ∷ ts) = (repeats_none t, clear_none ts)

  -- One more field before, which none of the fields after it repeats.
  pub clear_more : (before ts : List ℕ) (t : ℕ) → Clear sc n before ts → repeats sc n ts t ≡ false → Clear sc n (t ∷ before) ts
  unfolding Clear
  clear_more before [] t c h = tt
  clear_more before (x ∷ ts) t c h =
      let k = sym (repeats_more x ts t) ∙ h in
      let first = either_way x t ∙ or_left (sc.single n t && eqb x t) (repeats sc n ts t) k in (
        repeats_more t before x ∙ or_neither (sc.single n x && eqb t x) (repeats sc n before x) first c.0,
        clear_more before ts t c.1 (or_right (sc.single n t && eqb x t) (repeats sc n ts t) k),
      )

  -- One field less before: none of the fields repeats it.
  pub clear_less : (before ts : List ℕ) (t : ℕ) → Clear sc n (t ∷ before) ts → Clear sc n before ts × (repeats sc n ts t ≡ false)
  unfolding Clear
  clear_less before [] t c = (tt, repeats_none t)
  clear_less before (x ∷ ts) t c =
      let r = clear_less before ts t c.1 in
      let k = sym (repeats_more t before x) ∙ c.0 in
      let first = either_way t x ∙ or_left (sc.single n x && eqb t x) (repeats sc n before x) k in (
        (or_right (sc.single n x && eqb t x) (repeats sc n before x) k, r.0),
        repeats_more x ts t ∙ or_neither (sc.single n t && eqb x t) (repeats sc n ts t) first r.1,
      )

-- ---- the tags of a cut

-- The tags of a cut are those of the fields of its tree.
pub tags_of_tree : (sc : Schema) (n : ℕ) (cut : Cut) → tags cut ≡ map item_tag (items (tree sc n cut))
unfolding tags tree items item_tag
tags_of_tree sc n end = refl
tags_of_tree sc n (leaf tag part contents rest) = ap (λ (ts : List ℕ). tag ∷ ts) (tags_of_tree sc n rest)
tags_of_tree sc n (nested tag part inside rest) = ap (λ (ts : List ℕ). tag ∷ ts) (tags_of_tree sc n rest)

-- ---- where fewer tags are single

-- A field that repeats none also repeats none if fewer tags are single.
pub once_fewer : (sc fewer : Schema) → ((n tag : ℕ) → sc.single n tag ≡ false → fewer.single n tag ≡ false)
    → (n : ℕ) (others : List ℕ) (tag : ℕ) → repeats sc n others tag ≡ false → repeats fewer n others tag ≡ false
unfolding repeats
once_fewer sc fewer less n others tag h = go (sc.single n tag) refl h
  where
    go : (t : Bool) → sc.single n tag ≡ t → t && among tag others ≡ false → fewer.single n tag && among tag others ≡ false
    go true e k = rw k (and-false (fewer.single n tag))
    go false e k = rw (less n tag e) refl

-- With the same kinds and no more single tags, the cuts that were good still are.
module _ (sc fewer : Schema) (same : (n tag : ℕ) → fewer.means n tag ≡ sc.means n tag)
    (less : (n tag : ℕ) → sc.single n tag ≡ false → fewer.single n tag ≡ false) where
  -- What is allowed stays allowed,
  allowed_fewer : (cut : Cut) (n : ℕ) → Allowed sc n cut → Allowed fewer n cut
  unfolding Allowed
  allowed_fewer end n a = tt
  allowed_fewer (leaf tag part contents rest) n a = (
    record { whole = a.0.whole; allowed = rw (same n tag) a.0.allowed },
    allowed_fewer rest n a.1,
    once_fewer sc fewer less n (tags rest) tag a.2,
  )
  allowed_fewer (nested tag part inside rest) n a = (
    (a.0.0, record { whole = a.0.1.whole; allowed = same n tag ∙ a.0.1.allowed }, allowed_fewer inside a.0.0 a.0.2),
    allowed_fewer rest n a.1,
    once_fewer sc fewer less n (tags rest) tag a.2,
  )

  -- and a good cut good.
  pub good_fewer : (levels n : ℕ) (s : List ℕ) (cut : Cut) → Good sc levels n s cut → Good fewer levels n s cut
  good_fewer levels n s cut g = record { divides = g.divides; allowed = allowed_fewer cut n g.allowed; shallow = g.shallow }

-- So a message that has a cut under revision 2 has the same one under revision 1.
pub good_before : (es : List Entry) (levels n : ℕ) (s : List ℕ) (cut : Cut) → Good (schema_of 2 es) levels n s cut → Good (schema_of 1 es) levels n s cut
unfolding schema_of
good_before es = good_fewer (schema_of 2 es) (schema_of 1 es) (λ n tag. refl) (λ n tag e. refl)
