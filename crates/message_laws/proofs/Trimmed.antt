-- The cut of a message under fewer entries: a message field whose entry is left out is no longer divided.
use Prim.Native.Nat.{ℕ, suc, ◌≤◌, max}
use native.Mathlib.Omega.{arith}
use mathlib.Core.Path.{◌≡◌, refl, sym, ap, ap₂, ◌∙◌, subst}
use mathlib.Core.Bool.{Bool, true, false}
use mathlib.Core.List.{List, ◌∷◌, ◌++◌}
use Rattle.table.specs.Entry.{inner_of}
use Rattle.table.specs.Schema.{Schema}
use Rattle.table.specs.declared.Meaning.TheVariants.{Raw}
use Rattle.message.specs.Cut.{Cut, end, leaf, nested, joined, depth, WholeField, Contents, LeafField, tags, Allowed, Good}
use Rattle.message.specs.Single.{repeats}
use Rattle.message.proofs.Singles.{once_fewer}

-- A schema with fewer entries: a tag that is still known means the same, and any other tag is raw and may be repeated.
pub record Fewer (sc fewer : Schema) (known : ℕ → ℕ → Bool) : Type 0 where
  pub same : (n t : ℕ) → known n t ≡ true → (fewer.means n t ≡ sc.means n t) × (fewer.single n t ≡ sc.single n t)
  pub gone : (n t : ℕ) → known n t ≡ false → (fewer.means n t ≡ Raw) × (fewer.single n t ≡ false)

-- A message field whose message is `inside`: divided as `x` if it is known, and not divided if not. The fields `rest` follow it.
unfoldable pub divided : Bool → ℕ → List ℕ → Cut → Cut → Cut → Cut
divided true tag part inside x rest = nested tag part x rest
divided false tag part inside x rest = leaf tag part (joined inside) rest

-- A cut in which only message fields that are known are divided.
unfoldable pub trimmed : Schema → (ℕ → ℕ → Bool) → ℕ → Cut → Cut
trimmed sc known n end = end
trimmed sc known n (leaf tag part contents rest) = leaf tag part contents (trimmed sc known n rest)
trimmed sc known n (nested tag part inside rest) =
    divided (known n tag) tag part inside (trimmed sc known (inner_of (sc.means n tag)) inside) (trimmed sc known n rest)

-- Known or not, such a field has the same octets and the same tag, and is no deeper.
module _ (tag : ℕ) (part : List ℕ) (inside x rest y : Cut) where
  divided_joined : (b : Bool) → joined x ≡ joined inside → joined y ≡ joined rest → joined (divided b tag part inside x y) ≡ part ++ joined inside ++ joined rest
  unfolding divided joined
  divided_joined true i r = ap₂ (λ (a c : List ℕ). part ++ a ++ c) i r
  divided_joined false i r = ap (λ (c : List ℕ). part ++ joined inside ++ c) r

  divided_tags : (b : Bool) → tags y ≡ tags rest → tags (divided b tag part inside x y) ≡ tag ∷ tags rest
  unfolding divided tags
  divided_tags true r = ap (λ (ts : List ℕ). tag ∷ ts) r
  divided_tags false r = ap (λ (ts : List ℕ). tag ∷ ts) r

  divided_depth : (b : Bool) → depth x ≤ depth inside → depth y ≤ depth rest → depth (divided b tag part inside x y) ≤ max (suc (depth inside)) (depth rest)
  unfolding divided depth
  divided_depth true i r = omega arith
  divided_depth false i r = omega arith

-- So has the whole cut.
module _ (sc : Schema) (known : ℕ → ℕ → Bool) where
  pub trimmed_joined : (n : ℕ) (cut : Cut) → joined (trimmed sc known n cut) ≡ joined cut
  unfolding trimmed joined
  trimmed_joined n end = refl
  trimmed_joined n (leaf tag part contents rest) = ap (λ (r : List ℕ). part ++ contents ++ r) (trimmed_joined n rest)
  trimmed_joined n (nested tag part inside rest) =
      divided_joined tag part inside _ rest _ (known n tag) (trimmed_joined (inner_of (sc.means n tag)) inside) (trimmed_joined n rest)

  trimmed_tags : (n : ℕ) (cut : Cut) → tags (trimmed sc known n cut) ≡ tags cut
  unfolding trimmed tags
  trimmed_tags n end = refl
  trimmed_tags n (leaf tag part contents rest) = ap (λ (ts : List ℕ). tag ∷ ts) (trimmed_tags n rest)
  trimmed_tags n (nested tag part inside rest) =
      divided_tags tag part inside (trimmed sc known (inner_of (sc.means n tag)) inside) rest (trimmed sc known n rest) (known n tag) (trimmed_tags n rest)

  trimmed_depth : (n : ℕ) (cut : Cut) → depth (trimmed sc known n cut) ≤ depth cut
  unfolding trimmed depth
  trimmed_depth n end = omega arith
  trimmed_depth n (leaf tag part contents rest) = trimmed_depth n rest
  trimmed_depth n (nested tag part inside rest) =
      divided_depth tag part inside _ rest _ (known n tag) (trimmed_depth (inner_of (sc.means n tag)) inside) (trimmed_depth n rest)

module _ (sc fewer : Schema) (known : ℕ → ℕ → Bool) (less : Fewer sc fewer known) where
  -- No more tags are single.
  less_single : (n t : ℕ) → sc.single n t ≡ false → fewer.single n t ≡ false
  less_single n t h = go (known n t) refl
    where
      go : (b : Bool) → known n t ≡ b → fewer.single n t ≡ false
      go true e = (less.same n t e).1 ∙ h
      go false e = (less.gone n t e).1

  -- A field that repeats none still repeats none.
  once : (n tag : ℕ) (rest : Cut) → repeats sc n (tags rest) tag ≡ false → repeats fewer n (tags (trimmed sc known n rest)) tag ≡ false
  once n tag rest h = rw (trimmed_tags sc known n rest) (once_fewer sc fewer less_single n (tags rest) tag h)

  -- A whole field that is no message is still allowed: its contents were, or it is raw.
  still_leaf : (n tag : ℕ) (part contents : List ℕ) → LeafField sc n tag part contents → LeafField fewer n tag part contents
  unfolding Contents
  still_leaf n tag part contents f = go (known n tag) refl
    where
      go : (b : Bool) → known n tag ≡ b → LeafField fewer n tag part contents
      go true e = record { whole = f.whole; allowed = rw (less.same n tag e).0 f.allowed }
      go false e = record { whole = f.whole; allowed = rw (less.gone n tag e).0 tt }

  still_allowed : (cut : Cut) (n : ℕ) → Allowed sc n cut → Allowed fewer n (trimmed sc known n cut)
  unfolding trimmed divided Allowed Contents inner_of
  still_allowed end n a = tt
  still_allowed (leaf tag part contents rest) n a = (
    still_leaf n tag part contents a.0,
    still_allowed rest n a.1,
    once n tag rest a.2,
  )
  still_allowed (nested tag part inside rest) n a =
      rw (inner_number) (go (known n tag) refl (still_allowed inside a.0.0 a.0.2) (still_allowed rest n a.1))
    where
      inner_number : inner_of (sc.means n tag) ≡ a.0.0
      inner_number = rw a.0.1.allowed refl

      go : (b : Bool) → known n tag ≡ b → Allowed fewer a.0.0 (trimmed sc known a.0.0 inside) → Allowed fewer n (trimmed sc known n rest)
          → Allowed fewer n (divided b tag part inside (trimmed sc known a.0.0 inside) (trimmed sc known n rest))
      go true e i r = (
        (
          a.0.0,
          record {
            whole = subst (WholeField tag part) (sym (trimmed_joined sc known a.0.0 inside)) a.0.1.whole;
            allowed = (less.same n tag e).0 ∙ a.0.1.allowed;
          },
          i,
        ),
        r,
        once n tag rest a.2,
      )
      go false e i r = (record { whole = a.0.1.whole; allowed = rw (less.gone n tag e).0 tt }, r, once n tag rest a.2)

  -- The trimmed cut is good under fewer entries.
  pub trimmed_good : (levels n : ℕ) (s : List ℕ) (cut : Cut) → Good sc levels n s cut → Good fewer levels n s (trimmed sc known n cut)
  trimmed_good levels n s cut g =
      let d = trimmed_depth sc known n cut in
      let h = g.shallow in
      record { divides = trimmed_joined sc known n cut ∙ g.divides; allowed = still_allowed cut n g.allowed; shallow = omega arith }
