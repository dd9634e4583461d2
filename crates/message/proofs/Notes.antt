-- Laws of masks that note single tags: how a mask agrees with the tags of the fields before. The check and the writer use them.
use Prim.Native.Nat.{ℕ}
use mathlib.Core.Path.{◌≡◌, refl, sym, ap, ◌∙◌}
use mathlib.Core.Bool.{Bool, true, false, cond, ◌&&◌, ◌||◌, or_comm, false≢true}
use mathlib.Core.List.{List, [], ◌∷◌}
use lib.Dec.{eqb}
use borrow.Author.Tests.{eqb-true, eqb-false, eq-eqb, ne_eqb}
use Rattle.table.specs.Mask.{has_bit, with_bit}
use Rattle.table.proofs.Masks.{has_none, has_with}
use Rattle.message.specs.Single.{among}
use Rattle.message.specs.internal.Notes.{Notes}

module _ (single : ℕ → Bool) (order : ℕ → ℕ) where
  -- Before the first field nothing is noted.
  pub notes_none : Notes single order [] 0
  unfolding Notes among
  notes_none = λ tag e. has_none (order tag)

  module _ (tags : List ℕ) (mask : ℕ) (notes : Notes single order tags mask) (tag : ℕ) where
    -- A single tag is noted exactly if it is one of them.
    pub noted_among : single tag && has_bit mask (order tag) ≡ single tag && among tag tags
    unfolding Notes
    noted_among = go (single tag) refl
      where
        go : (b : Bool) → single tag ≡ b → b && has_bit mask (order tag) ≡ b && among tag tags
        go true e = notes tag e
        go false e = refl

    -- One tag more, if no other single tag has its order.
    pub notes_more : ((other : ℕ) → single other ≡ true → single tag ≡ true → order other ≡ order tag → other ≡ tag)
        → Notes single order (tag ∷ tags) (cond (single tag) (with_bit mask (order tag)) mask)
    unfolding Notes among
    notes_more apart = λ other e. go other e (single tag) refl
      where
        same_bit : (other : ℕ) → single other ≡ true → single tag ≡ true → (b : Bool) → eqb tag other ≡ b → eqb (order other) (order tag) ≡ b
        same_bit other e f true q = eq-eqb (order other) (order tag) (ap order (sym (eqb-true tag other q)))
        same_bit other e f false q = ne_eqb (order other) (order tag) (λ z. eqb-false tag other q (sym (apart other e f z)))

        go : (other : ℕ) → single other ≡ true → (b : Bool) → single tag ≡ b
            → has_bit (cond b (with_bit mask (order tag)) mask) (order other) ≡ eqb tag other || among other tags
        go other e true f =
            has_with mask (order tag) (order other)
            ∙ rw (same_bit other e f (eqb tag other) refl, notes other e) (or_comm (among other tags) (eqb tag other))
        go other e false f = rw (ne_eqb tag other (λ q. false≢true (sym f ∙ ap single q ∙ e))) (notes other e)
