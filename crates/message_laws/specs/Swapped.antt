-- Cuts in which two adjacent fields with different tags are swapped.
use Rattle.std.specs.Prelude.{ℕ, ◌≡◌, List, [], ◌∷◌}
use Rattle.message.specs.Cut.{Cut}

-- One field of a cut, without the fields that follow it.
pub data CutField : Type 0 where
  leaf : (tag : ℕ) (part contents : List ℕ) → CutField
  nested : (tag : ℕ) (part : List ℕ) (inside : Cut) → CutField

unfoldable pub tag_of : CutField → ℕ
tag_of (leaf tag part contents) = tag
tag_of (nested tag part inside) = tag

-- A cut with a field, or with several fields, in front of it.
unfoldable pub before : CutField → Cut → Cut
before (leaf tag part contents) rest = Cut.leaf tag part contents rest
before (nested tag part inside) rest = Cut.nested tag part inside rest

unfoldable pub prepend : List CutField → Cut → Cut
prepend [] rest = rest
prepend (f ∷ front) rest = before f (prepend front rest)

-- Two adjacent fields are swapped, in the message itself and not in one that it contains. Their tags differ.
pub data Swapped : Cut → Cut → Type 0 where
  swapped : (front : List CutField) (a b : CutField) (rest : Cut) → (tag_of a ≡ tag_of b → ⊥)
      → Swapped (prepend front (before a (before b rest))) (prepend front (before b (before a rest)))

-- Two adjacent fields are swapped in one message: in the outermost one, or in a message inside it. The fields of that message are `x` before the
-- swap and `y` after it. All other fields stay as they are.
pub data SwappedIn : Cut → Cut → Cut → Cut → Type 0 where
  outermost : (x y : Cut) → Swapped x y → SwappedIn x y x y
  within : (front : List CutField) (tag : ℕ) (part : List ℕ) (cut other rest x y : Cut) → SwappedIn cut other x y
      → SwappedIn (prepend front (Cut.nested tag part cut rest)) (prepend front (Cut.nested tag part other rest)) x y
