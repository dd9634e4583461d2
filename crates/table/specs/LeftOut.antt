-- Tables with entries left out (document 02, item 14).
use Rattle.std.specs.Prelude.{ℕ, Bool, false, ◌&&◌, ◌||◌, List, [], ◌∷◌, eqb}
use Rattle.table.specs.Entry.{Entry}

-- The second list is the first with elements left out. Those that stay keep their order.
pub data LeftOut {A : Type 0} : List A → List A → Type 0 where
  none : LeftOut [] []
  stays : (x : A) (l rest : List A) → LeftOut l rest → LeftOut (x ∷ l) (x ∷ rest)
  goes : (x : A) (l rest : List A) → LeftOut l rest → LeftOut (x ∷ l) rest

-- Whether one of the entries is for a message number and a tag.
unfoldable pub has_entry : List Entry → ℕ → ℕ → Bool
has_entry [] number tag = false
has_entry (e ∷ es) number tag = eqb e.number number && eqb e.tag tag || has_entry es number tag
