-- The meaning of tags in the innermost open message.
use Prim.Native.Nat.{ℕ, ◌<◌}
use native.Mathlib.Omega.{arith}
use mathlib.Core.Path.{◌≡◌, refl, ◌∙◌}
use mathlib.Core.Bool.{Bool, true, false, false≢true}
use lib.ListN.{take}
use lib.Dec.{leb, eqb}
use borrow.Author.Tests.{leb-true, leb-false, eqb-true}
use Rattle.table.specs.Entry.{entries, kind_number}
use Rattle.table.specs.Schema.{schema_of, schema}
use Rattle.table.specs.declared.Table.{Table}
use Rattle.table.proofs.Schemas.{find_large}
use Rattle.writer_state.specs.Calls.{level, meant, of_octets}
use Rattle.writer_state.specs.declared.State.{State}

-- A tag that the table does not have, as one that is out of range, has no kind.
pub absent : (t : Table) (s : State) (tag : ℕ) → 65535 < tag → kind_number (meant t s tag) ≡ 0
unfolding meant kind_number schema schema_of entries
absent t s tag h = rw (find_large (take t.count t.words) (level s) tag (omega arith)) refl

-- A tag that has a kind is in range.
pub narrow : (t : Table) (s : State) (tag : ℕ) → (kind_number (meant t s tag) ≡ 0 → ⊥) → tag < 65536
narrow t s tag ne = go (leb tag 65535) refl
  where
    go : (b : Bool) → leb tag 65535 ≡ b → tag < 65536
    go true e = let h = leb-true tag 65535 e in omega arith
    go false e = absurd (ne (absent t s tag (leb-false tag 65535 e)))

pub narrow_kind : (t : Table) (s : State) (tag k : ℕ) → (k ≡ 0 → ⊥) → (m : ℕ) → m ≡ kind_number (meant t s tag) → eqb m k ≡ true → tag < 65536
narrow_kind t s tag k ne m e f = narrow t s tag (λ z. ne (omega (arith, eqb-true m k f)))

pub narrow_octets : (t : Table) (s : State) (tag m : ℕ) → m ≡ kind_number (meant t s tag) → of_octets m ≡ true → tag < 65536
unfolding of_octets
narrow_octets t s tag m e f = narrow t s tag (λ z. none (e ∙ z))
  where
    none : m ≡ 0 → ⊥
    none z = let g : ◌≡◌ {A = Bool} false true = rw z at f in absurd (false≢true g)
