-- The answer of a lookup: the k-th, or the last, of the outermost fields of an accepted message that have a tag.
use Rattle.std.specs.Prelude.{ℕ, ◌+◌, cond, List, [], ◌∷◌, pos, eqb}
use Rattle.std.proofs.Math.Option.{Option, none, some}
use Rattle.std.proofs.Math.ListN as lists
use Rattle.table.specs.Entry.{inner_of}
use Rattle.table.specs.Schema.{Schema, schema}
use Rattle.table.specs.declared.Table.{Table}
use Rattle.message.specs.Cut.{Cut, joined}
use Rattle.message.specs.Tree.{Tree, value, tree}
use Rattle.message.specs.Items.{Item, items, with_tag, item_kind, uint_of, int_of}
use Rattle.reading.specs.Refusals as refusals
use Rattle.reading.specs.Reading.{Reading, accepted, refused}
use Rattle.message.specs.Reading.{reading}
use Rattle.message_calls.specs.Check.{check}
use Rattle.message_calls.specs.declared.outermost.Occurrence.{Occurrence}
use Rattle.message_calls.specs.declared.outermost.Occurrence.TheVariants.{Nth, Last}
use Rattle.message_calls.specs.declared.Found.{Found}

-- An outermost field and the span of its contents in the message: their start and their length.
pub record ItemSpan : Type 0 where
  pub item : Item
  pub start : ℕ
  pub length : ℕ

-- The outermost fields of a cut, in order, each as the tree has it. The control part of the first one starts at the place `at`.
unfoldable pub outermost : Schema → ℕ → ℕ → Cut → List ItemSpan
outermost sc n at Cut.end = []
outermost sc n at (Cut.leaf tag part s rest) =
    let k = lists.length part in
    let l = lists.length s in
    record { item = Item.leaf tag (value (sc.means n tag) s); start = at + k; length = l } ∷ outermost sc n (at + k + l) rest
outermost sc n at (Cut.nested tag part inside rest) =
    let k = lists.length part in
    let l = lists.length (joined inside) in
    record { item = Item.nested tag (tree sc (inner_of (sc.means n tag)) inside); start = at + k; length = l } ∷ outermost sc n (at + k + l) rest

-- The last element, or `o` where there is none.
unfoldable pub last_or : {A : Type 0} → Option A → List A → Option A
last_or o [] = o
last_or o (x ∷ l) = last_or (some x) l

unfoldable pub chosen : {A : Type 0} → Occurrence → List A → Option A
chosen (Nth k) l = lists.get_elem? l k
chosen Last l = last_or none l

unfoldable pub refusal : ℕ → ℕ → Found
refusal reason place =
    record { refusal = reason; place = place; kind = 0; value = 0; signed = pos 0; start = 0; length = 0 }

-- The answer for a field that was found; without one the field is absent.
unfoldable pub found : Option ItemSpan → Found
found none = refusal refusals.absent 0
found (some o) =
    record {
      refusal = 0;
      place = 0;
      kind = item_kind o.item;
      value = uint_of o.item;
      signed = int_of o.item;
      start = o.start;
      length = o.length;
    }

-- The answer by the reading of the message.
unfoldable pub found_in : Schema → ℕ → ℕ → Occurrence → Reading Cut → Found
found_in sc n t which (accepted cut) = found (chosen which (with_tag (λ (o : ItemSpan). o.item) t (outermost sc n 0 cut)))
found_in sc n t which (refused reason place) = refusal reason place

-- The answer under a table and a revision: the check's refusal, or the field that is found.
unfoldable pub answer : Table → ℕ → ℕ → List ℕ → ℕ → Occurrence → Found
answer t revision n s tag which =
    let c = check t revision n s in
    cond (eqb c.refusal 0) (found_in (schema revision t) n tag which (reading (schema revision t) n s)) (refusal c.refusal c.place)

-- The k-th of the outermost fields with a tag.
unfoldable pub lookup : Table → ℕ → ℕ → List ℕ → ℕ → ℕ → Found
lookup t revision n s tag k = answer t revision n s tag (Nth k)

-- The last of them.
unfoldable pub lookup_last : Table → ℕ → ℕ → List ℕ → ℕ → Found
lookup_last t revision n s tag = answer t revision n s tag Last

-- The k-th, or the last, of a tree's outermost fields with a tag. proofs/LookupInTree.antt shows that the
-- lookup returns this field, and that it refuses as absent exactly where there is none.
unfoldable pub occurrence : Tree → ℕ → Occurrence → Option Item
occurrence whole t which = chosen which (with_tag (λ (i : Item). i) t (items whole))
