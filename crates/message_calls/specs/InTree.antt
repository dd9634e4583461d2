-- The answer of a lookup, stated of the tree of a message.
use Rattle.std.specs.Prelude.{ℕ, ◌+◌, ◌≤◌, ◌-◌, ◌≡◌, List, length, take, drop}
use Rattle.std.proofs.Math.Option.{Option, none, some}
use Rattle.reading.specs.Refusals as refusals
use Rattle.reading.specs.Reading.{depth_limit}
use Rattle.table.specs.Schema.{Schema}
use Rattle.message_calls.specs.Lookup.{refusal}
use Rattle.message_calls.specs.declared.Found.{Found}
use Rattle.table.specs.declared.Meaning.TheVariants.{Message}
use Rattle.message.specs.Cut.{Cut, Contents, Good}
use Rattle.message.specs.Tree.{value, tree}
use Rattle.message.specs.Items.{Item, item_tag, item_kind, uint_of, int_of}

-- The octets are the contents of a field of the tree. A field that is no message has the value that they have by the kind of
-- its tag. A nested message has them as its octets: they are joined from a good cut under the inner number, and its tree is the field's.
unfoldable pub Shows : Schema → ℕ → ℕ → List ℕ → Item → Type 0
Shows sc levels n b (Item.leaf t v) = (v ≡ value (sc.means n t) b) × Contents (sc.means n t) b
Shows sc levels n b (Item.nested t inside) =
    (m : ℕ) × (inner : Cut) × (sc.means n t ≡ Message m) × Good sc levels m b inner × (inside ≡ tree sc m inner)

-- An answer that gives a field of the tree: its kind and its value. The octets at the answer's place are the field's contents; of a
-- nested message they are the joined octets of its cut.
pub record Gives (sc : Schema) (n : ℕ) (s : List ℕ) (tag : ℕ) (i : Item) (r : Found) : Type 0 where
  pub accepted : r.refusal ≡ 0
  pub nowhere : r.place ≡ 0
  pub tagged : item_tag i ≡ tag
  pub kind : r.kind ≡ item_kind i
  pub value : r.value ≡ uint_of i
  pub signed : r.signed ≡ int_of i
  pub inside : r.start + r.length ≤ length s
  pub contents : Shows sc (depth_limit - 1) n (take r.length (drop r.start s)) i

-- The answer by the field that the tree has, if any; without one the field is absent.
unfoldable pub Answers : Schema → ℕ → List ℕ → ℕ → Option Item → Found → Type 0
Answers sc n s tag none r = r ≡ refusal refusals.absent 0
Answers sc n s tag (some i) r = Gives sc n s tag i r
