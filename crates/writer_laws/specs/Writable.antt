-- The trees that can be written. proofs/EveryTreeWritten.antt shows that each of them that is at most 8 deep, and for whose shortest form the
-- lent buffer has room, is written by a run of any writer that meets Demand2Holds: none of its calls is refused.
use Rattle.std.specs.Prelude.{ℕ, ◌^◌, ◌<◌, ◌≡◌, false, List}
use Rattle.std.specs.Int.Signed.{mag}
use Rattle.octets.specs.Utf8.{IsText}
use Rattle.table.specs.Schema.{Schema}
use Rattle.table.specs.declared.Meaning.{Meaning}
use Rattle.table.specs.declared.Meaning.TheVariants.{Uint, Int, String, Text, Message}
use Rattle.table.specs.declared.Table.{Table}
use Rattle.message.specs.Single.{repeats}
use Rattle.message.specs.Tree.{Tree, end, leaf, nested, Value, raw, uint, int, string, text}
use Rattle.writer_state.specs.Call.{Writer}
use Rattle.writer_state.specs.declared.State.{State}
use Rattle.writer_laws.specs.Given.{message, tags_of}
use Rattle.writer_laws.specs.Run.{Run}

-- A value of the kind that its tag has. A tag that the table does not have has none.
unfoldable pub OfKind : Meaning → Value → Type 0
OfKind k (raw xs) = ⊥
OfKind k (uint v) = (k ≡ Uint) × (v < 2 ^ 64)
OfKind k (int z) = (k ≡ Int) × (mag z < 2 ^ 63)
OfKind k (string xs) = k ≡ String
OfKind k (text xs) = (k ≡ Text) × IsText xs

-- Every field of a tree, at all depths, has a tag of the table and a value of its kind, and none of the fields after it in the same message
-- repeats it.
unfoldable pub Writable : Schema → ℕ → Tree → Type 0
Writable sc n end = Unit {0}
Writable sc n (leaf tag v rest) = OfKind (sc.means n tag) v × Writable sc n rest × (repeats sc n (tags_of rest) tag ≡ false)
Writable sc n (nested tag inside rest) =
    ((m : ℕ) × (sc.means n tag ≡ Message m) × Writable sc m inside) × Writable sc n rest × (repeats sc n (tags_of rest) tag ≡ false)

-- A run of a writer that gives just the fields of a tree, and that can be finished.
pub record Writes (w : Writer) (t : Table) (revision number : ℕ) (lent : List ℕ) (whole : Tree) : Type 0 where
  pub state : State
  pub after : List ℕ
  pub run : Run w t revision number lent state after (message whole)
  pub finish : (w.finish state).refusal ≡ 0
