-- What a message is, without saying how it is read: fields, joined, as described below.
use Rattle.std.specs.Prelude.{ℕ, suc, ◌≤◌, max, ◌≡◌, false, List, [], ◌∷◌, ◌++◌, length}
use Rattle.octets.specs.ControlPart.{ControlPart}
use Rattle.octets.specs.Utf8.{IsText}
use Rattle.table.specs.Schema.{Schema}
use Rattle.table.specs.declared.Meaning.{Meaning}
use Rattle.table.specs.declared.Meaning.TheVariants.{Raw, Uint, Int, String, Text, Message}
use Rattle.message.specs.Single.{repeats}

-- A list of fields from the left, each with its tag and its control part. A field of kind message has a list of the fields in its contents,
-- any other its contents. Which of these lists are cuts of a message is said by `Good` below.
pub data Cut : Type 0 where
  end : Cut
  leaf : (tag : ℕ) (part contents : List ℕ) (rest : Cut) → Cut
  nested : (tag : ℕ) (part : List ℕ) (inside rest : Cut) → Cut

-- The octets of the fields, joined.
unfoldable pub joined : Cut → List ℕ
joined end = []
joined (leaf tag part contents rest) = part ++ contents ++ joined rest
joined (nested tag part inside rest) = part ++ joined inside ++ joined rest

-- The depth of the deepest message; a message with no nested ones has depth 1.
unfoldable pub depth : Cut → ℕ
depth end = 1
depth (leaf tag part contents rest) = depth rest
depth (nested tag part inside rest) = max (suc (depth inside)) (depth rest)

-- Document 01's whole field: a control part in any form, and then just as many octets as its length says.
abbrev pub WholeField : ℕ → List ℕ → List ℕ → Type 0
WholeField tag part contents = ControlPart tag (length contents) part

-- The contents that a field of each kind may have, other than a message's.
unfoldable pub Contents : Meaning → List ℕ → Type 0
Contents Raw s = Unit {0}
Contents Uint s = length s ≤ 8
Contents Int s = length s ≤ 8
Contents String s = Unit {0}
Contents Text s = IsText s
Contents (Message m) s = ⊥

-- A field that the schema allows (document 01's term) in messages of a number, and that is no message.
pub record LeafField (sc : Schema) (number tag : ℕ) (part contents : List ℕ) : Type 0 where
  pub whole : WholeField tag part contents
  pub allowed : Contents (sc.means number tag) contents

-- A field that the schema makes a message of the number `inner`.
pub record NestedField (sc : Schema) (number inner tag : ℕ) (part contents : List ℕ) : Type 0 where
  pub whole : WholeField tag part contents
  pub allowed : sc.means number tag ≡ Message inner

-- The tags of the fields, without those of nested messages.
unfoldable pub tags : Cut → List ℕ
tags end = []
tags (leaf tag part contents rest) = tag ∷ tags rest
tags (nested tag part inside rest) = tag ∷ tags rest

-- Every field of a list, at all depths, is whole and allowed, and none of the fields after it in the same message repeats it.
unfoldable pub Allowed : Schema → ℕ → Cut → Type 0
Allowed sc n end = Unit {0}
Allowed sc n (leaf tag part contents rest) = LeafField sc n tag part contents × Allowed sc n rest × (repeats sc n (tags rest) tag ≡ false)
Allowed sc n (nested tag part inside rest) =
    ((m : ℕ) × NestedField sc n m tag part (joined inside) × Allowed sc m inside) × Allowed sc n rest × (repeats sc n (tags rest) tag ≡ false)

-- Document 01's cut of octets, under a schema and a message number: allowed whole fields that joined are the octets, at most `levels`
-- messages deep.
pub record Good (sc : Schema) (levels number : ℕ) (octets : List ℕ) (cut : Cut) : Type 0 where
  pub divides : joined cut ≡ octets
  pub allowed : Allowed sc number cut
  pub shallow : depth cut ≤ levels
