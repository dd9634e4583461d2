-- The step at an offset of a message, with offsets in the message in place of lengths, whether the field there is in its shortest form, and the
-- single tags noted after it. `step` returns it.
use Rattle.std.specs.Prelude.{ℕ, zero, suc, ◌+◌, ◌-◌, ◌/◌, ◌%◌, ◌≡◌, Bool, true, false, cond, ◌&&◌, List, [], ◌∷◌, Option, None, Some, length, get_or, take, drop, eqb, leb, ltb}
use Rattle.std.specs.Int.Bits.{bit_and}
use Rattle.octets.specs.Text.{text}
use Rattle.octets.specs.Short.{short_part, short_uint, short_int}
use Rattle.octets.specs.Control.{control}
use Rattle.octets.specs.declared.Control.{Control}
use Rattle.octets.specs.declared.Control.TheVariants.{Absent, Partial, Whole}
use Rattle.reading.specs.Refusals as refusals
use Rattle.table.specs.Schema.{Schema}
use Rattle.table.specs.declared.Meaning.{Meaning}
use Rattle.table_index.specs.internal.Cells.{cell_for, meaning_of, single_in, order_in, indexed, noted_in, note_in}
use Rattle.message.specs.Reading.{step, step_by_kind, too_deep, tag_at}
use Rattle.message.specs.internal.Notes as masks
use Rattle.message.specs.internal.Short.{short_contents}
use Rattle.message.specs.Reading.{Step}
use Rattle.message.specs.Reading as steps
use Rattle.reading.specs.Refusals.{number}
use Rattle.message_field.specs.declared.Next as code
use Rattle.message_field.specs.declared.Next.TheVariants as found

-- What `step` finds, with a refusal by its number.
pub data Next : Type 0 where
  Done : Next
  Fault : ℕ → Next
  Over : ℕ → Bool → ℕ → Next
  Into : ℕ → ℕ → ℕ → Bool → ℕ → Next

abbrev pub in_numbers : code.Next → Next
in_numbers found.Done = Done
in_numbers (found.Fault r) = Fault (number r)
in_numbers (found.Over e short mask) = Over e short mask
in_numbers (found.Into m a e short mask) = Into m a e short mask

unfoldable pub next_at : ℕ → Bool → ℕ → Step → Next
next_at i short mask steps.Done = Done
next_at i short mask (steps.Fault reason) = Fault reason
next_at i short mask (steps.Over k l) = Over (i + k + l) short mask
next_at i short mask (steps.Into m k l) = Into m (i + k) (i + k + l) short mask

-- The step by the kind of a field whose contents start at a: one that is too deep is refused. `levels` is how many messages may be nested.
unfoldable pub next_by_kind : ℕ → Meaning → ℕ → Bool → ℕ → List ℕ → Next
next_by_kind levels kind a short mask contents = cond (too_deep levels kind) (Fault refusals.too_deep) (next_at a short mask (step_by_kind kind 0 contents))

-- Whether octets are the shortest form of a number, which is a uint for the code 1 and an int for any other.
unfoldable pub short_number : ℕ → List ℕ → Bool
short_number code s = cond (eqb code 1) (short_uint s) (short_int s)

-- Whether the control part and the number at the front of octets are in their shortest form. A nested message is not looked at.
unfoldable pub short_from : Schema → ℕ → List ℕ → Control → Bool
short_from sc n s Absent = false
short_from sc n s Partial = false
short_from sc n s (Whole tag len size) = short_part s (Whole tag len size) && short_contents (sc.means n tag) (take len (drop size s))

unfoldable pub short_field : Schema → ℕ → List ℕ → Bool
short_field sc n s = short_from sc n s (control s)

-- The step at the offset i of a message s of a number, under an index, after fields with the tags `before`, whose single ones are noted in a
-- mask.
unfoldable pub next_of : List ℕ → ℕ → ℕ → List ℕ → ℕ → List ℕ → ℕ → Next
next_of cells levels n before mask s i =
    let r = drop i s in
    next_at i (short_field (indexed cells) n r) (note_in mask (cell_for cells n (tag_at r))) (step (indexed cells) levels n before r)

-- A mask notes the tags of some fields that are single under an index.
unfoldable pub Notes : List ℕ → ℕ → List ℕ → ℕ → Type 0
Notes cells n tags mask = masks.Notes (λ tag. single_in (cell_for cells n tag)) (λ tag. order_in (cell_for cells n tag)) tags mask

-- The tags below k that pass a test.
unfoldable pub passing : (ℕ → Bool) → ℕ → List ℕ
passing test zero = []
passing test (suc k) = cond (test k) (k ∷ passing test k) (passing test k)

-- The tags that a mask notes, under an index. No tag over 65,535 is single.
unfoldable pub noted_tags : List ℕ → ℕ → ℕ → List ℕ
noted_tags cells n mask = passing (λ tag. noted_in mask (cell_for cells n tag)) 65536

-- The mask after a field, by its cell; none if the field repeats a single one.
unfoldable pub noted_of : ℕ → ℕ → Option ℕ
noted_of mask c = cond (noted_in mask c) None (Some (note_in mask c))

-- The contents from a to e, of the kind with a code, are allowed, in their shortest form, and no message.
unfoldable pub Passes : ℕ → ℕ → ℕ → List ℕ → Type 0
Passes code a e s =
    let b = take (e - a) (drop a s) in
    (mask : ℕ) → Over e true mask ≡ next_at a (short_contents (meaning_of code) b) mask (step_by_kind (meaning_of code) 0 b)

-- The contents of the field at an offset, whose control part is one octet, are no text where its kind is text. They are the octets from i + 1 up
-- to the end of the field.
unfoldable pub NoText : ℕ → List ℕ → ℕ → Type 0
NoText code s i = code ≡ 4 → text (take (i + 1 + bit_and (get_or s i 0) 15 - (i + 1)) (drop (i + 1) s)) ≡ false

-- Whether the octet at an offset is a whole control part whose contents end within the message.
unfoldable pub small_at : List ℕ → ℕ → Bool
small_at s i =
    let c = get_or s i 0 in
    ltb i (length s) && ltb c 224 && ltb (c % 16) 12 && leb (i + 1 + c % 16) (length s)

-- The contents of such a field, and the cell of its tag; none where there is no such field.
abbrev pub small_contents : List ℕ → ℕ → List ℕ
small_contents s i = take (i + 1 + bit_and (get_or s i 0) 15 - (i + 1)) (drop (i + 1) s)

unfoldable pub small_cell : List ℕ → ℕ → List ℕ → ℕ → Option ℕ
small_cell cells number s i = cond (small_at s i) (Some (cell_for cells number (get_or s i 0 / 16))) None
