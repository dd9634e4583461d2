-- The answer of each call of the writer, and the buffer after it.
use Rattle.std.specs.Prelude.{ℕ, ◌+◌, ◌-◌, Bool, true, cond, not, ◌&&◌, ◌||◌, List, length, get_or, set, replicate, eqb, leb}
use Rattle.reading.specs.Reading.{message_limit, last_number}
use Rattle.reading.specs.Refusals as refusals
use Rattle.octets.specs.Text.{text}
use Rattle.octets.specs.Control.{least_control}
use Rattle.table.specs.Entry.{entries, kind_number, inner_of}
use Rattle.table.specs.Mask.{order, has_bit, with_bit}
use Rattle.table.specs.Schema.{is_revision, schema}
use Rattle.table.specs.Valid.{valid}
use Rattle.table.specs.declared.Meaning.{Meaning}
use Rattle.table.specs.declared.Table.{Table}
use Rattle.message.specs.Shortest.{field}
use Rattle.octets_store.specs.Store.{stored}
use Rattle.writer_state.specs.Sound.{sound}
use Rattle.writer_state.specs.declared.State.{State}
use Rattle.writer_state.specs.declared.Written.{Written}
use Rattle.writer_state.specs.Finished.{Finished}

-- A test, the refusal if it fails, and the next test if it holds. A chain of these ends with 0, no refusal.
unfoldable pub or_refuse : Bool → ℕ → ℕ → ℕ
or_refuse test refusal next = cond test next refusal

-- The answer of a call: in a refusal the state before the call, else the state after it.
unfoldable pub call_result : ℕ → State → State → Written
call_result refusal before after = record { refusal = refusal; place = 0; state = cond (eqb refusal 0) after before }

-- The buffer after a call: in a refusal the buffer before the call, else the one after it.
unfoldable pub buffer_after : ℕ → List ℕ → List ℕ → List ℕ
buffer_after refusal before after = cond (eqb refusal 0) after before

-- The message number of the innermost open message.
unfoldable pub level : State → ℕ
level s = get_or s.numbers s.opened 0

-- The meaning of a tag in the innermost open message, and whether it is single there, under the revision of the start.
unfoldable pub meant : Table → State → ℕ → Meaning
meant t s tag = (schema s.revision t).means (level s) tag

unfoldable pub single : Table → State → ℕ → Bool
single t s tag = (schema s.revision t).single (level s) tag

-- The mask of the innermost open message: the bit of a single entry, by its order in the table, says whether the message has a field with its tag.
-- Other bits are not looked at.
unfoldable pub mask : State → ℕ
mask s = get_or s.masks s.opened 0

-- Whether the innermost open message has a single field with a tag already, and its mask once it has.
unfoldable pub noted : Table → State → ℕ → Bool
noted t s tag = single t s tag && has_bit (mask s) (order (entries t) (level s) tag)

unfoldable pub mask_with : Table → State → ℕ → ℕ
mask_with t s tag = cond (single t s tag) (with_bit (mask s) (order (entries t) (level s) tag)) (mask s)

-- The state after n more octets were stored before the earlier ones.
unfoldable pub back : State → ℕ → State
back s n =
    record {
      length = s.length;
      start = s.start - n;
      opened = s.opened;
      revision = s.revision;
      numbers = s.numbers;
      masks = s.masks;
      marks = s.marks;
      tags = s.tags;
    }

-- The state whose innermost message has the mask m.
unfoldable pub masked : State → ℕ → State
masked s m =
    record {
      length = s.length;
      start = s.start;
      opened = s.opened;
      revision = s.revision;
      numbers = s.numbers;
      masks = set s.masks s.opened m;
      marks = s.marks;
      tags = s.tags;
    }

-- ---- start

unfoldable pub start_refusal : Table → ℕ → ℕ → ℕ → ℕ
start_refusal t revision number len =
    or_refuse (leb len message_limit) refusals.too_long
    (or_refuse (valid t) refusals.table
    (or_refuse (is_revision revision) refusals.table
    (or_refuse (leb number last_number) refusals.table 0)))

-- The state for a buffer of `len` octets in which nothing is stored, with no field open and nothing noted.
unfoldable pub begun : ℕ → ℕ → ℕ → State
begun len revision number =
    record {
      length = len;
      start = len;
      opened = 0;
      revision = revision;
      numbers = set (replicate 8 0) 0 number;
      masks = replicate 8 0;
      marks = replicate 7 0;
      tags = replicate 7 0;
    }

unfoldable pub started : Table → ℕ → ℕ → ℕ → Written
started t revision number len = call_result (start_refusal t revision number len) (begun 0 0 0) (begun len revision number)

-- ---- put: `agrees` says that the tag has the kind of the value, `readable` that its octets are text where they have to be.

unfoldable pub put_refusal : Table → State → ℕ → ℕ → Bool → Bool → ℕ → ℕ
put_refusal t s tag len agrees readable size =
    or_refuse (eqb len s.length) refusals.state
    (or_refuse (sound s) refusals.state
    (or_refuse (valid t) refusals.table
    (or_refuse agrees refusals.tag_or_kind
    (or_refuse (not (noted t s tag)) refusals.repeated
    (or_refuse readable refusals.text
    (or_refuse (leb size s.start) refusals.no_room 0))))))

unfoldable pub put : Table → State → ℕ → Bool → Bool → List ℕ → ℕ → Written
put t s tag agrees readable contents len =
    let size = length (field tag contents) in
    call_result (put_refusal t s tag len agrees readable size) s (masked (back s size) (mask_with t s tag))

unfoldable pub put_buffer : Table → State → ℕ → Bool → Bool → List ℕ → List ℕ → List ℕ
put_buffer t s tag agrees readable contents d =
    let octets = field tag contents in
    buffer_after (put_refusal t s tag (length d) agrees readable (length octets)) d (stored d (s.start - length octets) octets)

-- Whether the values of a kind are octets.
unfoldable pub of_octets : ℕ → Bool
of_octets kind = eqb kind 3 || eqb kind 4

-- Whether octets may be a value of a kind: those of a text have to be text.
unfoldable pub readable : ℕ → List ℕ → Bool
readable kind xs = cond (eqb kind 4) (text xs) true

-- ---- open

unfoldable pub open_refusal : Table → State → ℕ → Bool → ℕ
open_refusal t s tag agrees =
    or_refuse (sound s) refusals.state
    (or_refuse (valid t) refusals.table
    (or_refuse agrees refusals.tag_or_kind
    (or_refuse (not (noted t s tag)) refusals.repeated
    (or_refuse (leb s.opened 6) refusals.too_deep 0))))

-- The state one level deeper. The mark is where the contents of the field end. Nothing is noted in the new message.
unfoldable pub deeper : State → ℕ → ℕ → State
deeper s tag number =
    record {
      length = s.length;
      start = s.start;
      opened = s.opened + 1;
      revision = s.revision;
      numbers = set s.numbers (s.opened + 1) number;
      masks = set s.masks (s.opened + 1) 0;
      marks = set s.marks s.opened s.start;
      tags = set s.tags s.opened tag;
    }

-- The field is noted in the message that it stands in.
unfoldable pub opening : Table → State → ℕ → Written
opening t s tag =
    let m = meant t s tag in
    call_result (open_refusal t s tag (eqb (kind_number m) 5)) s (deeper (masked s (mask_with t s tag)) tag (inner_of m))

-- ---- close

-- The control part of the field that was opened last. Its contents are all that was stored since.
unfoldable pub closing_part : State → List ℕ
closing_part s = least_control (get_or s.tags (s.opened - 1) 0) (get_or s.marks (s.opened - 1) 0 - s.start)

-- The refusals of a close that come before that for want of room, which is `next`.
unfoldable pub close_early : Table → State → ℕ → ℕ → ℕ
close_early t s len next =
    or_refuse (eqb len s.length) refusals.state (or_refuse (sound s) refusals.state (or_refuse (valid t) refusals.table (or_refuse (leb 1 s.opened) refusals.nothing_open next)))

unfoldable pub close_refusal : Table → State → ℕ → ℕ
close_refusal t s len = close_early t s len (or_refuse (leb (length (closing_part s)) s.start) refusals.no_room 0)

-- The state one level less deep.
unfoldable pub outer : State → State
outer s =
    record {
      length = s.length;
      start = s.start;
      opened = s.opened - 1;
      revision = s.revision;
      numbers = s.numbers;
      masks = s.masks;
      marks = s.marks;
      tags = s.tags;
    }

unfoldable pub closing : Table → State → ℕ → Written
closing t s len = call_result (close_refusal t s len) s (outer (back s (length (closing_part s))))

unfoldable pub close_buffer : Table → State → List ℕ → List ℕ
close_buffer t s d =
    let octets = closing_part s in
    buffer_after (close_refusal t s (length d)) d (stored d (s.start - length octets) octets)

-- ---- finish

unfoldable pub finish_refusal : State → ℕ
finish_refusal s = or_refuse (sound s) refusals.state (or_refuse (eqb s.opened 0) refusals.still_open 0)

-- Where the message starts, and the state as it was given.
unfoldable pub finished : State → Finished
finished s =
    let refusal = finish_refusal s in
    record { refusal = refusal; place = 0; start = cond (eqb refusal 0) s.start 0; state = s }
