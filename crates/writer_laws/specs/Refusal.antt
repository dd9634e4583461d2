-- The refusals of start, of the calls after a run, and of finish; 0 if they are accepted. After a run the table, the revision, the message
-- number, the length of the lent buffer and the fields given so far decide the refusal: no run leads to a state or a buffer refused with
-- `refusals.state`, nor to a table refused with `refusals.table`.
use Rattle.std.specs.Prelude.{ℕ, ◌+◌, ◌≡◌, cond, ◌&&◌, List, length, leb, eqb}
use Rattle.reading.specs.Reading.{message_limit, last_number}
use Rattle.reading.specs.Refusals as refusals
use Rattle.octets.specs.Number.{least_uint}
use Rattle.octets.specs.Signed.{least_int}
use Rattle.octets.specs.Text.{text}
use Rattle.octets.specs.Control.{least_control}
use Rattle.table.specs.Schema.{is_revision, schema}
use Rattle.table.specs.Valid.{valid}
use Rattle.table.specs.declared.Table.{Table}
use Rattle.message.specs.Shortest.{field, shortest}
use Rattle.message.specs.Single.{repeats}
use Rattle.writer_state.specs.Call.{Call, put_uint, put_int, put_octets, open_field, close_field, Writer}
use Rattle.writer_state.specs.declared.State.{State}
use Rattle.writer_laws.specs.Given.{Given, message, opened, tags_given, open_fields, innermost}
use Rattle.writer_laws.specs.Written.{written}
use Rattle.writer_laws.specs.Run.{kind_in}

-- `too_long` if the lent buffer is longer than a message may be, else `table` if the table is not valid, the revision is neither 1 nor 2 or the
-- message number is too large.
unfoldable pub refusal_of_start : Table → ℕ → ℕ → ℕ → ℕ
refusal_of_start t revision number len =
    cond (leb len message_limit) (cond (valid t && is_revision revision && leb number last_number) 0 refusals.table) refusals.too_long

-- `repeated` if a field with this tag repeats a single one of the innermost message, else the refusal `next`.
unfoldable pub refusal_for_repeat : Table → ℕ → ℕ → Given → ℕ → ℕ → ℕ
refusal_for_repeat t revision number g tag next =
    let sc = schema revision t in
    cond (repeats sc (innermost sc number g) (tags_given g) tag) refusals.repeated next

-- `no_room` if `size` octets are more than the lent buffer has free.
unfoldable pub refusal_for_room : ℕ → Given → ℕ → ℕ
refusal_for_room len g size = cond (leb (length (written g) + size) len) 0 refusals.no_room

-- `nothing_open` if no field is open, `no_room` if there is no room for the control part.
unfoldable pub refusal_of_close : ℕ → Given → ℕ
refusal_of_close len (message w) = refusals.nothing_open
refusal_of_close len (opened tag w around) = refusal_for_room len (opened tag w around) (length (least_control tag (length (shortest w))))

-- `tag_or_kind` if the tag has another kind or none at this level, else `repeated`, else `text` if the octets of a text field are not text, else
-- `no_room` if there is no room for the field. Open stores nothing: `tag_or_kind`, else `repeated`, else `too_deep` if 7 fields are open already.
unfoldable pub refusal_of_call : Table → ℕ → ℕ → ℕ → Given → Call → ℕ
refusal_of_call t revision number len g (put_uint tag v) =
    let room = refusal_for_room len g (length (field tag (least_uint v))) in
    cond (eqb (kind_in t revision number g tag) 1) (refusal_for_repeat t revision number g tag room) refusals.tag_or_kind
refusal_of_call t revision number len g (put_int tag z) =
    let room = refusal_for_room len g (length (field tag (least_int z))) in
    cond (eqb (kind_in t revision number g tag) 2) (refusal_for_repeat t revision number g tag room) refusals.tag_or_kind
refusal_of_call t revision number len g (put_octets tag xs) =
    let room = refusal_for_room len g (length (field tag xs)) in
    cond (eqb (kind_in t revision number g tag) 4) (refusal_for_repeat t revision number g tag (cond (text xs) room refusals.text))
    (cond (eqb (kind_in t revision number g tag) 3) (refusal_for_repeat t revision number g tag room) refusals.tag_or_kind)
refusal_of_call t revision number len g (open_field tag) =
    let deep = cond (leb (open_fields g) 6) 0 refusals.too_deep in
    cond (eqb (kind_in t revision number g tag) 5) (refusal_for_repeat t revision number g tag deep) refusals.tag_or_kind
refusal_of_call t revision number len g close_field = refusal_of_close len g

-- `still_open` if a field is open.
unfoldable pub refusal_of_finish : Given → ℕ
refusal_of_finish (message w) = 0
refusal_of_finish (opened tag w around) = refusals.still_open

-- The refusals of each call of a writer, and of its finish, on the state and the buffer after a run.
pub record Refusals (w : Writer) (t : Table) (revision number : ℕ) (lent : List ℕ) (s : State) (d : List ℕ) (g : Given) : Type 0 where
  pub calls : (c : Call) → (w.answer t s d c).refusal ≡ refusal_of_call t revision number (length lent) g c
  pub finish : (w.finish s).refusal ≡ refusal_of_finish g
