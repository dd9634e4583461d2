-- The output of the program `show` for any input.
use Rattle.std.specs.Prelude.{ℕ, cond, List, length, drop, eqb, ltb}
use Rattle.reading.specs.Reading.{message_limit}
use Rattle.reading.specs.Refusals as refusals
use Rattle.table.specs.Load.{Loaded, load}
use Rattle.table.specs.declared.Table.{Table}
use Rattle.message_frame.specs.Frame.{frame_read, message_part}
use Rattle.message_frame.specs.declared.FrameRead.{FrameRead}
use Rattle.text_message.specs.Text.{refusal_text, message_text}

-- The text for the octets after the first frame: the message in the second frame. Octets after that frame are rejected before the message is read.
unfoldable pub second_text : Table → List ℕ → FrameRead → List ℕ
second_text t s f =
    cond (eqb f.refusal 0)
    (cond (eqb f.end (length s)) (message_text t (message_part s f)) (refusal_text refusals.size 0))
    (refusal_text f.refusal f.place)

-- The text by the result of loading the table in the first frame; `rest` are the octets after that frame.
unfoldable pub table_text : Loaded → List ℕ → List ℕ
table_text l rest = cond (eqb l.refusal 0) (second_text l.table rest (frame_read rest)) (refusal_text l.refusal l.place)

unfoldable pub first_text : List ℕ → FrameRead → List ℕ
first_text s f =
    cond (eqb f.refusal 0) (table_text (load (message_part s f)) (drop f.end s)) (refusal_text f.refusal f.place)

-- The text for the whole input.
unfoldable pub output : List ℕ → List ℕ
output s = cond (ltb message_limit (length s)) (refusal_text refusals.too_long 0) (first_text s (frame_read s))
