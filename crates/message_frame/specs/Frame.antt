-- Frames: a prefix that says a message's size, and the message.
use Rattle.std.specs.Prelude.{ℕ, ◌+◌, ◌-◌, cond, List, [], ◌∷◌, ◌++◌, length, take, drop, ltb, Result, Ok, Err}
use Rattle.std.specs.declared.ops.Range.{Range}
use Rattle.octets.specs.ControlPart.{Code}
use Rattle.octets.specs.Control.{following, coded, least_code}
use Rattle.reading.specs.Refusals as refusals
use Rattle.reading.specs.Refusals.{number}
use Rattle.reading.specs.declared.Fault.{Fault}
use Rattle.reading.specs.Reading.{message_limit}
use Rattle.octets_store.specs.Store.{stored}
use Rattle.message_frame.specs.declared.FrameRead.{FrameRead}
use Rattle.message_frame.specs.declared.FrameWritten.{FrameWritten}

-- A size below `fc` is the prefix itself; after `fc`, `fd`, `fe`, `ff` it follows in 1, 2, 4, 8 octets.
abbrev pub frame_code : Code
frame_code = record { direct = 0xfc; widths = 1 ∷ 2 ∷ 4 ∷ 8 ∷ [] }

-- The limit of the buffer of a frame reader: the longest prefix and the longest message.
abbrev pub buffer_limit : ℕ
buffer_limit = 65545

-- Every refusal is at place 0, with no other value.
abbrev pub read_refused : ℕ → FrameRead
read_refused reason = record { refusal = reason; place = 0; start = 0; end = 0 }

abbrev pub read_accepted : ℕ → ℕ → FrameRead
read_accepted from to = record { refusal = 0; place = 0; start = from; end = to }

-- The reader's answer in numbers, by the result of `frame_read`.
abbrev pub read : Result (Range ℕ) Fault → FrameRead
read (Ok part) = read_accepted part.start part.end
read (Err f) = record { refusal = number f.refusal; place = f.place; start = 0; end = 0 }

-- The reader's answer for a whole prefix of n octets that announces a size, with `remaining` octets after it.
unfoldable pub announced : ℕ → ℕ → ℕ → FrameRead
announced n size remaining =
    cond (ltb message_limit size) (read_refused refusals.too_long)
    (cond (ltb remaining size) (read_refused refusals.past_the_end) (read_accepted n (n + size)))

-- The reader's answer for a first octet x and the octets s after it.
unfoldable pub prefixed : ℕ → List ℕ → FrameRead
prefixed x s =
    let n = following frame_code x in
    cond (ltb (length s) n) (read_refused refusals.cut) (announced (1 + n) (coded frame_code x (take n s)) (length s - n))

unfoldable pub front_read : List ℕ → FrameRead
front_read [] = read_refused refusals.cut
front_read (x ∷ s) = prefixed x s

-- The frame reader's answer for a buffer.
unfoldable pub frame_read : List ℕ → FrameRead
frame_read s = cond (ltb buffer_limit (length s)) (read_refused refusals.too_long) (front_read s)

-- The message part of a buffer by the reader's answer: from `start` on, with `end` the place after it.
unfoldable pub message_part : List ℕ → FrameRead → List ℕ
message_part s r = take (r.end - r.start) (drop r.start s)

-- The shortest prefix of a size.
unfoldable pub shortest_prefix : ℕ → List ℕ
shortest_prefix size = let p = least_code frame_code size in p.0 ∷ p.1

-- A message in a frame.
unfoldable pub framed : List ℕ → List ℕ
framed m = shortest_prefix (length m) ++ m

abbrev pub write_refused : ℕ → FrameWritten
write_refused reason = record { refusal = reason; place = 0; length = 0 }

-- The writer's answer in numbers, by the result of `frame_write`.
abbrev pub written : Result ℕ Fault → FrameWritten
written (Ok n) = record { refusal = 0; place = 0; length = n }
written (Err f) = record { refusal = number f.refusal; place = f.place; length = 0 }

-- The frame writer's answer for a message and a buffer of `room` octets.
unfoldable pub frame_written : List ℕ → ℕ → FrameWritten
frame_written m room =
    cond (ltb message_limit (length m)) (write_refused refusals.too_long)
    (cond (ltb room (length (framed m))) (write_refused refusals.no_room) (record { refusal = 0; place = 0; length = length (framed m) }))

-- The buffer afterwards: the frame at the front, where the message is within the limit and the frame fits.
unfoldable pub frame_stored : List ℕ → List ℕ → List ℕ
frame_stored m out = cond (ltb message_limit (length m)) out (stored out 0 (framed m))
