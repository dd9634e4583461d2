-- The writer's state as an array of numbers, and the answers of the calls with such an array.
use Rattle.std.specs.Prelude.{ℕ, ◌+◌, ◌%◌, Bool, true, cond, ◌&&◌, List, [], ◌∷◌, ◌++◌, length, get_or, take, drop, replicate, map, eqb, leb}
use Rattle.reading.specs.Refusals as refusals
use Rattle.writer_state.specs.ByOctets.{started_octets, answer_octets, buffer_octets}
use Rattle.writer_state.specs.Call.{Call}
use Rattle.writer_state.specs.Calls.{begun, finished}
use Rattle.writer_state.specs.declared.State.{State}
use Rattle.writer_state.specs.declared.Written.{Written}

-- How many numbers an array with a state has.
abbrev pub state_words : ℕ
state_words = 34

-- The largest tag.
abbrev pub last_tag : ℕ
last_tag = 65535

-- Whether numbers are at most `limit`.
unfoldable pub at_most : ℕ → List ℕ → Bool
at_most limit [] = true
at_most limit (n ∷ ns) = leb n limit && at_most limit ns

-- The array with a state: its tags after the other 27 numbers.
unfoldable pub untagged : State → List ℕ
untagged s = (s.length ∷ s.start ∷ s.opened ∷ s.revision ∷ []) ++ s.numbers ++ s.masks ++ s.marks

unfoldable pub words_of : State → List ℕ
words_of s = untagged s ++ s.tags

-- Whether an array holds a state: it has as many numbers, at most seven fields are open, and the tags of the open fields are not over the largest.
-- Other tags are not tested.
unfoldable pub holds : List ℕ → Bool
holds ws = eqb (length ws) state_words && leb (get_or ws 2 0) 7 && at_most last_tag (take (get_or ws 2 0) (drop 27 ws))

-- The lowest 16 bits of a number: a tag in use as it is.
unfoldable pub low : ℕ → ℕ
low w = w % 65536

-- The state in an array. An array that holds none gives the state of zeros, which every call refuses with `state`.
unfoldable pub state_of : List ℕ → State
state_of ws =
    cond (holds ws) (record {
      length = get_or ws 0 0;
      start = get_or ws 1 0;
      opened = get_or ws 2 0;
      revision = get_or ws 3 0;
      numbers = take 8 (drop 4 ws);
      masks = take 8 (drop 12 ws);
      marks = take 7 (drop 20 ws);
      tags = map low (take 7 (drop 27 ws));
    }) (begun 0 0 0)

-- An array with a state stored into it. An array of another length stays as it is.
unfoldable pub words_after : List ℕ → State → List ℕ
words_after ws s = cond (eqb (length ws) state_words) (words_of s) ws

-- The same, but tags that are not in use stay as they are.
unfoldable pub used_after : List ℕ → State → List ℕ
used_after ws s = cond (eqb (length ws) state_words) (untagged s ++ take s.opened s.tags ++ drop (27 + s.opened) ws) ws

-- The array after a call between start and finish. A refused call leaves it as it was.
unfoldable pub array_after : List ℕ → Written → List ℕ
array_after ws w = cond (eqb w.refusal 0) (used_after ws w.state) ws

-- The answer of a call: the refusal, its place, and the array after the call.
pub record CallAnswer : Type 0 where
  pub refusal : ℕ
  pub place : ℕ
  pub array : List ℕ

-- A start whose array has another length is refused with `state` first. The array of a refused start is all zeros.
unfoldable pub start_words : List ℕ → ℕ → ℕ → ℕ → List ℕ → CallAnswer
start_words octets revision number len ws =
    let w = started_octets octets revision number len in
    cond (eqb (length ws) state_words) (record { refusal = w.refusal; place = w.place; array = words_of w.state })
    (record { refusal = refusals.state; place = 0; array = replicate (length ws) 0 })

-- A call between start and finish, with the octets of a table, an array and a buffer; then the buffer after it.
unfoldable pub call_words : List ℕ → List ℕ → List ℕ → Call → CallAnswer
call_words octets ws d c =
    let w = answer_octets octets (state_of ws) d c in
    record { refusal = w.refusal; place = w.place; array = array_after ws w }

unfoldable pub call_buffer : List ℕ → List ℕ → List ℕ → Call → List ℕ
call_buffer octets ws d c = buffer_octets octets (state_of ws) d c

-- The answer of finish: the refusal, its place, and where the message starts.
pub record FinishAnswer : Type 0 where
  pub refusal : ℕ
  pub place : ℕ
  pub start : ℕ

unfoldable pub finish_words : List ℕ → FinishAnswer
finish_words ws =
    let f = finished (state_of ws) in
    record { refusal = f.refusal; place = f.place; start = f.start }
