-- The arguments of the writer's calls as C programs make them, and the answers and buffers that their contracts fix.
use Rattle.std.specs.Prelude.{ℕ, List}
use Rattle.writer_state.specs.Call.{Call}
use Rattle.writer_words.specs.Words.{CallAnswer, FinishAnswer, start_words, call_words, call_buffer, finish_words}

pub record ArrayInput : Type 0 where
  pub table : List ℕ
  pub array : List ℕ
  pub buffer : List ℕ
  pub call : Call

-- The answer with the array after the call, and the buffer after it.
pub record ArrayOutcome : Type 0 where
  pub answer : CallAnswer
  pub buffer : List ℕ

unfoldable pub array_call : ArrayInput → ArrayOutcome
array_call x =
    record { answer = call_words x.table x.array x.buffer x.call; buffer = call_buffer x.table x.array x.buffer x.call }

-- Start has a revision, a message number and the length of a buffer. Finish has the array alone.
pub record ArrayStart : Type 0 where
  pub table : List ℕ
  pub revision : ℕ
  pub number : ℕ
  pub length : ℕ
  pub array : List ℕ

unfoldable pub array_start : ArrayStart → CallAnswer
array_start x = start_words x.table x.revision x.number x.length x.array

unfoldable pub array_finish : List ℕ → FinishAnswer
array_finish ws = finish_words ws
