-- The arguments of a call of the frame writer, and the answer and the buffer that its contract fixes.
use Rattle.std.specs.Prelude.{Bool, ◌&&◌, ℕ, List, length}
use Rattle.message_frame.specs.Frame.{frame_written, frame_stored}
use Rattle.message_frame.specs.declared.FrameWritten.{FrameWritten}
use Rattle.wrong_programs.specs.Kinds.{Given, octets}

pub record FrameWriteInput : Type 0 where
  pub message : List ℕ
  pub out : List ℕ

unfoldable pub fits : FrameWriteInput → Bool
fits x = octets x.message && octets x.out

abbrev pub FrameWriteCall : Type 0
FrameWriteCall = Given fits

-- The contract of crudvim_frame_write: its answer, and the buffer afterwards.
unfoldable pub frame_write : FrameWriteCall → FrameWritten × List ℕ
frame_write x = (frame_written x.value.message (length x.value.out), frame_stored x.value.message x.value.out)
