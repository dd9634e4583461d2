-- The arguments of a call of the frame reader, and the answer that its contract fixes.
use Rattle.message_frame.specs.Frame as frames
use Rattle.message_frame.specs.declared.FrameRead.{FrameRead}
use Rattle.wrong_programs.specs.Kinds.{Given, octets}

abbrev pub FrameReadCall : Type 0
FrameReadCall = Given octets

-- The contract of crudvim_frame_read.
unfoldable pub frame_read : FrameReadCall → FrameRead
frame_read x = frames.frame_read x.value
