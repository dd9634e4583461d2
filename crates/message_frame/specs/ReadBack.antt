-- A frame that was written is read back as the same message.
use Rattle.std.specs.Prelude.{ℕ, ◌≡◌, List, length, drop}
use Rattle.message_frame.specs.Frame.{frame_read, message_part, frame_written}

-- A buffer b that the reader accepts, whose message part is m, with the place after it where the writer's octets end and the rest of `out` after that.
pub record ReadBack (m out b : List ℕ) : Type 0 where
  pub accepted : (frame_read b).refusal ≡ 0
  pub message : message_part b (frame_read b) ≡ m
  pub after : (frame_read b).end ≡ (frame_written m (length out)).length
  pub beyond : drop (frame_read b).end b ≡ drop (frame_read b).end out
