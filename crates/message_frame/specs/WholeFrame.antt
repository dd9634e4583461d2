-- What a frame is, without saying how it is read.
use Rattle.std.specs.Prelude.{ℕ, ◌+◌, ◌≤◌, ◌≡◌, List, ◌∷◌, ◌++◌, length}
use Rattle.reading.specs.Reading.{message_limit}
use Rattle.octets.specs.ControlPart.{Form}
use Rattle.message_frame.specs.Frame.{frame_code, buffer_limit}

-- A buffer within its limit with a prefix of any form, whose size is within its limit, and as many octets after it or more.
pub record WholeFrame (s : List ℕ) (from to : ℕ) : Type 0 where
  pub octet : ℕ
  pub sized : List ℕ
  pub rest : List ℕ
  pub size : ℕ
  pub is : s ≡ octet ∷ sized ++ rest
  pub form : Form frame_code size octet sized
  pub start_is : from ≡ 1 + length sized
  pub end_is : to ≡ from + size
  pub inside : size ≤ length rest
  pub message_limit : size ≤ message_limit
  pub buffer_limit : length s ≤ buffer_limit
