-- The prefix that the private function `shortest_prefix` returns.
use Rattle.std.specs.Prelude.{ℕ, ◌≤◌, ◌≡◌, length}
use Rattle.octets.specs.Control.{least_code}
use Rattle.message_frame.specs.Frame.{frame_code}

-- The first octet of a size's shortest prefix, and how many octets follow it.
pub record LeastPrefix (size octet width : ℕ) : Type 0 where
  pub led : octet ≡ (least_code frame_code size).0
  pub wide : width ≡ length (least_code frame_code size).1
  pub few : width ≤ 4
