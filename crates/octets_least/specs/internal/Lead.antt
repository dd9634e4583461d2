-- What the private functions `tag_lead` and `length_lead` return.
use Rattle.std.specs.Prelude.{ℕ, ◌<◌, ◌≡◌, length}
use Rattle.octets.specs.ControlPart.{Code}
use Rattle.octets.specs.Control.{least_code}

-- The least form of a number in a code: its lead, and how many octets follow.
pub record LeastLead (code : Code) (v lead width : ℕ) : Type 0 where
  pub led : lead ≡ (least_code code v).0
  pub wide : width ≡ length (least_code code v).1
  pub nybble : lead < 16
