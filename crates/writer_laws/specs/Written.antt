-- The octets that the writer has stored for the fields given so far, and where they stand.
use Rattle.std.specs.Prelude.{ℕ, ◌+◌, ◌≡◌, List, ◌++◌, length, take}
use Rattle.message.specs.Shortest.{shortest}
use Rattle.writer_laws.specs.Given.{Given, message, opened}

-- The control part of a field that is open is not written yet.
unfoldable pub written : Given → List ℕ
written (message w) = shortest w
written (opened tag w around) = shortest w ++ written around

-- A lent buffer after the calls: these octets stand in it from an offset to its end, and the octets before that offset are as they were lent.
pub record AtEnd (lent : List ℕ) (from : ℕ) (octets after : List ℕ) : Type 0 where
  pub to_the_end : from + length octets ≡ length lent
  pub others_kept : after ≡ take from lent ++ octets
