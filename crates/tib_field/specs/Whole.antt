-- What a message of the formats TibMsg and QForm is: a magic number, a size of four octets, and fields joined. A format says what its magic number
-- is, which octets a field has, and which fields it allows.
use Rattle.std.specs.Prelude.{ℕ, ◌≤◌, ◌≡◌, List, ◌++◌, length}
use Rattle.octets.specs.Number.{big_endian}
use Rattle.reading.specs.Reading.{message_limit}
use Rattle.tib_field.specs.Fields.{Each, joined}

-- A whole message, at most 65,536 octets long, and its division into fields. The size in the header does not count the header.
pub record WholeMessage {A : Type 0} (magic : List ℕ) (octets : A → List ℕ) (Allowed : A → Type 0) (s : List ℕ) (fs : List A) : Type 0 where
  pub size : List ℕ
  pub divides : s ≡ magic ++ (size ++ joined octets fs)
  pub width : length size ≡ 4
  pub counted : big_endian size ≡ length (joined octets fs)
  pub allowed : Each Allowed fs
  pub within_limit : length s ≤ message_limit
