-- Reading a message of the formats TibMsg and QForm: the tests of its length and its header, then its fields.
use Rattle.std.specs.Prelude.{ℕ, ◌+◌, ◌-◌, cond, not, List, length, take, drop, eqb, ltb}
use Rattle.octets.specs.Number.{big_endian}
use Rattle.reading.specs.Reading.{Reading, refused, message_limit}
use Rattle.reading.specs.Refusals as refusals
use Rattle.tib_field.specs.Mark.{begins}

-- How many octets a header has: the magic number, and a size of four octets.
unfoldable pub header_octets : List ℕ → ℕ
header_octets magic = length magic + 4

-- The refusal of a header, 0 if it is good.
unfoldable pub header_fault : List ℕ → List ℕ → ℕ
header_fault magic s =
    cond (ltb (length s) (header_octets magic)) refusals.cut
    (cond (not (begins magic s)) refusals.magic
    (cond (not (eqb (big_endian (take 4 (drop (length magic) s))) (length s - header_octets magic))) refusals.size 0))

-- The fields after a good header; `fields` reads them from a place on.
unfoldable pub after_header : {A : Type 0} → List ℕ → (ℕ → List ℕ → Reading A) → List ℕ → Reading A
after_header magic fields s =
    cond (eqb (header_fault magic s) 0) (fields (header_octets magic) (drop (header_octets magic) s)) (refused (header_fault magic s) 0)

-- The whole message.
unfoldable pub reading_of : {A : Type 0} → List ℕ → (ℕ → List ℕ → Reading A) → List ℕ → Reading A
reading_of magic fields s = cond (ltb message_limit (length s)) (refused refusals.too_long 0) (after_header magic fields s)
