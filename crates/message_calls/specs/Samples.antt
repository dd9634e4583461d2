-- Answers of `check_octets` (Calls.antt) in lists under one statement each: refusals with their places, and counts; and answers of `short_octets`
-- likewise. They try the definitions that the check's answers rest on; a comment names the one that a sample is about.
use Rattle.std.specs.Prelude.{ℕ, ◌≡◌, Bool, true, false, List, [], ◌∷◌, ◌++◌, replicate}
use Rattle.reading.specs.declared.Checked.{Checked}
use Rattle.message_calls.specs.Calls.{check_octets, short_octets}

-- A sample: a table's octets, a revision, a message number, a message, and the check's answer.
pub record Sample : Type 0 where
  pub table : List ℕ
  pub revision : ℕ
  pub number : ℕ
  pub message : List ℕ
  pub expected : Checked

-- Every sample of a list is answered as expected.
unfoldable pub Hold : List Sample → Type 0
Hold [] = Unit {0}
Hold (x ∷ xs) = (check_octets x.table x.revision x.number x.message ≡ x.expected) × Hold xs

-- Under a revision, a message with number 0 that is accepted, a message with a number that is refused, and one with number 0.
unfoldable pub accepts : ℕ → List ℕ → List ℕ → ℕ → ℕ → Sample
accepts revision table message fields depth =
    record {
      table = table;
      revision = revision;
      number = 0;
      message = message;
      expected = record { refusal = 0; place = 0; fields = fields; depth = depth };
    }

unfoldable pub refuses_number : ℕ → ℕ → List ℕ → List ℕ → ℕ → ℕ → Sample
refuses_number revision number table message reason place =
    record {
      table = table;
      revision = revision;
      number = number;
      message = message;
      expected = record { refusal = reason; place = place; fields = 0; depth = 0 };
    }

unfoldable pub refuses : ℕ → List ℕ → List ℕ → ℕ → ℕ → Sample
refuses revision table message reason place = refuses_number revision 0 table message reason place

-- A record of a table: message number, the two octets of the field tag, kind (1 uint, 2 int, 4 text, 5 message) and inner number. Then one with a
-- mark (0 many, 1 single).
unfoldable pub line : ℕ → ℕ → ℕ → ℕ → ℕ → List ℕ
line number high low kind inner = 0x01 ∷ 0x00 ∷ 0x05 ∷ number ∷ high ∷ low ∷ kind ∷ inner ∷ []

unfoldable pub marked : ℕ → ℕ → ℕ → ℕ → ℕ → ℕ → List ℕ
marked number high low kind inner mark = 0x01 ∷ 0x00 ∷ 0x06 ∷ number ∷ high ∷ low ∷ kind ∷ inner ∷ mark ∷ []

-- Tag 1 is a message of the same number; beside it, tag 2 is a uint and tag 3 text.
unfoldable pub messages : List ℕ
messages = line 0 0 1 5 0

unfoldable pub three_kinds : List ℕ
three_kinds = line 0 0 2 1 0 ++ line 0 0 3 4 0 ++ messages

-- The table of document 01's sample for `show`.
unfoldable pub shown : List ℕ
shown = line 0 0 1 1 0 ++ line 0 0 2 2 0 ++ line 0 0 0x23 5 1 ++ line 1 0 0 4 0 ++ line 1 0 1 1 0

-- Document 002's person2: two texts and a number.
unfoldable pub person2 : List ℕ
person2 = line 0 0 8 4 0 ++ line 0 0 0x23 4 0 ++ line 0 0x45 0x67 1 0

-- Samples under a table whose records have no mark, so that the revision has no effect.
unfoldable pub samples : ℕ → List Sample
samples r =
    -- `control`: 3, a control part ends too early, after a field; in the message that tag 1 holds, at its front and after a field.
    refuses r messages (0xc0 ∷ 0xf1 ∷ []) 3 1 ∷
    refuses r messages (0x20 ∷ 0x11 ∷ 0xf1 ∷ []) 3 2 ∷
    refuses r messages (0x12 ∷ 0x00 ∷ 0xf1 ∷ []) 3 2 ∷
    -- `reading`: 7, the text in the inner message is looked at before the next outer field, whose contents are missing.
    refuses r three_kinds (0x12 ∷ 0x31 ∷ 0xff ∷ 0x29 ∷ []) 7 1 ∷
    -- `grammar`: 7, an overlong text, a surrogate, a value above 10ffff. 10ffff itself is good, and so is a text of no octets.
    refuses r three_kinds (0x32 ∷ 0xc0 ∷ 0x80 ∷ []) 7 0 ∷
    refuses r three_kinds (0x20 ∷ 0x33 ∷ 0xed ∷ 0xa0 ∷ 0x80 ∷ []) 7 1 ∷
    refuses r three_kinds (0x34 ∷ 0xf4 ∷ 0x90 ∷ 0x80 ∷ 0x80 ∷ []) 7 0 ∷
    accepts r three_kinds (0x34 ∷ 0xf4 ∷ 0x8f ∷ 0xbf ∷ 0xbf ∷ []) 1 1 ∷
    accepts r three_kinds (0x30 ∷ []) 1 1 ∷
    -- `depth_limit`: eight messages, each in the one before; and 5, a ninth, though it is empty. 4 comes before 5: the ninth is not whole.
    accepts r messages (0x16 ∷ 0x15 ∷ 0x14 ∷ 0x13 ∷ 0x12 ∷ 0x11 ∷ 0x10 ∷ []) 7 8 ∷
    refuses r messages (0x17 ∷ 0x16 ∷ 0x15 ∷ 0x14 ∷ 0x13 ∷ 0x12 ∷ 0x11 ∷ 0x10 ∷ []) 5 7 ∷
    refuses r messages (0x17 ∷ 0x16 ∷ 0x15 ∷ 0x14 ∷ 0x13 ∷ 0x12 ∷ 0x11 ∷ 0x11 ∷ []) 4 7 ∷
    -- `step_from`: 4, a length of eight octets, which with the size of its control part exceeds 64 bits.
    refuses r (line 0 0 12 1 0) (0xcf ∷ 0xff ∷ 0xff ∷ 0xff ∷ 0xff ∷ 0xff ∷ 0xff ∷ 0xff ∷ 0xf7 ∷ []) 4 0 ∷
    -- `step_by_kind`: 6, an int of nine octets, all of them 0; person2's number has 14 octets.
    refuses r (line 0 0 12 2 0) (0xc9 ∷ replicate 9 0) 6 0 ∷
    refuses r person2
    (0x88 ∷ 0x47 ∷ 0xc3 ∷ 0xbc ∷ 0x6e ∷ 0x74 ∷ 0x68 ∷ 0x65 ∷ 0x72 ∷ 0xea ∷ 0x23 ∷ 0x42 ∷ 0x72 ∷ 0x75 ∷ 0x6e ∷ 0x74 ∷ 0x68 ∷ 0x61 ∷ 0x6c ∷ 0x65 ∷ 0x72
    ∷ 0xfc ∷ 0x45 ∷ 0x67 ∷ 0x0e ∷ 0x07 ∷ replicate 13 0xff)
    6 21 ∷
    -- `load`: 2, the third record has the pair of the first. `check_under`: 2, the number is over 15. The message is not looked at.
    refuses r (line 0 0 1 5 0 ++ line 0 0 2 1 0 ++ line 0 0 1 4 0) (0xf1 ∷ []) 2 16 ∷
    refuses_number r 16 messages (0xf1 ∷ []) 2 0 ∷
    -- `fields` and `depth` of a tree: an empty message; an empty message in a field; a field whose tag the table does not have, which is not
    -- entered; the sample for `show`.
    accepts r messages [] 0 1 ∷
    accepts r messages (0x10 ∷ []) 1 2 ∷
    accepts r messages (0xc1 ∷ 0xf1 ∷ []) 1 1 ∷
    accepts r shown (0x11 ∷ 0x2a ∷ 0x21 ∷ 0x8b ∷ 0xe6 ∷ 0x23 ∷ 0x02 ∷ 0x4b ∷ 0x57 ∷ 0x12 ∷ 0x01 ∷ 0xf4 ∷ 0x30 ∷ []) 6 2 ∷
    []

-- Tag 2 of message 0 is a single uint.
unfoldable pub single_uint : List ℕ
single_uint = marked 0 0 2 1 0 1

-- Tag 1 of message 0 is message 1, and tag 0 of that is a single uint; the records have different lengths.
unfoldable pub nested_single : List ℕ
nested_single = line 0 0 1 5 1 ++ marked 1 0 0 1 0 1

-- Samples of revisions and of records with a mark.
unfoldable pub single_samples : List Sample
single_samples =
    -- `is_revision`: 2, a revision that is neither 1 nor 2, also where its last octet is 1. A faulty table is refused at its place before that.
    refuses 0 single_uint [] 2 0 ∷
    refuses 3 single_uint [] 2 0 ∷
    refuses 257 single_uint [] 2 0 ∷
    refuses 3 (line 0 0 1 5 0 ++ line 0 0 1 5 0) [] 2 8 ∷
    -- `well_formed` and `place_at`: 2, a mark that is neither 0 nor 1, at its record's place, after records of both lengths, under either revision.
    refuses 2 (nested_single ++ marked 0 0 3 1 0 2) [] 2 17 ∷
    refuses 1 (nested_single ++ marked 0 0 3 1 0 2) [] 2 17 ∷
    -- 2, the inner number 81 in a record of length 5; a record of length 6 that ends before its mark; one of length 5 and an octet after it.
    refuses 2 (line 0 0 1 5 0x81) [] 2 0 ∷
    refuses 2 (0x01 ∷ 0x00 ∷ 0x06 ∷ 0x00 ∷ 0x00 ∷ 0x02 ∷ 0x01 ∷ 0x00 ∷ []) [] 2 0 ∷
    refuses 2 (0x01 ∷ 0x00 ∷ 0x05 ∷ 0x00 ∷ 0x00 ∷ 0x02 ∷ 0x01 ∷ 0x00 ∷ 0x01 ∷ []) [] 2 8 ∷
    -- `step_from`: 20, a repeat of a single field, in a longer form. Under revision 1, or with the mark 0, the field may be repeated.
    refuses 2 single_uint (0x20 ∷ 0xe0 ∷ 0x02 ∷ []) 20 1 ∷
    accepts 1 single_uint (0x20 ∷ 0xe0 ∷ 0x02 ∷ []) 2 1 ∷
    accepts 2 (marked 0 0 2 1 0 0) (0x20 ∷ 0xe0 ∷ 0x02 ∷ []) 2 1 ∷
    -- 20 comes before 6: the repeat has nine octets. 4 comes before 20: the repeat ends past the message.
    refuses 2 single_uint (0x20 ∷ 0x29 ∷ replicate 9 0) 20 1 ∷
    refuses 1 single_uint (0x20 ∷ 0x29 ∷ replicate 9 0) 6 1 ∷
    refuses 2 single_uint (0x20 ∷ 0x22 ∷ 0x00 ∷ []) 4 1 ∷
    -- `repeats`: each of two nested messages has the single field; the second has it twice.
    accepts 2 nested_single (0x11 ∷ 0x00 ∷ 0x11 ∷ 0x00 ∷ []) 4 2 ∷
    refuses 2 nested_single (0x11 ∷ 0x00 ∷ 0x12 ∷ 0x00 ∷ 0x00 ∷ []) 20 4 ∷
    []

-- A sample of `short_octets`: a table's octets, a revision, a message with number 0, and whether it is in its shortest form.
pub record ShortSample : Type 0 where
  pub table : List ℕ
  pub revision : ℕ
  pub message : List ℕ
  pub expected : Bool

unfoldable pub HoldShort : List ShortSample → Type 0
HoldShort [] = Unit {0}
HoldShort (x ∷ xs) = (short_octets x.table x.revision 0 x.message ≡ x.expected) × HoldShort xs

unfoldable pub is_short : ℕ → List ℕ → List ℕ → ShortSample
is_short revision table message = record { table = table; revision = revision; message = message; expected = true }

unfoldable pub not_short : ℕ → List ℕ → List ℕ → ShortSample
not_short revision table message = record { table = table; revision = revision; message = message; expected = false }

-- Tag 12 is a uint, or an int.
unfoldable pub uint_table : List ℕ
uint_table = line 0 0 12 1 0

unfoldable pub int_table : List ℕ
int_table = line 0 0 12 2 0

-- Samples under a table whose records have no mark.
unfoldable pub short_samples : ℕ → List ShortSample
short_samples r =
    -- `least_uint`: 0 in one octet, and in none.
    not_short r uint_table (0xc1 ∷ 0x00 ∷ []) ∷
    is_short r uint_table (0xc0 ∷ []) ∷
    -- `least_int`: 0 in one octet; minus 128 in one octet, and in two; minus 129 in two; 128 in two; 127 in two.
    not_short r int_table (0xc1 ∷ 0x00 ∷ []) ∷
    is_short r int_table (0xc1 ∷ 0x80 ∷ []) ∷
    not_short r int_table (0xc2 ∷ 0x80 ∷ 0x80 ∷ []) ∷
    is_short r int_table (0xc2 ∷ 0x80 ∷ 0x81 ∷ []) ∷
    is_short r int_table (0xc2 ∷ 0x00 ∷ 0x80 ∷ []) ∷
    not_short r int_table (0xc2 ∷ 0x00 ∷ 0x7f ∷ []) ∷
    -- `least_contents`: a field whose tag the table does not have stays as it is. `least_control`: its length, and then its tag and its length too,
    -- take an octet more than they need.
    is_short r [] (0x91 ∷ 0x00 ∷ []) ∷
    not_short r [] (0x9c ∷ 0x01 ∷ 0x00 ∷ []) ∷
    not_short r [] (0xec ∷ 0x0d ∷ 0x05 ∷ replicate 5 0x78) ∷
    -- `shortest`: an empty message in a message, of which the outer control part is too long, or the inner one, or neither.
    not_short r messages (0x1c ∷ 0x01 ∷ 0x10 ∷ []) ∷
    not_short r messages (0x12 ∷ 0x1c ∷ 0x00 ∷ []) ∷
    is_short r messages (0x11 ∷ 0x10 ∷ []) ∷
    -- Eight messages, each in the one before; the number in the innermost is 42 in two octets, and in one.
    not_short r three_kinds (0x19 ∷ 0x18 ∷ 0x17 ∷ 0x16 ∷ 0x15 ∷ 0x14 ∷ 0x13 ∷ 0x22 ∷ 0x00 ∷ 0x2a ∷ []) ∷
    is_short r three_kinds (0x18 ∷ 0x17 ∷ 0x16 ∷ 0x15 ∷ 0x14 ∷ 0x13 ∷ 0x12 ∷ 0x21 ∷ 0x2a ∷ []) ∷
    -- `short`: an empty message, and one that is refused.
    is_short r messages [] ∷
    not_short r messages (0xf1 ∷ []) ∷
    []

-- A message that repeats a single field is refused, so it is not short; under revision 1 it is.
unfoldable pub single_short_samples : List ShortSample
single_short_samples = not_short 2 single_uint (0x20 ∷ 0x20 ∷ []) ∷ is_short 1 single_uint (0x20 ∷ 0x20 ∷ []) ∷ is_short 2 single_uint (0x20 ∷ []) ∷ []
