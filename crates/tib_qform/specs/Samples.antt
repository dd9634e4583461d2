-- Answers of `check_octets` and `field_octets` (CheckAndField.antt) in a list under one statement each. They try the definitions that the answers rest on;
-- a comment names the one that a sample is about.
use Rattle.std.specs.Prelude.{ℕ, ◌≡◌, List, [], ◌∷◌, ◌++◌, length}
use Rattle.reading.specs.declared.Checked.{Checked}
use Rattle.tib_qform.specs.declared.types.FieldAnswer.{FieldAnswer}
use Rattle.tib_qform.specs.CheckAndField.{check_octets, refused_field, field_octets}

-- A sample: the octets of a dictionary, a message, and the check's answer.
pub record Sample : Type 0 where
  pub dictionary : List ℕ
  pub message : List ℕ
  pub expected : Checked

-- Every sample of a list is answered as expected.
unfoldable pub Hold : List Sample → Type 0
Hold [] = Unit {0}
Hold (x ∷ xs) = (check_octets x.dictionary x.message ≡ x.expected) × Hold xs

-- A message that is accepted with this many fields, and one that is refused.
unfoldable pub accepts : List ℕ → List ℕ → ℕ → Sample
accepts dictionary message fields =
    record { dictionary = dictionary; message = message; expected = record { refusal = 0; place = 0; fields = fields; depth = 1 } }

unfoldable pub refuses : List ℕ → List ℕ → ℕ → ℕ → Sample
refuses dictionary message reason place =
    record { dictionary = dictionary; message = message; expected = record { refusal = reason; place = place; fields = 0; depth = 0 } }

-- A record of a dictionary: the two octets of the fid, the type, and the two octets of the size.
unfoldable pub line : ℕ → ℕ → ℕ → ℕ → ℕ → List ℕ
line high low kind sizeHigh sizeLow = 0x02 ∷ 0x00 ∷ 0x05 ∷ high ∷ low ∷ kind ∷ sizeHigh ∷ sizeLow ∷ []

-- The fid 1 has three octets of type 2, the fid 2 four octets of type 1.
unfoldable pub odd : List ℕ
odd = line 0 1 2 0 3

unfoldable pub two : List ℕ
two = odd ++ line 0 2 1 0 4

-- A message of less than 256 octets of fields.
unfoldable pub message : List ℕ → List ℕ
message fields = 0x11 ∷ 0x11 ∷ 0x11 ∷ 0x12 ∷ 0x00 ∷ 0x00 ∷ 0x00 ∷ length fields ∷ fields

-- Both fields. The octet after the data of the first, `dd`, is its padding.
unfoldable pub both : List ℕ
both = message (0xc0 ∷ 0x01 ∷ 0xaa ∷ 0xbb ∷ 0xcc ∷ 0xdd ∷ 0xc0 ∷ 0x02 ∷ 0x01 ∷ 0x02 ∷ 0x03 ∷ 0x04 ∷ [])

unfoldable pub samples : List Sample
samples =
    -- `reading`: no fields; one; two.
    accepts two (message []) 0 ∷
    accepts two (message (0xc0 ∷ 0x01 ∷ 0xaa ∷ 0xbb ∷ 0xcc ∷ 0xdd ∷ [])) 1 ∷
    accepts two both 2 ∷
    -- `data_octets`: 4, data of odd size and no octet after them, at the end of the message too. Data of even size have none. Data of no octets.
    refuses two (message (0xc0 ∷ 0x01 ∷ 0xaa ∷ 0xbb ∷ 0xcc ∷ [])) 4 8 ∷
    refuses two (message (0xc0 ∷ 0x01 ∷ 0xaa ∷ 0xbb ∷ [])) 4 8 ∷
    accepts two (message (0xc0 ∷ 0x02 ∷ 0xaa ∷ 0xbb ∷ 0xcc ∷ 0xdd ∷ [])) 1 ∷
    refuses two (message (0xc0 ∷ 0x02 ∷ 0xaa ∷ 0xbb ∷ 0xcc ∷ [])) 4 8 ∷
    accepts (line 0 5 0 0 0) (message (0xc0 ∷ 0x05 ∷ 0xc0 ∷ 0x05 ∷ [])) 2 ∷
    -- `flagged`: 16, one of the two flags is not set, or neither. 16 comes before 19 and 4.
    refuses two (message (0x80 ∷ 0x01 ∷ 0xaa ∷ 0xbb ∷ 0xcc ∷ 0xdd ∷ [])) 16 8 ∷
    refuses two (message (0x40 ∷ 0x01 ∷ 0xaa ∷ 0xbb ∷ 0xcc ∷ 0xdd ∷ [])) 16 8 ∷
    refuses two (message (0x00 ∷ 0x01 ∷ 0xaa ∷ 0xbb ∷ 0xcc ∷ 0xdd ∷ [])) 16 8 ∷
    refuses two (message (0x80 ∷ 0x03 ∷ [])) 16 8 ∷
    -- `fid`: the largest has 14 bits. 19, a fid that the dictionary does not have, though nothing follows it: 19 comes before 4.
    accepts (line 0x3f 0xff 0 0 0) (message (0xff ∷ 0xff ∷ [])) 1 ∷
    refuses two (message (0xff ∷ 0x01 ∷ 0xaa ∷ 0xbb ∷ 0xcc ∷ 0xdd ∷ [])) 19 8 ∷
    refuses two (message (0xc0 ∷ 0x03 ∷ [])) 19 8 ∷
    -- `next_field`: 3, one octet where a FID should stand, first or after a field.
    refuses two (message (0xc0 ∷ [])) 3 8 ∷
    refuses two (message (0xc0 ∷ 0x01 ∷ 0xaa ∷ 0xbb ∷ 0xcc ∷ 0xdd ∷ 0xc0 ∷ [])) 3 14 ∷
    -- `header_fault`: 3, seven octets; 13, another magic number; 14, a size that counts the header too.
    refuses two (0x11 ∷ 0x11 ∷ 0x11 ∷ 0x12 ∷ 0x00 ∷ 0x00 ∷ 0x00 ∷ []) 3 0 ∷
    refuses two (0x11 ∷ 0x11 ∷ 0x11 ∷ 0x11 ∷ 0x00 ∷ 0x00 ∷ 0x00 ∷ 0x00 ∷ []) 13 0 ∷
    refuses two (0x11 ∷ 0x11 ∷ 0x11 ∷ 0x12 ∷ 0x00 ∷ 0x00 ∷ 0x00 ∷ 0x08 ∷ []) 14 0 ∷
    -- `loading`: no records are a dictionary. 2, at the faulty record: another tag, another length, a record that is cut.
    accepts [] (message []) 0 ∷
    refuses (0x01 ∷ 0x00 ∷ 0x05 ∷ 0x00 ∷ 0x01 ∷ 0x02 ∷ 0x00 ∷ 0x03 ∷ []) (message []) 2 0 ∷
    refuses (0x02 ∷ 0x00 ∷ 0x06 ∷ 0x00 ∷ 0x01 ∷ 0x02 ∷ 0x00 ∷ 0x03 ∷ 0x00 ∷ []) (message []) 2 0 ∷
    refuses (odd ++ (0x02 ∷ 0x00 ∷ 0x05 ∷ 0x00 ∷ 0x02 ∷ 0x01 ∷ 0x00 ∷ [])) (message []) 2 8 ∷
    -- `inRange`: 2, the type 15 with eight octets, the fid 16384, the type 22. The type 15 has nine octets, and the type 21 is the last.
    refuses (two ++ line 0 3 15 0 8) (message []) 2 16 ∷
    refuses (odd ++ line 0x40 0 1 0 4) (message []) 2 8 ∷
    refuses (line 0 3 22 0 4) (message []) 2 0 ∷
    accepts (line 0 3 15 0 9 ++ line 0 4 21 0xff 0xff) (message []) 0 ∷
    -- `has`: 2, the later record of two with one fid. 2 comes before the refusals of the message.
    refuses (two ++ line 0 1 2 0 4) (message []) 2 16 ∷
    refuses (odd ++ odd) (0xff ∷ []) 2 8 ∷
    []

-- A sample of a field: the octets of a dictionary, a message, which field, and the answer.
pub record FieldSample : Type 0 where
  pub dictionary : List ℕ
  pub message : List ℕ
  pub k : ℕ
  pub expected : FieldAnswer

unfoldable pub FieldsHold : List FieldSample → Type 0
FieldsHold [] = Unit {0}
FieldsHold (x ∷ xs) = (field_octets x.dictionary x.message x.k ≡ x.expected) × FieldsHold xs

-- A field with its fid, its type, and the place and the length of its data; and a refusal.
unfoldable pub answers : List ℕ → List ℕ → ℕ → ℕ → ℕ → ℕ → ℕ → FieldSample
answers dictionary message k fid kind place size =
    record {
      dictionary = dictionary;
      message = message;
      k = k;
      expected = record { refusal = 0; place = 0; fid = fid; kind = kind; data_place = place; data_length = size };
    }

unfoldable pub rejects : List ℕ → List ℕ → ℕ → ℕ → ℕ → FieldSample
rejects dictionary message k reason place =
    record { dictionary = dictionary; message = message; k = k; expected = refused_field reason place }

unfoldable pub field_samples : List FieldSample
field_samples =
    -- `shown`: the data come after the FID, and the padding is no part of them.
    answers two both 0 1 2 10 3 ∷
    answers two both 1 2 1 16 4 ∷
    -- `field_of`: 18, there is no third field. What the check refuses is refused for every field.
    rejects two both 2 18 0 ∷
    rejects two (message []) 0 18 0 ∷
    rejects two (message (0xc0 ∷ 0x01 ∷ 0xaa ∷ 0xbb ∷ 0xcc ∷ 0xdd ∷ 0xc0 ∷ [])) 0 3 14 ∷
    rejects (odd ++ odd) both 0 2 8 ∷
    []
