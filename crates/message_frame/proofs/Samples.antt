-- Worked samples of frames.
use mathlib.Core.Path.{◌≡◌, refl}
use mathlib.Core.List.{[], ◌∷◌}
use Rattle.octets.specs.Number.{big_endian, octets_of}
use Rattle.octets.specs.Control.{following, coded, first_fit, least_code}
use Rattle.message_frame.specs.Frame.{read_refused, read_accepted, announced, prefixed, front_read, frame_read, shortest_prefix}

-- The last size of one octet, the first that takes two, and the largest.
pub shortest_prefixes :
    (shortest_prefix 251 ≡ 0xfb ∷ [])
    × (shortest_prefix 252 ≡ 0xfc ∷ 0xfc ∷ [])
    × (shortest_prefix 65536 ≡ 0xfe ∷ 0x00 ∷ 0x01 ∷ 0x00 ∷ 0x00 ∷ [])
unfolding shortest_prefix least_code first_fit octets_of
shortest_prefixes = (refl, refl, refl)

-- A cut prefix, an announced size beyond the limit and one beyond the buffer; an empty message, and a prefix that is longer than needed
-- with an octet beyond the message.
pub frames_read :
    (frame_read [] ≡ read_refused 3)
    × (frame_read (0xfe ∷ 0x00 ∷ 0x01 ∷ 0x00 ∷ []) ≡ read_refused 3)
    × (frame_read (0xfe ∷ 0x00 ∷ 0x01 ∷ 0x00 ∷ 0x01 ∷ []) ≡ read_refused 1)
    × (frame_read (0xfe ∷ 0x00 ∷ 0x01 ∷ 0x00 ∷ 0x00 ∷ []) ≡ read_refused 4)
    × (frame_read (0x00 ∷ []) ≡ read_accepted 1 1)
    × (frame_read (0xfd ∷ 0x00 ∷ 0x01 ∷ 0xc0 ∷ 0xc0 ∷ []) ≡ read_accepted 3 4)
unfolding frame_read front_read prefixed announced following coded big_endian
frames_read = (refl, refl, refl, refl, refl, refl)
