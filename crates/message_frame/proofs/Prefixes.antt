-- Laws of the shortest prefix of a size.
use Prim.Native.Nat.{ℕ, ◌+◌, ◌^◌, ◌≤◌, ◌<◌}
use native.Mathlib.Omega.{arith}
use mathlib.Core.Path.{◌≡◌}
use mathlib.Core.List.{List, ◌∷◌}
use lib.ListN.{length, length-append}
use borrow.Author.Tests.{lt-ltb, le-ltb}
use Rattle.octets.specs.Number.{octets_of}
use Rattle.octets.specs.Control.{first_fit, least_code}
use Rattle.octets.proofs.Number.{length_octets_of}
use Rattle.octets.specs.ControlPart.{Form}
use Rattle.octets.proofs.Codes.{Rising, least_code_form}
use Rattle.octets_put.proofs.Least.{least_code_octets_of}
use Rattle.message_frame.specs.Frame.{frame_code, shortest_prefix, framed}
use Rattle.message_frame.specs.internal.Lead.{LeastPrefix}

-- A size that is the prefix itself.
pub prefix_direct : (size : ℕ) → size < 0xfc → LeastPrefix size size 0
unfolding least_code
prefix_direct size h = record { led = rw (lt-ltb size 0xfc h); wide = rw (lt-ltb size 0xfc h); few = omega arith }

-- A first octet that says in how many octets the size follows.
marked : (size octet w : ℕ) → w ≤ 4 → least_code frame_code size ≡ (octet, octets_of w size) → LeastPrefix size octet w
marked size octet w b e = record { led = rw e; wide = rw (e, length_octets_of w size); few = b }

pub prefix_one : (size : ℕ) → 0xfc ≤ size → size < 0x100 → LeastPrefix size 0xfc 1
unfolding least_code first_fit
prefix_one size a b = marked size 0xfc 1 (omega arith) (rw (le-ltb size 0xfc a, lt-ltb size 0x100 b))

pub prefix_two : (size : ℕ) → 0x100 ≤ size → size < 0x1_0000 → LeastPrefix size 0xfd 2
unfolding least_code first_fit
prefix_two size a b = marked size 0xfd 2 (omega arith) (rw (le-ltb size 0xfc (omega arith), le-ltb size 0x100 a, lt-ltb size 0x1_0000 b))

pub prefix_four : (size : ℕ) → 0x1_0000 ≤ size → size < 0x1_0000_0000 → LeastPrefix size 0xfe 4
unfolding least_code first_fit
prefix_four size a b =
    marked size 0xfe 4 (omega arith)
    (rw (le-ltb size 0xfc (omega arith), le-ltb size 0x100 (omega arith), le-ltb size 0x1_0000 a, lt-ltb size 0x1_0000_0000 b))

-- What `shortest_prefix` returns.
pub ruleset prefixes = (prefix_direct, prefix_one, prefix_two, prefix_four)

-- The shortest prefix, octet by octet.
pub prefix_parts : (size octet w : ℕ) → LeastPrefix size octet w → shortest_prefix size ≡ octet ∷ octets_of w size
unfolding shortest_prefix
prefix_parts size octet w p = rw (p.led, p.wide, ← least_code_octets_of frame_code size)

pub framed_length : (m : List ℕ) (octet w : ℕ) → LeastPrefix (length m) octet w → length (framed m) ≡ 1 + w + length m
unfolding framed
framed_length m octet w p =
    rw (prefix_parts (length m) octet w p, length-append (octets_of w (length m)) m, length_octets_of w (length m)) (omega arith)

pub frame_rising : Rising 0 frame_code.widths
unfolding Rising
frame_rising = (omega arith, (omega arith, (omega arith, (omega arith, tt))))

-- The shortest prefix stands for its size.
pub prefix_form : (size : ℕ) → size < 256 ^ 8 → Form frame_code size (least_code frame_code size).0 (least_code frame_code size).1
prefix_form size h = least_code_form frame_code size (record { rising = frame_rising; widest = 3; inside = omega arith; below = h })
