-- A real of four octets as one of eight.
use Rattle.std.specs.Prelude.{ℕ, ◌+◌, ◌-◌, ◌*◌, ◌^◌, Bool, cond, ◌==◌}
use Rattle.std.specs.Int.Count.{count_leading_zeros}
use Rattle.tib_real.specs.Parts.{four, negative, exponent, fraction}

-- The bits of eight octets by their sign, exponent and fraction.
unfoldable pub packed : Bool → ℕ → ℕ → ℕ
packed s x t = cond s (2 ^ 63) 0 + (x * 2 ^ 52 + t)

-- A subnormal real becomes normal: the fraction moves up until its highest digit stands before the fraction, and the exponent falls by as
-- many places from 897, the exponent of the smallest normal real of four octets.
unfoldable pub normalized : Bool → ℕ → ℕ
normalized s t =
    let z = count_leading_zeros 24 t in
    packed s (897 - z) ((t * 2 ^ z - 2 ^ 23) * 2 ^ 29)

-- The fraction has 29 bits more, and the exponent's middle is 1023 in place of 127. Infinities and not-a-numbers keep an exponent of ones
-- alone and so stay what they are; a not-a-number keeps its fraction bits, moved up. Zero has no digit to move.
unfoldable pub widened : ℕ → ℕ
widened b =
    let s = negative four b in
    let x = exponent four b in
    let t = fraction four b in
    cond (x == 255) (packed s 2047 (t * 2 ^ 29))
    (cond (x == 0) (cond (t == 0) (packed s 0 0) (normalized s t))
    (packed s (x + 896) (t * 2 ^ 29)))
