-- Laws for reading a big-endian number octet by octet.
use Prim.Native.Nat.{ℕ, ◌+◌, ◌*◌, ◌^◌, ◌≤◌, ◌<◌}
use native.Mathlib.Numerals.{add-one}
use native.Mathlib.Omega.{arith}
use mathlib.Core.Path.{◌≡◌, refl, ap, ◌∙◌}
use mathlib.Core.List.{List, []}
use mir.Syntax.{w8}
use mir.Val.{Fits}
use lib.ListN.{length, get_or, take, drop, take-append-drop}
use lib.Seq.{take-suc, take_all, length-take-le}
use Rattle.octets.specs.Number.{big_endian}
use Rattle.octets.proofs.Number.{number_snoc, number_below_most, octets_before, octets_of_slice}

-- No octets hold 0.
pub no_octets : 0 ≡ big_endian []
unfolding big_endian
no_octets = refl

-- The octet at i is the last digit of what it and the octets before it hold.
pub next_octet : (s : List ℕ) (v i : ℕ) → i < length s → v ≡ big_endian (take i s) → v * 256 + get_or s i 0 ≡ big_endian (take (i + 1) s)
next_octet s v i h e =
    rw (add-one i, take-suc s i 0 h, number_snoc (take i s) (get_or s i 0)) (ap (λ (n : ℕ). n * 256 + get_or s i 0) e)

-- There is room for one octet more while fewer than eight are read.
pub room : (s : List ℕ) (i : ℕ) → ((k : ℕ) → Fits w8 (get_or s k 0)) → i < length s → length s ≤ 8 → big_endian (take i s) * 256 + 255 < 2 ^ 64
room s i o h k =
    let l = length-take-le i s (omega arith) in
    let b = number_below_most (take i s) 7 (octets_before (take i s) (drop i s) (rw (take-append-drop i s) (octets_of_slice s (λ n. (o n).fits)))) (omega arith) in
    omega arith

pub all_octets : (s : List ℕ) (v i : ℕ) → length s ≤ i → v ≡ big_endian (take i s) → v ≡ big_endian s
all_octets s v i h e = e ∙ ap big_endian (take_all i s h)

-- What `big_endian` needs at each turn.
pub ruleset turns = (no_octets, next_octet, room, take_all)
