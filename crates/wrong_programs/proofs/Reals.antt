-- Wrong programs in the place of tib_real::real.
use Prim.Native.Nat.{ℕ, ◌+◌, ◌*◌, ◌/◌, ◌%◌, ◌^◌}
use native.Mathlib.Omega.{arith}
use mathlib.Core.Path.{◌≡◌, refl}
use mathlib.Core.Bool.{Bool, true, false, ◌&&◌, true≢false}
use mathlib.Core.List.{List, [], ◌∷◌}
use lib.ListN.{length}
use lib.Dec.{T, eqb, ltb}
use lib.Ieee as ieee
use lib.Ieee.{fin}
use lib.IntN.{pos}
use borrow.Author.Tests.{eqb-false}
use Rattle.octets.specs.Number.{big_endian}
use Rattle.tib_real.specs.FromOctets.{with_bits}
use Rattle.tib_real.specs.declared.types.Real.{Real}
use Rattle.wrong_programs.specs.Kinds.{RuledOut, Invents, SeesOnly, always}
use Rattle.wrong_programs.specs.Reals.{RealInput, RealCall, real}
use Rattle.wrong_programs.proofs.RulingOut.{Sample, given, invents, sees_only}
use Rattle.wrong_programs.proofs.Computing.{tib}

abbrev read : List ℕ → ℕ → Bool → RealInput
read contents hint hinted = record { contents = contents; hint = hint; hinted = hinted }

-- 1 in four octets, with the hint 2 and with none, and 0.
one : Sample real
unfolding tib
one = given (read (0x3f ∷ 0x80 ∷ 0 ∷ 0 ∷ []) 2 true) (with_bits 0x3ff0000000000000 2 true) tt refl

unhinted : Sample real
unfolding tib
unhinted = given (read (0x3f ∷ 0x80 ∷ 0 ∷ 0 ∷ []) 0 false) (with_bits 0x3ff0000000000000 0 false) tt refl

zero : Sample real
unfolding tib
zero = given (read (0 ∷ 0 ∷ 0 ∷ 0 ∷ []) 2 true) (with_bits 0 2 true) tt refl

abbrev bits : Real → ℕ
bits r = r.bits

-- The bits, or the value, are the same each time, or are made from the hint.
abbrev hint_of : RealCall → ℕ × Bool
hint_of x = (x.value.hint, x.value.hinted)

pub octets_ignored_in_bits : RuledOut (SeesOnly hint_of bits always) real
unfolding one zero
octets_ignored_in_bits = sees_only hint_of bits always one zero tt tt refl (eqb-false 0x3ff0000000000000 0 refl)

pub octets_ignored_in_value : RuledOut (SeesOnly hint_of (λ (r : Real). r.value) always) real
unfolding one zero ieee.of_bits
octets_ignored_in_value =
    sees_only hint_of (λ (r : Real). r.value) always one zero tt tt refl
    (λ (e : fin false 1 (pos 0) ≡ fin false 0 (pos 0)). let d : ◌≡◌ {A = ℕ} 1 0 = cc in absurd (omega arith))

-- The bits of four octets are not widened.
abbrev has_four_octets : RealCall → Type 0
has_four_octets x = length x.value.contents ≡ 4

abbrev as_they_stand : RealCall → ℕ
as_they_stand x = big_endian x.value.contents

pub four_octets_as_they_are : RuledOut (Invents bits as_they_stand has_four_octets) real
unfolding one
four_octets_as_they_are = invents bits as_they_stand has_four_octets one refl (eqb-false 0x3ff0000000000000 0x3f800000 refl)

-- The exponent of four octets becomes one too large: of a power of two, whose other bits are 0.
abbrev power_of_two : RealCall → Type 0
power_of_two x = has_four_octets x × T (eqb (as_they_stand x % 2 ^ 23) 0 && ltb (as_they_stand x) (2 ^ 31))

pub exponent_too_large : RuledOut (Invents bits (λ (x : RealCall). (as_they_stand x / 2 ^ 23 + 897) * 2 ^ 52) power_of_two) real
unfolding one
exponent_too_large =
    invents bits (λ (x : RealCall). (as_they_stand x / 2 ^ 23 + 897) * 2 ^ 52) power_of_two one (refl, tt) (eqb-false 0x3ff0000000000000 0x4000000000000000 refl)

-- The hint, or whether there is one, is the same each time, or is made from the octets.
abbrev contents_of : RealCall → List ℕ
contents_of x = x.value.contents

pub hint_ignored : RuledOut (SeesOnly contents_of (λ (r : Real). r.hint) always) real
unfolding one unhinted
hint_ignored = sees_only contents_of (λ (r : Real). r.hint) always one unhinted tt tt refl (eqb-false 2 0 refl)

pub hinted_ignored : RuledOut (SeesOnly contents_of (λ (r : Real). r.hinted) always) real
unfolding one unhinted
hinted_ignored = sees_only contents_of (λ (r : Real). r.hinted) always one unhinted tt tt refl true≢false
