-- Wrong programs in the place of crudvim_decimals and tib_decimals::decimals.
use Prim.Native.Nat.{ℕ, ◌+◌, ◌*◌, ◌-◌, ◌/◌, ◌%◌, ◌^◌, ◌≤◌, ◌<◌}
use native.Mathlib.Omega.{arith}
use mathlib.Core.Path.{◌≡◌, refl, sym}
use mathlib.Core.Bool.{Bool, true, false, cond}
use lib.IntN.{ℤ, pos, neg_ℤ, pos-ne-negsuc}
use borrow.Author.Tests.{eqb-false}
use Rattle.tib_real.specs.Parts.{eight, negative, exponent}
use Rattle.tib_real.specs.WholeNumber.{signed, accepted, refused}
use Rattle.tib_real.specs.declared.types.WholeNumber.{WholeNumber}
use Rattle.tib_decimals.specs.InDecimals.{scaled, rounded, in_decimals}
use Rattle.wrong_programs.specs.Kinds.{RuledOut, Rejects, Accepts, Invents, SeesOnly, always, due}
use Rattle.wrong_programs.specs.Reals.{HintedReal, HintedCall, decimals}
use Rattle.wrong_programs.proofs.RulingOut.{Sample, given, rejects, accepts, invents, sees_only, pos_differ, neg_differ}
use Rattle.wrong_programs.proofs.Computing.{tib}

abbrev hinted : ℕ → ℕ → HintedReal
hinted bits hint = record { bits = bits; hint = hint; hinted = true }

-- 1.125 in thousandths and in hundredths, and -1.125 in hundredths.
thousandths : Sample decimals
unfolding tib
thousandths = given (hinted 0x3ff2000000000000 19) (accepted (pos 1125)) tt refl

hundredths : Sample decimals
unfolding tib
hundredths = given (hinted 0x3ff2000000000000 18) (accepted (pos 112)) tt refl

minus_hundredths : Sample decimals
unfolding tib
minus_hundredths = given (hinted 0xbff2000000000000 18) (accepted (neg_ℤ (pos 112))) tt refl

-- 0.75 and -0.075 in tenths; 1 with the hints 19 and 16, and without a hint; minus zero; infinity; the first number out of range.
tenths : Sample decimals
unfolding tib
tenths = given (hinted 0x3fe8000000000000 17) (accepted (pos 8)) tt refl

minus_one : Sample decimals
unfolding tib
minus_one = given (hinted 0xbfb3333333333333 17) (accepted (neg_ℤ (pos 1))) tt refl

one : Sample decimals
unfolding tib
one = given (hinted 0x3ff0000000000000 19) (accepted (pos 1000)) tt refl

hint_16 : Sample decimals
unfolding tib
hint_16 = given (hinted 0x3ff0000000000000 16) refused tt refl

no_hint : Sample decimals
unfolding tib
no_hint = given (record { bits = 0x3ff0000000000000; hint = 19; hinted = false }) refused tt refl

minus_zero : Sample decimals
unfolding tib
minus_zero = given (hinted 0x8000000000000000 17) (accepted (pos 0)) tt refl

infinity : Sample decimals
unfolding tib
infinity = given (hinted 0x7ff0000000000000 17) refused tt refl

out_of_range : Sample decimals
unfolding tib
out_of_range = given (hinted 0x430a36e2eb1c432d 20) refused tt refl

abbrev refusal : WholeNumber → ℕ
refusal a = a.refusal

abbrev number : WholeNumber → ℤ
number a = a.value

-- The contract accepts the call.
abbrev accepts_it : HintedCall → Type 0
accepts_it = due decimals refusal 0

-- It rejects all reals, or all but zero.
abbrev not_zero : HintedCall → Type 0
not_zero x = x.value.bits % 2 ^ 63 ≡ 0 → ⊥

pub rejects_all : RuledOut (Rejects refusal not_zero) decimals
unfolding tenths
rejects_all = rejects refusal not_zero tenths (eqb-false 0x3fe8000000000000 0 refl) refl

-- It rejects minus zero.
abbrev is_minus_zero : HintedCall → Type 0
is_minus_zero x = x.value.bits ≡ 0x8000000000000000

pub rejects_minus_zero : RuledOut (Rejects refusal is_minus_zero) decimals
unfolding minus_zero
rejects_minus_zero = rejects refusal is_minus_zero minus_zero refl refl

-- It accepts the hint 16, where the rounded number is in range.
abbrev number_with_hint_16 : HintedCall → Type 0
number_with_hint_16 x = (x.value.hinted ≡ true) × (x.value.hint ≡ 16) × ((in_decimals x.value.bits 0).refusal ≡ 0)

pub accepts_hint_16 : RuledOut (Accepts refusal number_with_hint_16) decimals
unfolding hint_16 tib
accepts_hint_16 = accepts refusal number_with_hint_16 hint_16 (refl, refl, refl) (eqb-false 17 0 refl)

-- It accepts a real without a hint, where the number in its place would do.
abbrev number_in_place_of_hint : HintedCall → Type 0
number_in_place_of_hint x = (x.value.hinted ≡ false) × (17 ≤ x.value.hint) × (x.value.hint ≤ 25) × ((in_decimals x.value.bits (x.value.hint - 16)).refusal ≡ 0)

pub accepts_no_hint : RuledOut (Accepts refusal number_in_place_of_hint) decimals
unfolding no_hint tib
accepts_no_hint = accepts refusal number_in_place_of_hint no_hint (refl, omega arith, omega arith, refl) (eqb-false 17 0 refl)

-- It accepts infinities and not-a-numbers, or numbers that 64 bits do not hold.
abbrev no_number : HintedCall → Type 0
no_number x = exponent eight x.value.bits ≡ 2047

pub accepts_no_number : RuledOut (Accepts refusal no_number) decimals
unfolding infinity tib
accepts_no_number = accepts refusal no_number infinity refl (eqb-false 17 0 refl)

abbrev too_large : HintedCall → Type 0
too_large x = 2 ^ 63 < rounded x.value.bits (x.value.hint - 16)

pub accepts_too_large : RuledOut (Accepts refusal too_large) decimals
unfolding out_of_range tib
accepts_too_large = accepts refusal too_large out_of_range (omega arith) (eqb-false 17 0 refl)

-- Every answer is 0.
pub answers_0 : RuledOut (Invents number (λ (x : HintedCall). pos 0) always) decimals
unfolding tenths
answers_0 = invents number (λ (x : HintedCall). pos 0) always tenths tt (pos_differ 8 0 refl)

-- The answer is the same each time, or is made from the hint, or from the bits.
pub bits_ignored : RuledOut (SeesOnly (λ (x : HintedCall). x.value.hint) number accepts_it) decimals
unfolding thousandths one
bits_ignored = sees_only (λ (x : HintedCall). x.value.hint) number accepts_it thousandths one refl refl refl (pos_differ 1125 1000 refl)

pub hint_ignored : RuledOut (SeesOnly (λ (x : HintedCall). x.value.bits) number accepts_it) decimals
unfolding thousandths hundredths
hint_ignored = sees_only (λ (x : HintedCall). x.value.bits) number accepts_it thousandths hundredths refl refl refl (pos_differ 1125 112 refl)

-- ---- another rounding

-- The sign of x and the size of x times 10 ^ k, over 2 ^ 1074.
abbrev minus : HintedCall → Bool
minus x = negative eight x.value.bits

abbrev size : HintedCall → ℕ
size x = scaled x.value.bits (x.value.hint - 16)

-- What follows the point is cut off.
abbrev truncation : HintedCall → ℤ
truncation x = signed (minus x) (size x / 2 ^ 1074)

pub truncates : RuledOut (Invents number truncation accepts_it) decimals
unfolding tenths tib
truncates = invents number truncation accepts_it tenths refl (pos_differ 8 7 refl)

-- Ties go to the larger of the two numbers, or to the one farther from zero.
abbrev half_up : HintedCall → ℤ
half_up x = signed (minus x) ((2 * size x + 2 ^ 1074 - cond (minus x) 1 0) / (2 * 2 ^ 1074))

pub ties_up : RuledOut (Invents number half_up accepts_it) decimals
unfolding hundredths tib
ties_up = invents number half_up accepts_it hundredths refl (pos_differ 112 113 refl)

abbrev half_away : HintedCall → ℤ
half_away x = signed (minus x) ((2 * size x + 2 ^ 1074) / (2 * 2 ^ 1074))

pub ties_away_from_zero : RuledOut (Invents number half_away accepts_it) decimals
unfolding minus_hundredths tib
ties_away_from_zero = invents number half_away accepts_it minus_hundredths refl (neg_differ 111 112 refl)

-- ---- another product, another sign

-- With one digit more.
abbrev one_digit_more : HintedCall → ℤ
one_digit_more x = signed (minus x) (rounded x.value.bits (x.value.hint - 15))

pub next_power : RuledOut (Invents number one_digit_more accepts_it) decimals
unfolding thousandths tib
next_power = invents number one_digit_more accepts_it thousandths refl (pos_differ 1125 11250 refl)

-- Where the whole part of the product is 0, the answer loses its sign: it is 1 in place of -1.
abbrev whole_part_0 : HintedCall → Type 0
whole_part_0 x = size x / 2 ^ 1074 ≡ 0

pub sign_lost : RuledOut (Invents number (λ (x : HintedCall). pos (rounded x.value.bits (x.value.hint - 16))) whole_part_0) decimals
unfolding minus_one tib
sign_lost =
    invents number (λ (x : HintedCall). pos (rounded x.value.bits (x.value.hint - 16))) whole_part_0 minus_one refl
    (λ e. pos-ne-negsuc 1 0 (sym e))
