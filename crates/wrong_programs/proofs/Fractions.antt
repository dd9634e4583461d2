-- Wrong programs in the place of crudvim_fractions and tib_real::fractions.
use Prim.Native.Nat.{ℕ, ◌%◌, ◌^◌}
use mathlib.Core.Path.{◌≡◌, refl}
use mathlib.Core.Bool.{true}
use lib.IntN.{ℤ, pos}
use borrow.Author.Tests.{eqb-false}
use Rattle.tib_real.specs.InFractions.{in_fractions}
use Rattle.tib_real.specs.WholeNumber.{accepted, refused}
use Rattle.tib_real.specs.declared.types.WholeNumber.{WholeNumber}
use Rattle.wrong_programs.specs.Kinds.{RuledOut, Rejects, Accepts, Invents, SeesOnly, always, due}
use Rattle.wrong_programs.specs.Reals.{HintedReal, HintedCall, fractions}
use Rattle.wrong_programs.proofs.RulingOut.{Sample, given, rejects, accepts, invents, sees_only, pos_differ}
use Rattle.wrong_programs.proofs.Computing.{tib}

abbrev hinted : ℕ → ℕ → HintedReal
hinted bits hint = record { bits = bits; hint = hint; hinted = true }

-- 3.25 with the hints 2 and 3; 1 with the hints 2 and 0; minus zero.
quarters : Sample fractions
unfolding tib
quarters = given (hinted 0x400a000000000000 2) (accepted (pos 13)) tt refl

eighths : Sample fractions
unfolding tib
eighths = given (hinted 0x400a000000000000 3) (accepted (pos 26)) tt refl

one : Sample fractions
unfolding tib
one = given (hinted 0x3ff0000000000000 2) (accepted (pos 4)) tt refl

hint_0 : Sample fractions
unfolding tib
hint_0 = given (hinted 0x3ff0000000000000 0) refused tt refl

minus_zero : Sample fractions
unfolding tib
minus_zero = given (hinted 0x8000000000000000 1) (accepted (pos 0)) tt refl

abbrev refusal : WholeNumber → ℕ
refusal a = a.refusal

abbrev number : WholeNumber → ℤ
number a = a.value

-- The contract accepts the call.
abbrev accepts_it : HintedCall → Type 0
accepts_it = due fractions refusal 0

-- It rejects all reals, or all but zero.
abbrev not_zero : HintedCall → Type 0
not_zero x = x.value.bits % 2 ^ 63 ≡ 0 → ⊥

pub rejects_all : RuledOut (Rejects refusal not_zero) fractions
unfolding quarters
rejects_all = rejects refusal not_zero quarters (eqb-false 0x400a000000000000 0 refl) refl

-- It rejects minus zero.
abbrev is_minus_zero : HintedCall → Type 0
is_minus_zero x = x.value.bits ≡ 0x8000000000000000

pub rejects_minus_zero : RuledOut (Rejects refusal is_minus_zero) fractions
unfolding minus_zero
rejects_minus_zero = rejects refusal is_minus_zero minus_zero refl refl

-- It accepts the hint 0 for a real that is whole.
abbrev whole_with_hint_0 : HintedCall → Type 0
whole_with_hint_0 x = (x.value.hinted ≡ true) × (x.value.hint ≡ 0) × ((in_fractions x.value.bits 0).refusal ≡ 0)

pub accepts_hint_0 : RuledOut (Accepts refusal whole_with_hint_0) fractions
unfolding hint_0
accepts_hint_0 = accepts refusal whole_with_hint_0 hint_0 (refl, refl, refl) (eqb-false 17 0 refl)

-- Every answer is 0.
pub answers_0 : RuledOut (Invents number (λ (x : HintedCall). pos 0) always) fractions
unfolding quarters
answers_0 = invents number (λ (x : HintedCall). pos 0) always quarters tt (pos_differ 13 0 refl)

-- The answer is the same each time, or is made from the hint, or from the bits.
pub bits_ignored : RuledOut (SeesOnly (λ (x : HintedCall). x.value.hint) number accepts_it) fractions
unfolding quarters one
bits_ignored = sees_only (λ (x : HintedCall). x.value.hint) number accepts_it quarters one refl refl refl (pos_differ 13 4 refl)

pub hint_ignored : RuledOut (SeesOnly (λ (x : HintedCall). x.value.bits) number accepts_it) fractions
unfolding quarters eighths
hint_ignored = sees_only (λ (x : HintedCall). x.value.bits) number accepts_it quarters eighths refl refl refl (pos_differ 13 26 refl)

-- The product is by 2 ^ (h + 1): where the number should be 13, it is twice that.
abbrev thirteen : HintedCall → Type 0
thirteen = due fractions number (pos 13)

pub next_power : RuledOut (Invents number (λ (x : HintedCall). pos 26) thirteen) fractions
unfolding quarters
next_power = invents number (λ (x : HintedCall). pos 26) thirteen quarters refl (pos_differ 13 26 refl)
