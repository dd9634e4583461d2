-- The results of refused and of accepted calls: the state and the buffer before the call, or those after it.
use Prim.Native.Nat.{ℕ}
use mathlib.Core.Path.{◌≡◌, refl}
use mathlib.Core.Bool.{false}
use mathlib.Core.List.{List}
use lib.Dec.{eqb}
use borrow.Author.Tests.{ne_eqb}
use Rattle.reading.specs.Refusals.{number}
use Rattle.reading.specs.declared.Refusal.{Refusal}
use Rattle.reading.specs.declared.Refusal.TheVariants as TheVariants
use Rattle.writer_state.specs.Calls.{call_result, buffer_after}
use Rattle.writer_state.specs.declared.State.{State}
use Rattle.writer_state.specs.declared.Written.{Written}

-- No refusal has the number 0.
pub number_over : (r : Refusal) → eqb (number r) 0 ≡ false
number_over TheVariants.TooLong = refl
number_over TheVariants.Table = refl
number_over TheVariants.Cut = refl
number_over TheVariants.PastTheEnd = refl
number_over TheVariants.TooDeep = refl
number_over TheVariants.NumberTooWide = refl
number_over TheVariants.Text = refl
number_over TheVariants.TagOrKind = refl
number_over TheVariants.NoRoom = refl
number_over TheVariants.State = refl
number_over TheVariants.NothingOpen = refl
number_over TheVariants.StillOpen = refl
number_over TheVariants.Magic = refl
number_over TheVariants.Size = refl
number_over TheVariants.Name = refl
number_over TheVariants.TypeSizeOrHint = refl
number_over TheVariants.NotInFractions = refl
number_over TheVariants.Absent = refl
number_over TheVariants.NotInDictionary = refl
number_over TheVariants.Repeated = refl

pub refused_result : (got n : ℕ) (before after given : State) → got ≡ n → (got ≡ 0 → ⊥) → given ≡ before
    → ◌≡◌ {A = Written} (record { refusal = got; place = 0; state = given }) (call_result n before after)
unfolding call_result
refused_result got n before after given e ne f = rw (← e, ne_eqb got 0 ne, f) refl

pub accepted_result : (n : ℕ) (before after given : State) → n ≡ 0 → given ≡ after
    → ◌≡◌ {A = Written} (record { refusal = 0; place = 0; state = given }) (call_result n before after)
unfolding call_result
accepted_result n before after given e f = rw (e, f) refl

pub refused_buffer : (got n : ℕ) (before after : List ℕ) → got ≡ n → (got ≡ 0 → ⊥) → before ≡ buffer_after n before after
unfolding buffer_after
refused_buffer got n before after e ne = rw (← e, ne_eqb got 0 ne) refl

pub accepted_buffer : (n : ℕ) (before after given : List ℕ) → n ≡ 0 → given ≡ after → given ≡ buffer_after n before after
unfolding buffer_after
accepted_buffer n before after given e f = rw e f
