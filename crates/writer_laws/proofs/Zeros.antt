-- The writer returns 0 where specs/Zeros.antt says so.
use Prim.Native.Nat.{ℕ}
use mathlib.Core.Path.{◌≡◌, refl}
use mathlib.Core.List.{List}
use borrow.Author.Tests.{ne_eqb}
use Rattle.table.specs.declared.Table.{Table}
use Rattle.writer_state.specs.Call.{Call, put_uint, put_int, put_octets, open_field, close_field}
use Rattle.writer_state.specs.Answer.{answer, writer}
use Rattle.writer_state.specs.Calls.{call_result, put, opening, closing, start_refusal, begun, started, finish_refusal, finished}
use Rattle.writer_state.specs.declared.State.{State}
use Rattle.writer_laws.specs.Zeros.{no_state, Zeros}

call_place : (t : Table) (s : State) (d : List ℕ) (c : Call) → (answer t s d c).place ≡ 0
unfolding answer put opening closing call_result
call_place t s d (put_uint tag v) = refl
call_place t s d (put_int tag z) = refl
call_place t s d (put_octets tag xs) = refl
call_place t s d (open_field tag) = refl
call_place t s d close_field = refl

start_zeros : (t : Table) (revision number len : ℕ) → ((started t revision number len).refusal ≡ 0 → ⊥) → (started t revision number len).state ≡ no_state
unfolding started call_result begun
start_zeros t revision number len ne = rw (ne_eqb (start_refusal t revision number len) 0 ne) refl

finish_zero : (s : State) → ((finished s).refusal ≡ 0 → ⊥) → (finished s).start ≡ 0
unfolding finished
finish_zero s ne = rw (ne_eqb (finish_refusal s) 0 ne) refl

pub zeros : Zeros writer
unfolding started call_result finished
zeros =
    record {
      start_place = λ t revision number len. refl;
      call_place = call_place;
      finish_place = λ s. refl;
      start_refused = start_zeros;
      finish_refused = finish_zero;
    }
