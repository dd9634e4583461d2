-- `unmarked_at` tests tag and length, and reads the five octets of the entry.
use Prim.Native.Nat.{ℕ, ◌*◌}
use native.Mathlib.Omega.{arith}
use mathlib.Core.Path.{◌≡◌, refl, sym}
use mathlib.Core.Bool.{Bool, true, false}
use mathlib.Core.List.{List}
use lib.ListN.{drop}
use Rattle.std.specs.Prelude.{IfSome}
use Rattle.std.specs.Bool.{then_some}
use Rattle.table.specs.Entry.{entry}
use Rattle.table.specs.Load.{in_range}
use Rattle.table_index.specs.internal.Record.{record_of, sized_word, Unmarked}
use Rattle.table_index.proofs.RecordLaws.{announced_read, right_five}
use Rattle.table_index.proofs.record.unmarked_at.Goals as goal

-- The record of a word without a mark, if its entry is in range.
unmarked : (s : List ℕ) (x : ℕ) (b : Bool) → b ≡ in_range (entry (x * 256)) → sized_word (x * 256) 8 ≡ record_of s → IfSome (then_some b (x * 256)) (Unmarked s)
unfolding sized_word
unmarked s x true p e = record { mark = omega arith; is = rw (← p) at e }
unmarked s x false p e = tt

pub returns : goal.returns
returns c =
    let a = c.args in
    let s = a.s.now in
    let five = announced_read s a.at 0 5 (omega arith) (sym c.if-s-at-ne0.false) (sym c.if-s-at-ne5.false) in
    let w = c.five-word in
    rw c.then_some.ensures
    (unmarked (drop a.at s) w.result c.in_range.result c.in_range.ensures (right_five s a.at five c.if-s-at-ne1.false w.ensures.0 refl (omega arith)))
