-- `copy` meets its contract.
use native.Mathlib.Omega.{arith}
use Prim.Native.Nat.{◌+◌, ◌-◌, ◌≤◌}
use mathlib.Core.Path.{◌≡◌, sym, ◌∙◌}
use lib.ListN.{length}
use lib.Seq.{drop-drop}
use borrow.Author.Tests.{leb-true}
use Rattle.octets_store.proofs.Stores.{stored_parts}
use Rattle.writer_words.proofs.copy.Goals as goal

pub returns-then-has_room : goal.returns-then-has_room
returns-then-has_room c =
    let a = c.args in
    let n = length a.s.now in
    let whole : a.at + n - a.at ≡ n = omega arith in
    let room : a.at + n ≤ length a.out.now = leb-true (a.at + n) (length a.out.now) (sym c.has_room.ensures ∙ c.if-has_room.true) in
    rw (c.copy_from_slice.ensures.after, whole, drop-drop n a.at a.out.now) (sym (stored_parts a.out.now a.at a.s.now room))
