-- `put_plain` meets its contract: a refusal, or the field stored before the earlier ones.
use mathlib.Core.Path.{refl, sym}
use lib.ListN.{length}
use Rattle.table.specs.Entry.{kind_number}
use Rattle.writer_state.specs.Calls.{readable}
use Rattle.writer_put.proofs.PutResults.{not_text, too_long, accepted}
use Rattle.writer_put.proofs.put_plain.Goals as goal

pub returns-then-not-readable : goal.returns-then-not-readable
returns-then-not-readable c =
    let a = c.args in
    let xs = a.xs.now in
    let p = not_text a.s a.k.mask a.tag (readable (kind_number a.k.kind) xs) xs a.out.now (sym c.if-not-readable.ensures) in
    record { value = rw c.at.ensures p.value; out_after = p.out_after }

pub returns-then-not-has_room : goal.returns-then-not-has_room
returns-then-not-has_room c =
    let a = c.args in
    let xs = a.xs.now in
    let p = too_long a.s a.k.mask a.tag (readable (kind_number a.k.kind) xs) xs a.out.now (sym c.if-not-readable.ensures) (length xs) refl c.if-not-has_room.ensures in
    record { value = rw c.at-then-not-has_room.ensures p.value; out_after = p.out_after }

pub returns : goal.returns
returns c =
    let a = c.args in
    let xs = a.xs.now in
    let n = c.store_plain in
    let m = c.masked-after in
    let p = accepted a.s a.k.mask a.tag (readable (kind_number a.k.kind) xs) xs a.out.now (sym c.if-not-readable.ensures) (length xs) refl c.if-not-has_room.ensures
    n.result m.result n.new.out m.ensures n.ensures in
    record { value = p.value; out_after = p.out_after }
