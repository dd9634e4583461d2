-- `put_least` meets its contract: a refusal, or the field stored before the earlier ones.
use mathlib.Core.Path.{refl, sym}
use mathlib.Core.Bool.{true}
use Rattle.octets.specs.Number.{octets_of}
use Rattle.octets.proofs.Number.{length_octets_of}
use Rattle.writer_put.proofs.PutResults.{too_long, accepted}
use Rattle.writer_put.proofs.put_least.Goals as goal

pub returns-then-not-has_room : goal.returns-then-not-has_room
returns-then-not-has_room c =
    let a = c.args in
    let w = a.least.width in
    let p = too_long a.s a.k.mask a.tag true (octets_of w a.least.bits) a.out.now refl w (sym (length_octets_of w a.least.bits)) c.if-not-has_room.ensures in
    record { value = rw c.at.ensures p.value; out_after = p.out_after }

pub returns : goal.returns
returns c =
    let a = c.args in
    let w = a.least.width in
    let n = c.store_number in
    let m = c.masked-after in
    let p = accepted a.s a.k.mask a.tag true (octets_of w a.least.bits) a.out.now refl w (sym (length_octets_of w a.least.bits)) c.if-not-has_room.ensures
    n.result m.result n.new.out m.ensures n.ensures in
    record { value = p.value; out_after = p.out_after }
