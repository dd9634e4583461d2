-- `put_octets_by_octets` meets its contract: a string or a text is put after the tag is looked up.
use native.Mathlib.Omega.{arith}
use mathlib.Core.Path.{refl}
use Prim.Native.Nat.{ℕ}
use Rattle.std.proofs.lemmas.Result.{err_from_is_err_and}
use Rattle.writer_state.specs.Answer.{answer, buffer}
use Rattle.writer_state.specs.ByOctets.{answer_octets, buffer_octets, usable_for}
use Rattle.writer_state.specs.Calls.{readable}
use Rattle.writer_state.specs.internal.Tags.{fits}
use Rattle.writer_put.proofs.ByTag.{known_put, known_buffer, refused_put, refused_buffer, octets_put, octets_after, octets_may}
use Rattle.writer_put.proofs.by_octets.put_octets_by_octets.Goals as goal

pub returns-in_err-k-clause-value : goal.returns-in_err-k-clause-value
unfolding answer_octets buffer_octets usable_for answer buffer fits
returns-in_err-k-clause-value c =
    let a = c.args in
    let d = a.out.now in
    let p = err_from_is_err_and c.from_residual.result c.from_residual.ensures.1 in
    rw (p.1, p.2) (refused_put a.s a.tag 3 (λ (kind : ℕ). readable kind a.xs.now) a.xs.now d c.in_err-k.field-0.0 (octets_put a.s a.tag 3 (λ (kind : ℕ). readable kind a.xs.now) a.xs.now d a.table.now c.in_err-k.ensures))

pub returns-in_err-k-clause-out_after : goal.returns-in_err-k-clause-out_after
unfolding answer_octets buffer_octets usable_for answer buffer fits
returns-in_err-k-clause-out_after c =
    let a = c.args in
    let d = a.out.now in
    refused_buffer a.s a.tag 3 (λ (kind : ℕ). readable kind a.xs.now) a.xs.now d c.in_err-k.field-0.0 (octets_after a.s a.tag 3 (λ (kind : ℕ). readable kind a.xs.now) a.xs.now d a.table.now c.in_err-k.ensures)

pub put_plain-requires : goal.put_plain-requires
put_plain-requires c =
    let a = c.args in
    let xs = a.xs.now in
    octets_may a.s a.tag 3 (λ (kind : ℕ). readable kind a.xs.now) xs a.out.now a.table.now c.in_ok-k.ensures (omega arith) refl

pub returns-clause-value : goal.returns-clause-value
unfolding answer_octets buffer_octets usable_for answer buffer fits
returns-clause-value c =
    let a = c.args in
    let d = a.out.now in
    let xs = a.xs.now in
    known_put a.s a.tag 3 (λ (kind : ℕ). readable kind a.xs.now) xs d c.in_ok-k.k c.put_plain.ensures.value (octets_put a.s a.tag 3 (λ (kind : ℕ). readable kind a.xs.now) xs d a.table.now c.in_ok-k.ensures)

pub returns-clause-out_after : goal.returns-clause-out_after
unfolding answer_octets buffer_octets usable_for answer buffer fits
returns-clause-out_after c =
    let a = c.args in
    let d = a.out.now in
    let xs = a.xs.now in
    known_buffer a.s a.tag 3 (λ (kind : ℕ). readable kind a.xs.now) xs d c.in_ok-k.k c.put_plain.ensures.out_after (octets_after a.s a.tag 3 (λ (kind : ℕ). readable kind a.xs.now) xs d a.table.now c.in_ok-k.ensures)
