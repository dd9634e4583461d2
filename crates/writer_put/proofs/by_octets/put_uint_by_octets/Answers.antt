-- `put_uint_by_octets` meets its contract: the least octets of a number are put after the tag is looked up.
use native.Mathlib.Omega.{arith}
use mathlib.Core.Path.{refl, ◌∙◌}
use mathlib.Core.Bool.{true}
use Prim.Native.Nat.{ℕ}
use Rattle.std.proofs.lemmas.Result.{err_from_is_err_and}
use Rattle.octets.specs.Number.{octets_of, least_uint}
use Rattle.octets.proofs.Number.{uint_octets}
use Rattle.writer_state.specs.Answer.{answer, buffer}
use Rattle.writer_state.specs.ByOctets.{answer_octets, buffer_octets, usable_for}
use Rattle.writer_state.specs.internal.Tags.{fits}
use Rattle.writer_put.proofs.ByTag.{known_put, known_buffer, refused_put, refused_buffer, octets_put, octets_after, octets_may}
use Rattle.writer_put.proofs.by_octets.put_uint_by_octets.Goals as goal

pub returns-in_err-k-clause-value : goal.returns-in_err-k-clause-value
unfolding answer_octets buffer_octets usable_for answer buffer fits
returns-in_err-k-clause-value c =
    let a = c.args in
    let d = a.out.now in
    let p = err_from_is_err_and c.from_residual.result c.from_residual.ensures.1 in
    rw (p.1, p.2) (refused_put a.s a.tag 1 (λ (kind : ℕ). true) (least_uint a.v) d c.in_err-k.field-0.0 (octets_put a.s a.tag 1 (λ (kind : ℕ). true) (least_uint a.v) d a.table.now c.in_err-k.ensures))

pub returns-in_err-k-clause-out_after : goal.returns-in_err-k-clause-out_after
unfolding answer_octets buffer_octets usable_for answer buffer fits
returns-in_err-k-clause-out_after c =
    let a = c.args in
    let d = a.out.now in
    refused_buffer a.s a.tag 1 (λ (kind : ℕ). true) (least_uint a.v) d c.in_err-k.field-0.0 (octets_after a.s a.tag 1 (λ (kind : ℕ). true) (least_uint a.v) d a.table.now c.in_err-k.ensures)

pub put_least-requires : goal.put_least-requires
put_least-requires c =
    let a = c.args in
    let l = c.uint_least.result in
    let xs = octets_of l.width l.bits in
    octets_may a.s a.tag 1 (λ (kind : ℕ). true) xs a.out.now a.table.now c.in_ok-k.ensures (omega arith) refl

pub returns-clause-value : goal.returns-clause-value
unfolding answer_octets buffer_octets usable_for answer buffer fits
returns-clause-value c =
    let a = c.args in
    let d = a.out.now in
    let l = c.uint_least in
    let u = uint_octets l.result a.v l.ensures in
    let xs = octets_of l.result.width l.result.bits in
    known_put a.s a.tag 1 (λ (kind : ℕ). true) xs d c.in_ok-k.k c.put_least.ensures.value (octets_put a.s a.tag 1 (λ (kind : ℕ). true) xs d a.table.now c.in_ok-k.ensures) ∙ rw u refl

pub returns-clause-out_after : goal.returns-clause-out_after
unfolding answer_octets buffer_octets usable_for answer buffer fits
returns-clause-out_after c =
    let a = c.args in
    let d = a.out.now in
    let l = c.uint_least in
    let u = uint_octets l.result a.v l.ensures in
    let xs = octets_of l.result.width l.result.bits in
    known_buffer a.s a.tag 1 (λ (kind : ℕ). true) xs d c.in_ok-k.k c.put_least.ensures.out_after (octets_after a.s a.tag 1 (λ (kind : ℕ). true) xs d a.table.now c.in_ok-k.ensures) ∙ rw u refl
