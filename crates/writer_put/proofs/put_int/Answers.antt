-- `put_int` meets its contract: the least octets of a signed number are put after the tag is looked up.
use native.Mathlib.Omega.{arith}
use mathlib.Core.Path.{refl, ap, ◌∙◌}
use mathlib.Core.Bool.{true}
use Prim.Native.Nat.{ℕ}
use Rattle.std.proofs.lemmas.Result.{err_from_is_err_and}
use mir.ValLaws.{to_z-of_z}
use mir.Syntax.{w64}
use Rattle.octets.specs.Signed.{least_int}
use Rattle.octets.specs.Number.{octets_of}
use Rattle.octets.specs.internal.Least.{int_width_bits}
use Rattle.octets.proofs.Integer.{int_octets}
use Rattle.writer_state.specs.Answer.{answer, buffer}
use Rattle.writer_state.specs.internal.Tags.{fits}
use Rattle.writer_put.proofs.ByTag.{known_put, known_buffer, refused_put, refused_buffer, table_put, table_after, table_may}
use Rattle.writer_put.proofs.put_int.Goals as goal

pub returns-in_err-k-clause-value : goal.returns-in_err-k-clause-value
unfolding answer buffer fits
returns-in_err-k-clause-value c =
    let a = c.args in
    let d = a.out.now in
    let p = err_from_is_err_and c.from_residual.result c.from_residual.ensures.1 in
    rw (p.1, p.2) (refused_put a.s a.tag 2 (λ (kind : ℕ). true) (least_int a.v) d c.in_err-k.field-0.0 (table_put a.s a.tag 2 (λ (kind : ℕ). true) (least_int a.v) d a.t c.in_err-k.ensures))

pub returns-in_err-k-clause-out_after : goal.returns-in_err-k-clause-out_after
unfolding answer buffer fits
returns-in_err-k-clause-out_after c =
    let a = c.args in
    let d = a.out.now in
    refused_buffer a.s a.tag 2 (λ (kind : ℕ). true) (least_int a.v) d c.in_err-k.field-0.0 (table_after a.s a.tag 2 (λ (kind : ℕ). true) (least_int a.v) d a.t c.in_err-k.ensures)

pub put_least-requires : goal.put_least-requires
put_least-requires c =
    let a = c.args in
    let l = c.int_least.result in
    let xs = octets_of l.width l.bits in
    table_may a.s a.tag 2 (λ (kind : ℕ). true) xs a.out.now a.t c.in_ok-k.ensures (omega arith) refl

pub returns-clause-value : goal.returns-clause-value
unfolding answer buffer fits
returns-clause-value c =
    let a = c.args in
    let d = a.out.now in
    let l = c.int_least in
    let v = to_z-of_z w64 a.v c.ranges.v in
    let u = int_octets l.result a.v (l.ensures ∙ ap int_width_bits v) in
    let xs = octets_of l.result.width l.result.bits in
    known_put a.s a.tag 2 (λ (kind : ℕ). true) xs d c.in_ok-k.k c.put_least.ensures.value (table_put a.s a.tag 2 (λ (kind : ℕ). true) xs d a.t c.in_ok-k.ensures) ∙ rw u refl

pub returns-clause-out_after : goal.returns-clause-out_after
unfolding answer buffer fits
returns-clause-out_after c =
    let a = c.args in
    let d = a.out.now in
    let l = c.int_least in
    let v = to_z-of_z w64 a.v c.ranges.v in
    let u = int_octets l.result a.v (l.ensures ∙ ap int_width_bits v) in
    let xs = octets_of l.result.width l.result.bits in
    known_buffer a.s a.tag 2 (λ (kind : ℕ). true) xs d c.in_ok-k.k c.put_least.ensures.out_after (table_after a.s a.tag 2 (λ (kind : ℕ). true) xs d a.t c.in_ok-k.ensures) ∙ rw u refl
