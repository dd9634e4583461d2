-- `close_usable` meets its contract: the control part of the field that was opened last stands before its contents.
use native.Mathlib.Omega.{arith}
use mathlib.Core.Path.{◌≡◌, refl, ap, ◌∙◌}
use lib.ListN.{length, get_or}
use Rattle.std.proofs.lemmas.Result.{err_from_is_err_and}
use Rattle.octets.specs.Control.{least_control}
use Rattle.writer_state.proofs.ByOctets.{usable_sound}
use Rattle.writer_state.proofs.SoundStates.{sound_few}
use Rattle.writer_state.specs.Calls.{closing_part}
use Rattle.writer_nesting.proofs.Closes.{rest_none, rest_long, rest_accepted}
use Rattle.writer_nesting.proofs.close_usable.Goals as goal

pub returns-in_err-k : goal.returns-in_err-k
returns-in_err-k c =
    let a = c.args in
    let e = c.in_err-k.ensures in
    let r = err_from_is_err_and c.from_residual.result c.from_residual.ensures.1 in
    let p = rest_none a.s a.out.now e.0 refl in
    record { value = rw (r.1, r.2, e.1) p.value; out_after = p.out_after }

pub offset_bounds-s-k : goal.offset_bounds-s-k
offset_bounds-s-k c =
    let few = sound_few c.args.s (usable_sound c.args.s (length c.args.out.now) c.requires) in
    let last = c.in_ok-k.ensures in
    omega (arith, last.0, last.1)

pub bounds-s-k : goal.bounds-s-k
bounds-s-k c =
    let few = sound_few c.args.s (usable_sound c.args.s (length c.args.out.now) c.requires) in
    let last = c.in_ok-k.ensures in
    omega (arith, last.0, last.1)

pub contents_length-n-requires : goal.contents_length-n-requires
contents_length-n-requires c =
    let few = sound_few c.args.s (usable_sound c.args.s (length c.args.out.now) c.requires) in
    let last = c.in_ok-k.ensures in
    omega (arith, last.0, last.1)

pub returns-then-s-size : goal.returns-then-s-size
unfolding closing_part
returns-then-s-size c =
    let a = c.args in
    let last = c.in_ok-k.ensures in
    let q : least_control (get_or a.s.tags c.in_ok-k.k 0) c.contents_length-n.result ≡ closing_part a.s = rw (c.contents_length-n.ensures, last.1) refl in
    let z = c.control_size-size.ensures ∙ ap length q in
    let h = c.if-s-size.true in
    let p = rest_long a.s a.out.now last.0 (omega arith) refl in
    record { value = rw c.at.ensures p.value; out_after = p.out_after }

pub returns : goal.returns
unfolding closing_part
returns c =
    let a = c.args in
    let last = c.in_ok-k.ensures in
    let q : least_control (get_or a.s.tags c.in_ok-k.k 0) c.contents_length-n.result ≡ closing_part a.s = rw (c.contents_length-n.ensures, last.1) refl in
    let z = c.control_size-size in
    let b = c.put_control in
    let p = rest_accepted a.s a.out.now last.0 b.new.out z.result (z.ensures ∙ ap length q) c.if-s-size.false (b.ensures ∙ rw q refl) in
    record { value = rw last.1 p.value; out_after = p.out_after }
