-- `open_field` meets its contract: an open after the tag is looked up.
use mathlib.Core.Path.{refl}
use Rattle.std.proofs.lemmas.Result.{err_from_is_err_and}
use Rattle.writer_nesting.proofs.Opens.{known_open, refused_open, loaded_open, loaded_narrow}
use Rattle.writer_nesting.proofs.open_field.Goals as goal

pub returns-in_err-k : goal.returns-in_err-k
returns-in_err-k c =
    let a = c.args in
    let p = err_from_is_err_and c.from_residual.result c.from_residual.ensures.1 in
    rw (p.1, p.2) (refused_open a.s a.tag c.in_err-k.field-0.0 (loaded_open a.s a.tag a.t c.in_err-k.ensures))

pub open_known-requires : goal.open_known-requires
open_known-requires c = let a = c.args in loaded_narrow a.s a.tag a.t c.in_ok-k.ensures refl

pub returns : goal.returns
returns c = let a = c.args in known_open a.s a.tag c.in_ok-k.k c.open_known.ensures (loaded_open a.s a.tag a.t c.in_ok-k.ensures)
