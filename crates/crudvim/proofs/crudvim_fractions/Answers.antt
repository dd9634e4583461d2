use mathlib.Core.Path.{sym, ap, ◌∙◌}
use mir.Syntax.{w64}
use mir.ValLaws.{to_z-of_z}
use Rattle.crudvim.specs.Fields.{flagged}
use Rattle.tib_real.specs.InFractions.{fractions_of}
use Rattle.crudvim.proofs.crudvim_fractions.Goals as goal

pub returns : goal.returns
unfolding flagged
returns c =
    let f = c.from-fractions in
    let z = to_z-of_z w64 f.result.value (record { sfits = c.struct_told-1.given.1.1.0.1 }) in
    sym (rw z (f.ensures ∙ c.fractions.ensures ∙ ap fractions_of c.with_bits-real.ensures))
