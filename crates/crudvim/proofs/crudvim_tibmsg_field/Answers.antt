use mathlib.Core.Path.{refl, sym, ap, ◌∙◌}
use Rattle.crudvim.specs.Fields.{parts, hint}
use Rattle.crudvim.proofs.Flags.{flag_is}
use Rattle.crudvim.proofs.crudvim_tibmsg_field.Goals as goal

pub returns : goal.returns
unfolding parts hint
returns c =
    let f = c.from-field.ensures ∙ c.field.ensures in
    let h = c.from.ensures ∙ flag_is c.from-field.result.hinted in record { k_value = sym (ap parts f); k_value_2 = rw (← f, h) refl }
