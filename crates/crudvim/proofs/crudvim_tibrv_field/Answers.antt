use mathlib.Core.Path.{sym, ap, ◌∙◌}
use Rattle.crudvim.specs.Fields.{parts}
use Rattle.crudvim.proofs.crudvim_tibrv_field.Goals as goal

pub returns : goal.returns
unfolding parts
returns c = sym (ap parts (c.from-outer.ensures ∙ c.field.ensures))
