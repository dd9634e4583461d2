use mathlib.Core.Path.{ap, ◌∙◌}
use Rattle.message_calls.specs.declared.CheckedMessage.{CheckedMessage}
use Rattle.crudvim.specs.Fields.{flag}
use Rattle.crudvim.proofs.Flags.{flag_is}
use Rattle.crudvim.proofs.crudvim_check.Goals as goal

pub returns-clause-shortest_after : goal.returns-clause-shortest_after
returns-clause-shortest_after c =
    c.from.ensures
    ∙ flag_is c.from-c.result.shortest
    ∙ ap (λ (x : CheckedMessage). flag x.shortest) c.from-c.ensures
    ∙ ap flag c.check.ensures.shortest_value
