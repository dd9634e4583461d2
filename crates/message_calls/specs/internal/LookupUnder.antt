-- A lookup under any schema.
use Rattle.std.specs.Prelude.{ℕ, cond, List, eqb}
use Rattle.table.specs.Schema.{Schema}
use Rattle.message.specs.Reading.{reading}
use Rattle.message_calls.specs.Check.{check_under}
use Rattle.message_calls.specs.Lookup.{refusal, found_in}
use Rattle.message_calls.specs.declared.outermost.Occurrence.{Occurrence}
use Rattle.message_calls.specs.declared.Found.{Found}

unfoldable pub look_under : Schema → ℕ → List ℕ → ℕ → Occurrence → Found
look_under sc n s tag which =
    let c = check_under sc n s in
    cond (eqb c.refusal 0) (found_in sc n tag which (reading sc n s)) (refusal c.refusal c.place)
