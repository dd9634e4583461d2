-- The answer of finish in numbers.
use Rattle.std.specs.Prelude.{ℕ}
use Rattle.writer_state.specs.declared.State.{State}

-- The refusal (0 if the call is accepted), the place (always 0), the offset at which the message starts (0 in a refusal), and the state that
-- was given.
pub record Finished : Type 0 where
  pub refusal : ℕ
  pub place : ℕ
  pub start : ℕ
  pub state : State
