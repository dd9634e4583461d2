-- The arguments of a call of show, and the answer and the buffer that its contract fixes.
use Rattle.std.specs.Prelude.{ℕ, Bool, ◌&&◌, List, length}
use Rattle.text_window.specs.Window.{window}
use Rattle.text_show.specs.Output.{output}
use Rattle.wrong_programs.specs.Kinds.{Given, octets, word}

pub record ShowInput : Type 0 where
  pub input : List ℕ
  pub from : ℕ
  pub out : List ℕ

unfoldable pub fits : ShowInput → Bool
fits x = octets x.input && word x.from && octets x.out

abbrev pub ShowCall : Type 0
ShowCall = Given fits

-- The contract of text_show::show: the length of the text, and the buffer afterwards.
unfoldable pub show : ShowCall → ℕ × List ℕ
show x = (length (output x.value.input), window x.value.out x.value.from (output x.value.input))
