-- Each call prints one digit less.
use Rattle.text_window.proofs.Window.+digits.Given as goal

abbrev pub decreases-digits : goal.decreases-digits
decreases-digits l = l.most
