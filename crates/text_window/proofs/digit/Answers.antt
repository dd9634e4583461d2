-- `text_window::digit` meets its contract.
use borrow.Author.Tests.{lt-ltb, le-ltb}
use Rattle.text_window.specs.Digits.{glyph}
use Rattle.text_window.proofs.digit.Goals as goal

pub returns-then-d-lt10 : goal.returns-then-d-lt10
unfolding glyph
returns-then-d-lt10 c = rw (lt-ltb _ 10 c.if-d-lt10.true)

pub returns-else-d-lt10 : goal.returns-else-d-lt10
unfolding glyph
returns-else-d-lt10 c = rw (le-ltb _ 10 c.if-d-lt10.false)
