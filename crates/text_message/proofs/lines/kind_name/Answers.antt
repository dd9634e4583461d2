-- `text_message::lines::kind_name` meets its contract.
use Rattle.message.specs.Tree.{value}
use Rattle.text_window.specs.Ascii.{ascii}
use Rattle.text_message.specs.Text.{kind_name}
use Rattle.text_message.proofs.Values.{raw_name}
use Rattle.text_message.proofs.lines.kind_name.Goals as goal

pub returns-in-Uint : goal.returns-in-Uint
unfolding kind_name value ascii
returns-in-Uint c = rw c.in-Uint.is

pub returns-in-Int : goal.returns-in-Int
unfolding kind_name value ascii
returns-in-Int c = rw c.in-Int.is

pub returns-in-String : goal.returns-in-String
unfolding kind_name value ascii
returns-in-String c = rw c.in-String.is

pub returns-in-Text : goal.returns-in-Text
unfolding kind_name value ascii
returns-in-Text c = rw c.in-Text.is

pub returns-in_default : goal.returns-in_default
unfolding ascii
returns-in_default c =
    let d = c.in_default in
    raw_name c.args.kind d.not-Uint d.not-Int d.not-String d.not-Text
