-- `text_message::lines::value` meets its contract.
use mathlib.Core.Path.{sym, ap, subst}
use Rattle.table.specs.declared.Meaning.{Meaning}
use Rattle.message.specs.Cut.{Contents}
use Rattle.message.specs.Tree.{value}
use Rattle.text_message.specs.Text.{value_text}
use Rattle.text_window.proofs.Prints.{same}
use Rattle.text_message.proofs.Values.{octets_text}
use Rattle.text_message.proofs.lines.value.Goals as goal

pub uint-requires : goal.uint-requires
unfolding Contents
uint-requires c = subst (λ (k : Meaning). Contents k c.args.s.now) c.in-Uint.is c.requires

pub int-requires : goal.int-requires
unfolding Contents
int-requires c = subst (λ (k : Meaning). Contents k c.args.s.now) c.in-Int.is c.requires

pub returns-in-Uint : goal.returns-in-Uint
unfolding value_text value
returns-in-Uint c =
    let a = c.args in
    same (value_text (value a.kind a.s.now)) (ap (λ (k : Meaning). value_text (value k a.s.now)) (sym c.in-Uint.is)) c.uint.ensures

pub returns-in-Int : goal.returns-in-Int
unfolding value_text value
returns-in-Int c =
    let a = c.args in
    same (value_text (value a.kind a.s.now)) (ap (λ (k : Meaning). value_text (value k a.s.now)) (sym c.in-Int.is)) c.int.ensures

pub returns-in_default : goal.returns-in_default
returns-in_default c =
    let a = c.args in
    same (value_text (value a.kind a.s.now)) (octets_text a.kind a.s.now c.in_default.not-Uint c.in_default.not-Int) c.hex_or_dash.ensures
