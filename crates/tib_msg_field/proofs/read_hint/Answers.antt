-- `tib_msg_field::read_hint` meets its contract.
use borrow.Author.Tests.{eq-eqb, ne_eqb}
use mathlib.Core.Path.{◌∙◌}
use Rattle.tib_msg_field.proofs.StepTests.{hint_cut, hint_two}
use Rattle.tib_msg_field.proofs.read_hint.Goals as goal

pub returns-then-s-lt2 : goal.returns-then-s-lt2
returns-then-s-lt2 c = (hint_cut c.args.k c.args.size c.args.s.now c.if-s-lt2.true)

pub returns-then-k-eq8 : goal.returns-then-k-eq8
returns-then-k-eq8 c =
    c.array_hint.ensures
    ∙ (rw (eq-eqb c.args.k 8 c.if-k-eq8.true) at
    (hint_two c.args.k c.args.size c.args.s.now c.from-t.result c.from-n.result c.if-s-lt2.false c.from-t.ensures c.from-n.ensures))

pub returns-then-k-eq9 : goal.returns-then-k-eq9
returns-then-k-eq9 c =
    c.partial_hint.ensures
    ∙ (rw (ne_eqb c.args.k 8 c.if-k-eq8.false, eq-eqb c.args.k 9 c.if-k-eq9.true) at
    (hint_two c.args.k c.args.size c.args.s.now c.from-t.result c.from-n.result c.if-s-lt2.false c.from-t.ensures c.from-n.ensures))

pub returns : goal.returns
returns c =
    c.value_hint.ensures
    ∙ (rw (ne_eqb c.args.k 8 c.if-k-eq8.false, ne_eqb c.args.k 9 c.if-k-eq9.false) at
    (hint_two c.args.k c.args.size c.args.s.now c.from-t.result c.from-n.result c.if-s-lt2.false c.from-t.ensures c.from-n.ensures))
