-- `load` returns what its definition says: its cells were cleared, so noting the records decides.
use native.Mathlib.Omega.{arith}
use Rattle.tib_dictionary_index.proofs.LoadResults.{faulty_at, few, good}
use borrow.Author.Rules.{rules}
use Rattle.tib_dictionary.specs.Load.{refused}
use Rattle.tib_dictionary_index.proofs.load.Goals as goal

pub returns-then-end-s : goal.returns-then-end-s
unfolding refused
returns-then-end-s c =
    let n = c.note_records-end in
    faulty_at c.args.s.now n.result n.ensures.value (omega (arith, c.if-end-s.true)) (search rules)

pub dictionary_of-requires : goal.dictionary_of-requires
dictionary_of-requires c =
    let n = c.note_records-end in
    few c.args.s.now n.result n.ensures.value c.if-end-s.false

pub returns : goal.returns
returns c =
    let n = c.note_records-end in
    good c.args.s.now n.result n.ensures.value c.if-end-s.false c.dictionary_of.result c.dictionary_of.ensures
