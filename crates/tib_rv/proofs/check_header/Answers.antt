-- `tib_rv::check_header` meets its contract.
use Rattle.tib_rv.proofs.Headers.{header_cut_lem, other_magic_lem, other_size_lem, no_fault}
use Rattle.tib_rv.proofs.check_header.Goals as goal

pub returns-then-s-lt8 : goal.returns-then-s-lt8
returns-then-s-lt8 c = header_cut_lem c.args.s.now c.if-s-lt8.true

pub returns-then-not-begins : goal.returns-then-not-begins
returns-then-not-begins c = other_magic_lem c.args.s.now c.if-s-lt8.false c.begins.result c.begins.ensures (c.if-not-begins.true)

pub returns-then-uint-s : goal.returns-then-uint-s
returns-then-uint-s c =
    other_size_lem c.args.s.now c.if-s-lt8.false c.begins.result c.begins.ensures c.uint.result c.uint.ensures
    (c.if-not-begins.false) c.if-uint-s.true

pub returns : goal.returns
returns c =
    no_fault c.args.s.now c.if-s-lt8.false c.begins.result c.begins.ensures c.uint.result c.uint.ensures
    (c.if-not-begins.false) c.if-uint-s.false
