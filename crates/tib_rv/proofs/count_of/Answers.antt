-- `tib_rv::count_of` meets its contract.
use mathlib.Core.Path.{sym}
use Rattle.tib_rv_field.proofs.Counts.{counted_short}
use Rattle.tib_rv.proofs.GoodFields.{count_long}
use Rattle.tib_rv.proofs.count_of.Goals as goal

pub returns-then-m-lt121 : goal.returns-then-m-lt121
returns-then-m-lt121 c = let a = c.args in sym (counted_short a.m c.if-m-lt121.true a.s.now)

pub returns : goal.returns
returns c =
    let f = c in
    let e = f in
    let b = e in
    let a = b.args in
    count_long a.m a.s.now f.following-w.result c.uint.result e.if-m-lt121.false b.requires f.following-w.ensures.value f.following-w.ensures.upper_bound c.uint.ensures
