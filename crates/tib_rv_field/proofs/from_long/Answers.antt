-- `tib_rv_field::from_long` meets its contract.
use mathlib.Core.Path.{ap, ◌∙◌}
use Rattle.octets.proofs.Number.{octets_of_slice}
use Rattle.tib_rv_field.specs.internal.Measured.{measured}
use Rattle.tib_rv_field.proofs.StepTests.{long_cut, long_whole, long_small}
use Rattle.tib_rv_field.proofs.from_long.Goals as goal

pub returns-then-s-w : goal.returns-then-s-w
unfolding measured
returns-then-s-w c = let a = c.args in ap measured (long_cut a.n a.c a.m a.w a.s.now c.if-s-w.true)

pub from_count-requires : goal.from_count-requires
from_count-requires c =
    let f = c in
    let b = f in
    let a = b.args in
    let o = octets_of_slice a.s.now (λ i. (f.type_inv.s i).fits) in record { n_bound = b.requires.n_bound; k_bound = long_small a.w a.s.now o b.requires.w_bound c.uint-k.result c.uint-k.ensures }

pub returns : goal.returns
returns c =
    let r = c in
    let f = r in
    let a = f.args in
    c.from_count.ensures
    ∙ ap measured (long_whole a.n a.c a.m a.w a.s.now f.if-s-w.false f.requires.w_bound r.uint-k.result r.uint-k.ensures)
