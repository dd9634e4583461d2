-- `load` returns what its definition says: the first repeated pair among the well-formed records decides, or what follows them.
use native.Mathlib.Omega.{arith}
use mathlib.Core.Path.{refl, ◌∙◌}
use Rattle.table_index.proofs.LoadLaws.{refusal, repeated_within, repeated, faulted, loaded}
use Rattle.table_index.proofs.load.Goals as goal

pub place_at-requires : goal.place_at-requires
place_at-requires c =
    let s = c.args.s.now in
    let t = c.records-prefix in
    let f = c.index_words-first in
    let h =
    repeated_within s t.result.table.words t.result.table.count t.result.end f.result t.ensures f.ensures.value (omega (arith, c.if-first-n.true)) in
    omega arith

pub returns-then-first-n : goal.returns-then-first-n
returns-then-first-n c =
    let s = c.args.s.now in
    let t = c.records-prefix in
    let f = c.index_words-first in
    refusal c.fault_at.result c.fault_at.ensures c.place_at.ensures
    ∙ repeated s t.result.table.words t.result.table.count t.result.end f.result t.ensures f.ensures.value (omega (arith, c.if-first-n.true))

pub returns-then-prefix-s : goal.returns-then-prefix-s
returns-then-prefix-s c =
    let s = c.args.s.now in
    let t = c.records-prefix in
    let f = c.index_words-first in
    let e = c.fault_at-then-prefix-s in
    refusal e.result e.ensures refl
    ∙ faulted s t.result.table.words t.result.table.count t.result.end f.result t.ensures f.ensures.value (omega (arith, c.if-first-n.false)) (omega (arith, c.if-prefix-s.true))

pub returns : goal.returns
returns c =
    let s = c.args.s.now in
    let t = c.records-prefix in
    let f = c.index_words-first in
    loaded s t.result.table.words t.result.table.count t.result.end f.result t.ensures f.ensures.value (omega (arith, c.if-first-n.false)) (omega (arith, c.if-prefix-s.false))
