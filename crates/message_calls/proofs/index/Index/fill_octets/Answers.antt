-- `fill_octets` refuses a table of which the index has not all records, then a number that is no revision.
use mathlib.Core.Path.{sym, ◌∙◌}
use borrow.Author.Tests.{not-true, not-false}
use Rattle.message_calls.proofs.OctetsIndex.{one_order, stopped, no_revision, whole}
use Rattle.message_calls.proofs.index.Index.fill_octets.Goals as goal

pub invariant_of-self : goal.invariant_of-self
invariant_of-self c =
    let a = c.args in
    let x = c.index-end in
    record { one_order = one_order a.table.now a.revision a.self.now.cells c.requires x.new.cells x.ensures.cells_after }

pub returns-then-end-table : goal.returns-then-end-table
returns-then-end-table c =
    let a = c.args in
    let x = c.index-end in
    rw c.at.ensures (stopped a.table.now a.revision a.self.now.cells c.requires x.result x.ensures.value c.if-end-table.true)

pub returns-then-not-is_revision : goal.returns-then-not-is_revision
returns-then-not-is_revision c =
    let a = c.args in
    let x = c.index-end in
    let v = c.is_revision in
    rw c.at-then-not-is_revision.ensures
    (no_revision a.table.now a.revision a.self.now.cells c.requires x.result x.ensures.value c.if-end-table.false (sym v.ensures ∙ not-true v.result c.if-not-is_revision.true-raw))

pub returns : goal.returns
returns c =
    let a = c.args in
    let x = c.index-end in
    let v = c.is_revision in
    whole a.table.now a.revision a.self.now.cells c.requires x.result x.ensures.value c.if-end-table.false
    (sym v.ensures ∙ not-false v.result c.if-not-is_revision.false-raw) x.new.cells x.ensures.cells_after
