-- `fill_table` refuses a table that no loader gives, then a number that is no revision.
use Prim.Native.Nat.{ℕ, ◌≤◌}
use native.Mathlib.Omega.{arith}
use mathlib.Core.Path.{◌≡◌, sym, ap, ◌∙◌}
use mathlib.Core.Bool.{Bool}
use mathlib.Core.List.{List}
use lib.ListN.{length, take, replicate, length-take}
use borrow.Author.Rules.{rules}
use borrow.Author.Tests.{not-true, not-false}
use Rattle.octets.proofs.Bools.{and_both}
use Rattle.reading.specs.Reading.{accepted}
use Rattle.table.specs.declared.Table.{Table}
use Rattle.table.specs.Valid.{valid}
use Rattle.table_index.specs.internal.Cells.{inserted_words, all_inserted, OneOrder}
use Rattle.table_index.proofs.IndexLaws.{table_valid, table_schema}
use Rattle.message_calls.specs.internal.Indexes.{schema_loaded}
use Rattle.message_calls.proofs.CheckAnswers.{table-fails, revision-fails}
use Rattle.message_calls.proofs.IndexOrders.{words_order}
use Rattle.message_calls.proofs.index.Index.fill_table.Goals as goal

module _ (t : Table) (revision : ℕ) (empty : List ℕ) (cleared : empty ≡ replicate 128 0) where
  passes : {r : Bool} → r ≡ all_inserted revision t.words t.count empty → r ≡ valid t
  passes e = table_valid revision t (e ∙ ap (all_inserted revision t.words t.count) cleared)

  filled : {cells : List ℕ} → cells ≡ inserted_words revision (take t.count t.words) empty → cells ≡ inserted_words revision (take t.count t.words) (replicate 128 0)
  filled e = e ∙ ap (inserted_words revision (take t.count t.words)) cleared

  ordered : length t.words ≡ 64 → {cells : List ℕ} → cells ≡ inserted_words revision (take t.count t.words) empty → OneOrder cells
  ordered size e =
      let few : length (take t.count t.words) ≤ 64 = simp length-take (omega arith) in
      rw (filled e) (words_order revision (take t.count t.words) few)

pub invariant_of-self : goal.invariant_of-self
invariant_of-self c =
    let a = c.args in
    let size : length a.t.now.words ≡ 64 = search rules in
    record { one_order = ordered a.t.now a.revision a.self.now.cells c.requires size c.index_table.ensures.cells_after }

pub returns-then-not-index_table : goal.returns-then-not-index_table
unfolding schema_loaded
returns-then-not-index_table c =
    let a = c.args in
    let x = c.index_table in
    let v = table-fails a.t.now a.revision (sym (passes a.t.now a.revision a.self.now.cells c.requires x.ensures.value) ∙ not-true x.result c.if-not-index_table.true-raw) in
    rw (c.at.ensures, v)

pub returns-then-not-is_revision : goal.returns-then-not-is_revision
unfolding schema_loaded
returns-then-not-is_revision c =
    let a = c.args in
    let w = c.is_revision in
    let v = revision-fails a.t.now a.revision (sym w.ensures ∙ not-true w.result c.if-not-is_revision.true-raw) in
    rw (c.at-then-not-is_revision.ensures, v)

pub returns : goal.returns
unfolding schema_loaded
returns c =
    let a = c.args in
    let x = c.index_table in
    let w = c.is_revision in
    let v = sym (passes a.t.now a.revision a.self.now.cells c.requires x.ensures.value) ∙ not-false x.result c.if-not-index_table.false-raw in
    let g = and_both _ _ v (sym w.ensures ∙ not-false w.result c.if-not-is_revision.false-raw) in
    rw g (ap accepted (table_schema a.revision a.t.now v (filled a.t.now a.revision a.self.now.cells c.requires x.ensures.cells_after)))
