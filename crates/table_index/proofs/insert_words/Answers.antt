-- `insert_words` inserts the words one by one, up to the first that is not insertable. Before each iteration of the inner loop the rest of
-- the chain decides whether the word is insertable.
use Prim.Native.Nat.{ℕ}
use native.Mathlib.Omega.{arith}
use mathlib.Core.Path.{sym, ap, ◌∙◌}
use lib.ListN.{get_or}
use Rattle.table_index.specs.internal.Cells.{chase}
use Rattle.table_index.proofs.Chains.{bucket_low, search_from, chase_next, next_less}
use Rattle.table_index.proofs.Words.{small, key_low}
use Rattle.table_index.proofs.Revisions.{range_read}
use Rattle.table_index.proofs.InsertLoop.{words_start, words_end, words_bad, words_repeated, words_continue}
use Rattle.table_index.proofs.insert_words.Goals as goal

pub words-init : goal.words-init
words-init c =
    let a = c.args in
    words_start a.revision a.words.now a.cells.now

pub word_key-key-requires : goal.word_key-key-requires
word_key-key-requires c = range_read c.args.revision (get_or c.args.words.now c.words.n 0) c.under-w.ensures c.in_range.ensures c.if-not-in_range.false

pub bucket-requires : goal.bucket-requires
bucket-requires c =
    let u = c.under-w in
    let range = range_read c.args.revision (get_or c.args.words.now c.words.n 0) u.ensures c.in_range.ensures c.if-not-in_range.false in
    omega (arith, c.word_key-key.ensures, key_low u.result (small u.result range))

pub offset_bounds-cells-bucket : goal.offset_bounds-cells-bucket
offset_bounds-cells-bucket c = omega (arith, c.bucket.ensures, bucket_low c.word_key-key.result)

pub bounds-cells-bucket : goal.bounds-cells-bucket
bounds-cells-bucket c = omega (arith, c.bucket.ensures, bucket_low c.word_key-key.result)

pub loop-c-init : goal.loop-c-init
loop-c-init c =
    let cells = c.words.cells in
    search_from cells c.word_key-key.result (c.from-c.ensures ∙ ap (λ (b : ℕ). get_or cells b 0) c.bucket.ensures)

pub loop-c-smaller : goal.loop-c-smaller
loop-c-smaller c = next_less c.words.cells c.loop-c.c c.next-c.result c.next-c.ensures c.loop-c-test.true

pub loop-c-preserved : goal.loop-c-preserved
loop-c-preserved c =
    let cells = c.words.cells in
    let key = c.word_key-key.result in
    let l = c.loop-c in
    l.invariant ∙ chase_next cells key l.c c.if-c-key.false ∙ ap (chase 64 cells key) (sym c.next-c.ensures)

pub link-requires : goal.link-requires
link-requires c = record { w_value = range_read c.args.revision (get_or c.args.words.now c.words.n 0) c.under-w.ensures c.in_range.ensures c.if-not-in_range.false; key_value = c.word_key-key.ensures; i_bound = omega (arith, c.min-most.ensures) }

pub words-preserved : goal.words-preserved
words-preserved c =
    let a = c.args in
    let o = c.words in
    let l = c.loop-c in
    let i = c.in_range in
    words_continue a.revision a.words.now a.cells.now o.n o.cells o.invariant (omega (arith, c.min-most.ensures)) c.under-w.ensures c.word_key-key.ensures l.c l.invariant
    (sym i.ensures ∙ c.if-not-in_range.false) c.loop-c-test.false c.link.ensures

pub returns-then-most-n : goal.returns-then-most-n
returns-then-most-n c =
    let a = c.args in
    let o = c.words in
    let all = words_end a.revision a.words.now a.cells.now o.n o.cells o.invariant (omega (arith, c.min-most.ensures)) in record { value = all.0; cells_after = all.1 }

pub returns-then-not-in_range : goal.returns-then-not-in_range
returns-then-not-in_range c =
    let a = c.args in
    let o = c.words in
    let i = c.in_range in
    let all = words_bad a.revision a.words.now a.cells.now o.n o.cells o.invariant (omega (arith, c.min-most.ensures)) (sym i.ensures ∙ c.if-not-in_range.true) in record { value = all.0; cells_after = all.1 }

pub returns-then-c-key : goal.returns-then-c-key
returns-then-c-key c =
    let a = c.args in
    let o = c.words in
    let l = c.loop-c in
    let all = words_repeated a.revision a.words.now a.cells.now o.n o.cells o.invariant (omega (arith, c.min-most.ensures)) c.under-w.ensures c.word_key-key.ensures l.c l.invariant
    c.loop-c-test.true c.if-c-key.true in record { value = all.0; cells_after = all.1 }
