-- `note_all` notes word after word, up to the first that cannot be noted.
use Prim.Native.Nat.{ℕ, ◌-◌, min}
use native.Mathlib.Omega.{arith}
use mathlib.Core.Path.{◌≡◌, sym, ◌∙◌}
use mathlib.Core.List.{List}
use lib.ListN.{length, take}
use Rattle.std.proofs.lemmas.List.{take_min}
use Rattle.tib_dictionary_index.proofs.NoteLoops.{words_end, words_stop, words_next}
use Rattle.tib_dictionary_index.proofs.note_all.Goals as goal

-- The words that are noted.
used_is : (words : List ℕ) (count n : ℕ) → n ≡ min count (length words) → take (n - 0) words ≡ take count words
used_is words count n e = let k : n - 0 ≡ min count (length words) = omega arith in rw k (take_min count words)

pub returns-then-not-note : goal.returns-then-not-note
returns-then-not-note c =
    let a = c.args in
    let l = c.loop-w in
    let e = c.entry_in in
    let k = c.note in
    let used = take (c.min.result - 0) a.words.now in
    let all = words_stop used a.cells.now l.w-index l.cells l.invariant (omega arith) e.result e.ensures (sym k.ensures.value ∙ c.if-not-note.true) k.new.cells k.ensures.cells_after in
    rw (← used_is a.words.now a.count c.min.result c.min.ensures) (record { value = all.0; cells_after = all.1 })

pub loop-w-preserved : goal.loop-w-preserved
loop-w-preserved c =
    let a = c.args in
    let l = c.loop-w in
    let e = c.entry_in in
    let k = c.note in
    words_next (take (c.min.result - 0) a.words.now) a.cells.now l.w-index l.cells l.invariant (omega arith) e.result e.ensures
    (sym k.ensures.value ∙ c.if-not-note.false) k.new.cells k.ensures.cells_after

pub returns : goal.returns
returns c =
    let a = c.args in
    let l = c.loop-w in
    let all = words_end (take (c.min.result - 0) a.words.now) a.cells.now l.w-index l.cells l.invariant (omega arith) in
    rw (← used_is a.words.now a.count c.min.result c.min.ensures) (record { value = all.0; cells_after = all.1 })
