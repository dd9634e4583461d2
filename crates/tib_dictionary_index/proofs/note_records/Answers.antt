-- `note_records` notes record after record, up to the first that is faulty.
use Prim.Native.Nat.{◌+◌, ◌*◌}
use native.Mathlib.Omega.{arith}
use mathlib.Core.Path.{◌≡◌, sym, ◌∙◌}
use Rattle.tib_dictionary_index.proofs.NoteLoops.{records_start, not_formed, not_noted, records_next, records_end}
use Rattle.tib_dictionary_index.proofs.note_records.Goals as goal

pub loop-n-init : goal.loop-n-init
loop-n-init c = records_start 512 c.args.s.now c.args.cells.now

pub returns-then-not-formed_at : goal.returns-then-not-formed_at
returns-then-not-formed_at c =
    let a = c.args in
    let l = c.loop-n in
    let all = not_formed 512 a.s.now a.cells.now (l.n * 8) l.cells l.invariant (omega (arith, c.min-most.ensures)) (sym c.formed_at.ensures ∙ c.if-not-formed_at.true) in record { value = all.0; cells_after = all.1 }

pub returns-then-not-note : goal.returns-then-not-note
returns-then-not-note c =
    let a = c.args in
    let l = c.loop-n in
    let e = c.entry_at in
    let k = c.note in
    let all = not_noted 512 a.s.now a.cells.now (l.n * 8) l.cells l.invariant (omega (arith, c.min-most.ensures)) e.result e.ensures.value
    (sym k.ensures.value ∙ c.if-not-note.true) k.new.cells k.ensures.cells_after in record { value = all.0; cells_after = all.1 }

pub loop-n-preserved : goal.loop-n-preserved
loop-n-preserved c =
    let a = c.args in
    let l = c.loop-n in
    let f = c.formed_at in
    let e = c.entry_at in
    let k = c.note in
    let next : l.n * 8 + 8 ≡ (l.n + 1) * 8 = omega arith in
    rw (← next)
    (records_next 512 a.s.now a.cells.now (l.n * 8) l.cells l.invariant (omega (arith, c.min-most.ensures))
    (sym f.ensures ∙ c.if-not-formed_at.false) e.result e.ensures.value
    (sym k.ensures.value ∙ c.if-not-note.false) k.new.cells k.ensures.cells_after)

pub returns : goal.returns
returns c =
    let a = c.args in
    let l = c.loop-n in
    let last : l.n ≡ c.min-most.result = omega arith in
    let all = records_end 512 a.s.now a.cells.now (l.n * 8) l.cells l.invariant (omega (arith, c.min-most.ensures)) in
    rw (← last) (record { value = all.0; cells_after = all.1 })
