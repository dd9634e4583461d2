-- `note_records` notes record after record, up to the first that is faulty.
use Prim.Native.Nat.{◌*◌}
use Rattle.tib_dictionary_index.proofs.NoteLoops.{RecordLoop}
use Rattle.tib_dictionary_index.proofs.note_records.Given as goal

abbrev pub invariant-loop-n : goal.invariant-loop-n
invariant-loop-n l = RecordLoop 512 l.s l.initial.cells (l.n * 8) l.cells
