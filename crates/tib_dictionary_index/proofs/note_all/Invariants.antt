-- `note_all` notes word after word, up to the first that cannot be noted.
use Rattle.tib_dictionary_index.proofs.NoteLoops.{WordLoop}
use Rattle.tib_dictionary_index.proofs.note_all.Given as goal

abbrev pub invariant-loop-w : goal.invariant-loop-w
invariant-loop-w l = WordLoop l.used l.initial.cells l.w-index l.cells
