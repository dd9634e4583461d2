-- `dictionary_of` stores the word of each record.
use mathlib.Core.Path.{◌≡◌}
use Rattle.tib_dictionary_index.proofs.Stored.{stored}
use Rattle.tib_dictionary_index.proofs.dictionary_of.Given as goal

abbrev pub invariant-loop-i : goal.invariant-loop-i
invariant-loop-i l = l.words ≡ stored 512 l.i l.s
