-- An array after a state is stored into it with some of its tags.
use Rattle.std.specs.Prelude.{ℕ, ◌+◌, cond, List, ◌++◌, length, take, drop, eqb}
use Rattle.writer_state.specs.declared.State.{State}
use Rattle.writer_words.specs.Words.{state_words, untagged}

-- The first n tags are stored, and the others stay as they are. An array of another length stays as it is.
unfoldable pub tagged_after : List ℕ → State → ℕ → List ℕ
tagged_after ws s n = cond (eqb (length ws) state_words) (untagged s ++ take n s.tags ++ drop (27 + n) ws) ws
