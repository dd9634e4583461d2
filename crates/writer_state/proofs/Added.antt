-- The stored octets after an accepted call: the octets of its field, then those stored earlier.
use Prim.Native.Nat.{ℕ, ◌+◌, ◌-◌, ◌≤◌}
use native.Mathlib.Omega.{arith}
use mathlib.Core.Path.{◌≡◌, refl, ◌∙◌}
use mathlib.Core.Bool.{Bool}
use mathlib.Core.List.{List, ◌++◌}
use lib.ListN.{length, drop}
use Rattle.table.specs.declared.Table.{Table}
use Rattle.message.specs.Shortest.{field}
use Rattle.octets_store.specs.Store.{stored}
use Rattle.octets_store.proofs.Stores.{drop_stored}
use Rattle.writer_state.specs.Calls.{call_result, buffer_after, back, masked, put, put_buffer, put_refusal, closing_part, close_refusal, closing, close_buffer, outer}
use Rattle.writer_state.specs.declared.State.{State}
use Rattle.writer_state.proofs.Conditions.{put_met, close_room}
use Rattle.writer_state.proofs.SoundStates.{sound_within}

-- Octets that end where others begin.
before_others : (d : List ℕ) (start : ℕ) (xs : List ℕ) → length xs ≤ start → start ≤ length d
    → drop (start - length xs) (stored d (start - length xs) xs) ≡ xs ++ drop start d
before_others d start xs h k =
    let e : start - length xs + length xs ≡ start = omega arith in
    drop_stored d (start - length xs) xs (omega arith) ∙ rw e refl

module _ (t : Table) (s : State) (tag : ℕ) (agrees reads : Bool) (xs d : List ℕ) (e : put_refusal t s tag (length d) agrees reads (length (field tag xs)) ≡ 0) where
  -- An accepted put moves the start down by the octets of its field.
  pub put_start : (put t s tag agrees reads xs (length d)).state.start ≡ s.start - length (field tag xs)
  unfolding put call_result masked back
  put_start = rw e refl

  pub put_adds : drop (s.start - length (field tag xs)) (put_buffer t s tag agrees reads xs d) ≡ field tag xs ++ drop s.start d
  unfolding put_buffer buffer_after
  put_adds =
      let m = put_met t s tag (length d) agrees reads (length (field tag xs)) e in
      let w = sound_within s m.good in
      let l = m.same in
      rw e (before_others d s.start (field tag xs) m.room (omega arith))

module _ (t : Table) (s : State) (d : List ℕ) (e : close_refusal t s (length d) ≡ 0) where
  -- An accepted close moves the start down by the octets of its control part.
  pub close_start : (closing t s (length d)).state.start ≡ s.start - length (closing_part s)
  unfolding closing call_result outer back
  close_start = rw e refl

  pub close_adds : drop (s.start - length (closing_part s)) (close_buffer t s d) ≡ closing_part s ++ drop s.start d
  unfolding close_buffer buffer_after
  close_adds =
      let m = close_room t s (length d) e in
      let l = m.0.same in
      let w = sound_within s m.0.good in
      rw e (before_others d s.start (closing_part s) m.1 (omega arith))
