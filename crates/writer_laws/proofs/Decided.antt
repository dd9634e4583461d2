-- What decides the refusals of the calls on a state that a run reaches: never the state, the buffer's length or the table.
use Prim.Native.Nat.{ℕ}
use mathlib.Core.Path.{◌≡◌, refl, sym, ◌∙◌}
use mathlib.Core.Bool.{Bool, true, not}
use mathlib.Core.List.{List}
use lib.ListN.{length}
use lib.Dec.{leb, eqb}
use borrow.Author.Tests.{eq-eqb}
use Rattle.table.specs.declared.Table.{Table}
use Rattle.writer_state.specs.Sound.{sound}
use Rattle.writer_state.specs.Calls.{or_refuse, noted, put_refusal, open_refusal, closing_part, close_early, close_refusal, finish_refusal}
use Rattle.writer_state.specs.declared.State.{State}
use Rattle.writer_laws.specs.Given.{Given}
use Rattle.writer_laws.proofs.Reached.{Reached, reached_sound}

module _ (t : Table) (revision number : ℕ) (lent : List ℕ) (s : State) (d : List ℕ) (g : Given) (r : Reached t revision number lent s d g) where
  same_size : eqb (length d) s.length ≡ true
  same_size = eq-eqb (length d) s.length (r.filled.size ∙ sym r.size)

  good_state : sound s ≡ true
  good_state = reached_sound t revision number lent s d g r

  pub put_decided : (tag : ℕ) (agrees reads : Bool) (size : ℕ)
      → put_refusal t s tag (length d) agrees reads size
      ≡ or_refuse agrees 8 (or_refuse (not (noted t s tag)) 20 (or_refuse reads 7 (or_refuse (leb size s.start) 9 0)))
  unfolding put_refusal or_refuse
  put_decided tag agrees reads size = rw (same_size, good_state, r.good_table) refl

  pub open_decided : (tag : ℕ) (agrees : Bool)
      → open_refusal t s tag agrees ≡ or_refuse agrees 8 (or_refuse (not (noted t s tag)) 20 (or_refuse (leb s.opened 6) 5 0))
  unfolding open_refusal or_refuse
  open_decided tag agrees = rw (good_state, r.good_table) refl

  pub close_decided : close_refusal t s (length d) ≡ or_refuse (leb 1 s.opened) 11 (or_refuse (leb (length (closing_part s)) s.start) 9 0)
  unfolding close_refusal close_early or_refuse
  close_decided = rw (same_size, good_state, r.good_table) refl

  pub finish_decided : finish_refusal s ≡ or_refuse (eqb s.opened 0) 12 0
  unfolding finish_refusal or_refuse
  finish_decided = rw good_state refl
