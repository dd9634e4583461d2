-- What holds of a sound state.
use Prim.Native.Nat.{ℕ, zero, suc, ◌+◌, ◌≤◌, ◌<◌}
use native.Mathlib.Omega.{arith}
use mathlib.Core.Path.{◌≡◌}
use mathlib.Core.Bool.{Bool, true, ◌&&◌}
use mathlib.Core.List.{List, [], ◌∷◌}
use lib.ListN.{length, take, get_or}
use lib.Seq.{get_or-take, length-take-le}
use lib.Dec.{leb}
use borrow.Author.Tests.{leb-true}
use Rattle.table.specs.Schema.{is_revision}
use Rattle.octets.proofs.Bools.{and_left, and_right}
use Rattle.writer_state.specs.Sound.{falling, small, sound}
use Rattle.writer_state.specs.declared.State.{State}

-- No mark is below the lowest place.
pub fall_above : (low high : ℕ) (ms : List ℕ) (i : ℕ) → falling low high ms ≡ true → i < length ms → low ≤ get_or ms i 0
unfolding falling
fall_above low high [] i e h = absurd (omega arith)
fall_above low high (m ∷ ms) zero e h =
    leb-true low m (and_left (leb low m) (leb m high) (and_left (leb low m && leb m high) (falling low m ms) e))
fall_above low high (m ∷ ms) (suc i) e h = fall_above low m ms i (and_right (leb low m && leb m high) (falling low m ms) e) (omega arith)

module _ (s : State) (e : sound s ≡ true) where
  abbrev A : Bool
  A = leb s.length 65536

  abbrev B : Bool
  B = leb s.start s.length

  abbrev C : Bool
  C = leb s.opened 7

  abbrev D : Bool
  D = is_revision s.revision

  abbrev E : Bool
  E = falling s.start s.length (take s.opened s.marks)

  abbrev F : Bool
  F = small (take (s.opened + 1) s.numbers)

  five : A && B && C && D && E ≡ true
  unfolding sound
  five = and_left (A && B && C && D && E) F e

  three : A && B && C ≡ true
  three = and_left (A && B && C) D (and_left (A && B && C && D) E five)

  pub sound_within : s.start ≤ s.length
  sound_within = leb-true s.start s.length (and_right A B (and_left (A && B) C three))

  pub sound_few : s.opened ≤ 7
  sound_few = leb-true s.opened 7 (and_right (A && B) C three)

  -- The mark of the field that was opened last is not below the start.
  pub last_mark : (k : ℕ) → k < s.opened → s.opened ≤ length s.marks → s.start ≤ get_or s.marks k 0
  last_mark k h l =
      let f = length-take-le s.opened s.marks l in
      let g = fall_above s.start s.length (take s.opened s.marks) k (and_right (A && B && C && D) E five) (omega arith) in
      rw (get_or-take s.opened s.marks k 0 h) at g
