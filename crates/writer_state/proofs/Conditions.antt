-- The conditions that an accepted call meets.
use Prim.Native.Nat.{ℕ, ◌≤◌, ◌<◌}
use native.Mathlib.Omega.{arith}
use mathlib.Core.Path.{◌≡◌, refl}
use mathlib.Core.Bool.{Bool, true, false, not}
use lib.ListN.{length}
use lib.Dec.{leb, eqb}
use borrow.Author.Tests.{leb-true, eqb-true, not-true}
use Rattle.reading.specs.Reading.{message_limit}
use Rattle.table.specs.Schema.{is_revision}
use Rattle.table.specs.Valid.{valid}
use Rattle.table.specs.declared.Table.{Table}
use Rattle.writer_state.specs.Sound.{sound}
use Rattle.writer_state.specs.Calls.{or_refuse, noted, start_refusal, put_refusal, open_refusal, closing_part, close_early, close_refusal}
use Rattle.writer_state.specs.declared.State.{State}

-- If a chain of tests gives no refusal, its first test holds and the rest of the chain gives no refusal.
pub passed : (test : Bool) (n next : ℕ) → 0 < n → or_refuse test n next ≡ 0 → (test ≡ true) × (next ≡ 0)
unfolding or_refuse
passed true n next h e = (refl, e)
passed false n next h e = absurd (omega arith)

module _ (t : Table) (revision number len : ℕ) where
  pub record StartMet : Type 0 where
    pub within_limit : len ≤ message_limit
    pub table : valid t ≡ true
    pub profile : is_revision revision ≡ true
    pub small : number ≤ 15

  pub start_met : start_refusal t revision number len ≡ 0 → StartMet
  unfolding start_refusal
  start_met e =
      let n3 = or_refuse (leb number 15) 2 0 in
      let n2 = or_refuse (is_revision revision) 2 n3 in
      let n1 = or_refuse (valid t) 2 n2 in
      let a = passed (leb len message_limit) 1 n1 (omega arith) e in
      let b = passed (valid t) 2 n2 (omega arith) a.1 in
      let d = passed (is_revision revision) 2 n3 (omega arith) b.1 in
      let f = passed (leb number 15) 2 0 (omega arith) d.1 in
      record { within_limit = leb-true len message_limit a.0; table = b.0; profile = d.0; small = leb-true number 15 f.0 }

module _ (t : Table) (s : State) (tag len : ℕ) (agrees reads : Bool) (size : ℕ) where
  pub record PutMet : Type 0 where
    pub same : len ≡ s.length
    pub good : sound s ≡ true
    pub agreed : agrees ≡ true
    pub once : noted t s tag ≡ false
    pub read : reads ≡ true
    pub room : size ≤ s.start

  pub put_met : put_refusal t s tag len agrees reads size ≡ 0 → PutMet
  unfolding put_refusal
  put_met e =
      let n6 = or_refuse (leb size s.start) 9 0 in
      let n5 = or_refuse reads 7 n6 in
      let n4 = or_refuse (not (noted t s tag)) 20 n5 in
      let n3 = or_refuse agrees 8 n4 in
      let n2 = or_refuse (valid t) 2 n3 in
      let n1 = or_refuse (sound s) 10 n2 in
      let a = passed (eqb len s.length) 10 n1 (omega arith) e in
      let b = passed (sound s) 10 n2 (omega arith) a.1 in
      let d = passed (valid t) 2 n3 (omega arith) b.1 in
      let f = passed agrees 8 n4 (omega arith) d.1 in
      let o = passed (not (noted t s tag)) 20 n5 (omega arith) f.1 in
      let g = passed reads 7 n6 (omega arith) o.1 in
      let h = passed (leb size s.start) 9 0 (omega arith) g.1 in
      record {
        same = eqb-true len s.length a.0;
        good = b.0;
        agreed = f.0;
        once = not-true (noted t s tag) o.0;
        read = g.0;
        room = leb-true size s.start h.0;
      }

module _ (t : Table) (s : State) (tag : ℕ) (agrees : Bool) where
  pub record OpenMet : Type 0 where
    pub agreed : agrees ≡ true
    pub once : noted t s tag ≡ false
    pub shallow : s.opened ≤ 6

  pub open_met : open_refusal t s tag agrees ≡ 0 → OpenMet
  unfolding open_refusal
  open_met e =
      let n4 = or_refuse (leb s.opened 6) 5 0 in
      let n3 = or_refuse (not (noted t s tag)) 20 n4 in
      let n2 = or_refuse agrees 8 n3 in
      let n1 = or_refuse (valid t) 2 n2 in
      let b = passed (sound s) 10 n1 (omega arith) e in
      let d = passed (valid t) 2 n2 (omega arith) b.1 in
      let f = passed agrees 8 n3 (omega arith) d.1 in
      let o = passed (not (noted t s tag)) 20 n4 (omega arith) f.1 in
      let h = passed (leb s.opened 6) 5 0 (omega arith) o.1 in
      record { agreed = f.0; once = not-true (noted t s tag) o.0; shallow = leb-true s.opened 6 h.0 }

-- A close: the refusals that come before that for want of room, which is `next`.
module _ (t : Table) (s : State) (len next : ℕ) where
  pub record CloseMet : Type 0 where
    pub same : len ≡ s.length
    pub good : sound s ≡ true
    pub table : valid t ≡ true
    pub some_open : 1 ≤ s.opened
    pub later : next ≡ 0

  pub close_met : close_early t s len next ≡ 0 → CloseMet
  unfolding close_early
  close_met e =
      let n3 = or_refuse (leb 1 s.opened) 11 next in
      let n2 = or_refuse (valid t) 2 n3 in
      let n1 = or_refuse (sound s) 10 n2 in
      let a = passed (eqb len s.length) 10 n1 (omega arith) e in
      let b = passed (sound s) 10 n2 (omega arith) a.1 in
      let d = passed (valid t) 2 n3 (omega arith) b.1 in
      let f = passed (leb 1 s.opened) 11 next (omega arith) d.1 in
      record {
        same = eqb-true len s.length a.0;
        good = b.0;
        table = d.0;
        some_open = leb-true 1 s.opened f.0;
        later = f.1;
      }

-- An accepted close has room for its control part.
pub close_room : (t : Table) (s : State) (len : ℕ) → close_refusal t s len ≡ 0
    → CloseMet t s len (or_refuse (leb (length (closing_part s)) s.start) 9 0) × (length (closing_part s) ≤ s.start)
unfolding close_refusal
close_room t s len e =
    let room = leb (length (closing_part s)) s.start in
    let m = close_met t s len (or_refuse room 9 0) e in
    (m, leb-true (length (closing_part s)) s.start (passed room 9 0 (omega arith) m.later).0)
