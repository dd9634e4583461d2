-- What rules out programs that accept a table value, a revision or a state with a fault: an entry that accepts only valid tables, only revisions, or
-- only sound states.
use Prim.Native.Nat.{ℕ, zero, suc, ◌+◌, ◌≤◌, ◌<◌}
use native.Mathlib.Omega.{arith}
use mathlib.Core.Path.{◌≡◌, refl}
use mathlib.Core.Bool.{Bool, true, false, ◌&&◌, ◌||◌}
use mathlib.Core.List.{List, [], ◌∷◌}
use lib.ListN.{length, take, get_or}
use lib.Seq.{get_or-take}
use lib.Dec.{leb, eqb}
use borrow.Author.Tests.{leb-true, eqb-true, eqb-false}
use Rattle.table.specs.Schema.{is_revision}
use Rattle.table.specs.Valid.{valid}
use Rattle.table.specs.declared.Table.{Table}
use Rattle.octets.proofs.Bools.{and_left, and_right}
use Rattle.table.proofs.Valid.{valid_loadable}
use Rattle.writer_state.specs.Sound.{falling, small, sound}
use Rattle.writer_state.specs.declared.State.{State}
use Rattle.writer_state.proofs.SoundStates.{sound_within, sound_few, last_mark}
use Rattle.wrong_programs.specs.Kinds.{refusal_of}
use Rattle.wrong_programs.specs.Faults.{NoRevision, BadTableRuledOut, BadRevisionRuledOut, BadStateRuledOut}
use Rattle.wrong_programs.proofs.RulingOut.{accepts_some}

-- What a caller gives passes a chain of tests that it is in range. A test that fails makes the chain fail, so each of them holds.
pub equal : (m n : ℕ) → (eqb m n ≡ false → ⊥) → m ≡ n
equal m n h = go (eqb m n) refl
  where
    go : (b : Bool) → eqb m n ≡ b → m ≡ n
    go true e = eqb-true m n e
    go false e = absurd (h e)

-- A test that is accepted holds.
pub holds : (b : Bool) → refusal_of b ≡ 0 → b ≡ true
holds true e = refl
holds false e = absurd (omega arith)

-- ---- revisions

-- No number passes the test of revisions but these.
no_revision : (revision : ℕ) → is_revision revision ≡ true → NoRevision revision → ⊥
unfolding is_revision NoRevision
no_revision revision e w = go (eqb revision 1) refl e
  where
    go : (b : Bool) → eqb revision 1 ≡ b → b || eqb revision 2 ≡ true → ⊥
    go true f e = w.0 (eqb-true revision 1 f)
    go false f e = w.1 (eqb-true revision 2 e)

-- Such numbers are 0, 3 and 257.
pub no_revisions : NoRevision 0 × NoRevision 3 × NoRevision 257
unfolding NoRevision
no_revisions = ((eqb-false 0 1 refl, eqb-false 0 2 refl), (eqb-false 3 1 refl, eqb-false 3 2 refl), (eqb-false 257 1 refl, eqb-false 257 2 refl))

-- An entry that accepts only revisions.
module _ {A B : Type 0} {right : A → B} (refusal : B → ℕ) (revision : A → ℕ)
    (only-known : (x : A) → refusal (right x) ≡ 0 → is_revision (revision x) ≡ true) where
  pub bad_revision : BadRevisionRuledOut right refusal revision
  bad_revision = accepts_some refusal _ (λ x w e. no_revision (revision x) (only-known x e) w)

-- ---- states

-- Of marks that fall, the first is not above the highest place, and the others fall from it.
module _ (low high m : ℕ) (ms : List ℕ) (e : falling low high (m ∷ ms) ≡ true) where
  fall_first : m ≤ high
  unfolding falling
  fall_first = leb-true m high (and_right (leb low m) (leb m high) (and_left (leb low m && leb m high) (falling low m ms) e))

  fall_rest : falling low m ms ≡ true
  unfolding falling
  fall_rest = and_right (leb low m && leb m high) (falling low m ms) e

-- No mark is above the highest place, nor above the one before it; no number is over 15.
fall_below : (low high : ℕ) (ms : List ℕ) (i : ℕ) → falling low high ms ≡ true → get_or ms i 0 ≤ high
fall_below low high [] i e = omega arith
fall_below low high (m ∷ ms) zero e = fall_first low high m ms e
fall_below low high (m ∷ ms) (suc i) e =
    let h = fall_first low high m ms e in
    let k = fall_below low m ms i (fall_rest low high m ms e) in
    omega arith

fall_apart : (low high : ℕ) (ms : List ℕ) (i : ℕ) → falling low high ms ≡ true → get_or ms (suc i) 0 ≤ get_or ms i 0
fall_apart low high [] i e = omega arith
fall_apart low high (m ∷ ms) zero e = fall_below low m ms 0 (fall_rest low high m ms e)
fall_apart low high (m ∷ ms) (suc i) e = fall_apart low m ms i (fall_rest low high m ms e)

all_small : (ns : List ℕ) (i : ℕ) → small ns ≡ true → get_or ns i 0 ≤ 15
unfolding small
all_small [] i e = omega arith
all_small (n ∷ ns) zero e = leb-true n 15 (and_left (leb n 15) (small ns) e)
all_small (n ∷ ns) (suc i) e = all_small ns i (and_right (leb n 15) (small ns) e)

module _ (s : State) (e : sound s ≡ true) where
  abbrev lengths : Bool
  lengths = leb s.length 65536 && leb s.start s.length

  abbrev known : Bool
  known = is_revision s.revision

  abbrev falls : Bool
  falls = falling s.start s.length (take s.opened s.marks)

  abbrev smalls : Bool
  smalls = small (take (s.opened + 1) s.numbers)

  abbrev before_marks : Bool
  before_marks = lengths && leb s.opened 7 && known

  sound_marks : before_marks && falls ≡ true
  unfolding sound
  sound_marks = and_left (before_marks && falls) smalls e

  sound_before_marks : before_marks ≡ true
  sound_before_marks = and_left before_marks falls sound_marks

  sound_short : s.length ≤ 65536
  sound_short =
      let both = and_left lengths (leb s.opened 7) (and_left (lengths && leb s.opened 7) known sound_before_marks) in
      leb-true s.length 65536 (and_left (leb s.length 65536) (leb s.start s.length) both)

  sound_falls : falls ≡ true
  sound_falls = and_right before_marks falls sound_marks

  sound_known : known ≡ true
  sound_known = and_right (lengths && leb s.opened 7) known sound_before_marks

  mark_within : (i : ℕ) → i < s.opened → get_or s.marks i 0 ≤ s.length
  mark_within i h = rw get_or-take at (fall_below s.start s.length (take s.opened s.marks) i sound_falls)

  marks_fall : (i : ℕ) → suc i < s.opened → get_or s.marks (suc i) 0 ≤ get_or s.marks i 0
  marks_fall i h =
      let k : i < s.opened = omega arith in
      let f = fall_apart s.start s.length (take s.opened s.marks) i sound_falls in
      rw (get_or-take s.opened s.marks (suc i) 0 h, get_or-take s.opened s.marks i 0 k) at f

  number_small : (i : ℕ) → i ≤ s.opened → get_or s.numbers i 0 ≤ 15
  unfolding sound
  number_small i h =
      let k : i < s.opened + 1 = omega arith in
      let f = all_small (take (s.opened + 1) s.numbers) i (and_right (before_marks && falls) smalls e) in
      rw (get_or-take (s.opened + 1) s.numbers i 0 k) at f

-- An entry that accepts only sound states.
module _ {A B : Type 0} {right : A → B} (refusal : B → ℕ) (state : A → State) (seven_marks : (x : A) → length (state x).marks ≡ 7)
    (only-sound : (x : A) → refusal (right x) ≡ 0 → sound (state x) ≡ true) where
  pub bad_state : BadStateRuledOut right refusal state
  bad_state =
      record {
        accepts_long_buffer = accepts_some refusal _ (λ x w e. let h = sound_short (state x) (only-sound x e) in omega arith);
        accepts_start_beyond_length = accepts_some refusal _ (λ x w e. let h = sound_within (state x) (only-sound x e) in omega arith);
        accepts_eight_open = accepts_some refusal _ (λ x w e. let h = sound_few (state x) (only-sound x e) in omega arith);
        accepts_other_revision = bad_revision refusal (λ x. (state x).revision) (λ x e. sound_known (state x) (only-sound x e));
        accepts_mark_below_start =
            accepts_some refusal _ (λ x w e.
            let few = sound_few (state x) (only-sound x e) in
            let seven = seven_marks x in
            let h = last_mark (state x) (only-sound x e) w.0 w.1 (omega arith) in
            let l = w.2 in
            omega arith);
        accepts_mark_beyond_length =
            accepts_some refusal _ (λ x w e. let h = mark_within (state x) (only-sound x e) w.0 w.1 in let l = w.2 in omega arith);
        accepts_rising_marks =
            accepts_some refusal _ (λ x w e. let h = marks_fall (state x) (only-sound x e) w.0 w.1 in let l = w.2 in omega arith);
        accepts_number_over_15 =
            accepts_some refusal _ (λ x w e. let h = number_small (state x) (only-sound x e) w.0 w.1 in let l = w.2 in omega arith);
      }

-- ---- tables

-- An entry that accepts only valid table values.
module _ {A B : Type 0} {right : A → B} (refusal : B → ℕ) (table : A → Table) (words : (x : A) → length (table x).words ≡ 64)
    (only-valid : (x : A) → refusal (right x) ≡ 0 → valid (table x) ≡ true) where
  pub bad_table_lem : BadTableRuledOut right refusal table
  bad_table_lem = accepts_some refusal _ (λ x w e. w (valid_loadable (table x) (words x) (only-valid x e)))
