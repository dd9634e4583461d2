-- Wrong programs in the place of put_uint, put_int and put_octets.
use Prim.Native.Nat.{ℕ}
use mathlib.Core.Path.{◌≡◌, refl}
use mathlib.Core.List.{List, [], ◌∷◌}
use lib.Dec.{T, ltb}
use lib.IntN.{pos}
use borrow.Author.Tests.{eqb-false}
use Rattle.table.specs.declared.Table.{Table}
use Rattle.writer_state.specs.Sound.{sound}
use Rattle.writer_state.specs.declared.State.{State}
use Rattle.wrong_programs.specs.Kinds.{RuledOut, Rejects, Accepts, Invents, SeesOnly, always, due}
use Rattle.wrong_programs.specs.Writer.{Put, uint, int, octets, Value, PutInput, PutCall, Outcome, put_fits, put}
use Rattle.wrong_programs.proofs.RulingOut.{Sample, given, fixes, rejects, accepts, invents, sees_only, differ_at}
use Rattle.wrong_programs.proofs.Computing.{writer}
use Rattle.wrong_programs.proofs.WriterStates.{table, unused, ending, state_at, accepted, refused, outcome}

-- A sample for each put.
module _ (value : (p : Put) → PutInput p) (answer : Outcome)
    (u : T (put_fits uint (value uint))) (i : T (put_fits int (value int))) (o : T (put_fits octets (value octets)))
    (of-u : put uint (record { value = value uint; in_range = u }) ≡ answer)
    (of-i : put int (record { value = value int; in_range = i }) ≡ answer)
    (of-o : put octets (record { value = value octets; in_range = o }) ≡ answer) where
  pub in_range_lem : (p : Put) → T (put_fits p (value p))
  in_range_lem uint = u
  in_range_lem int = i
  in_range_lem octets = o

  pub fixed : (p : Put) → put p (record { value = value p; in_range = in_range_lem p }) ≡ answer
  unfolding in_range_lem
  fixed uint = of-u
  fixed int = of-i
  fixed octets = of-o

  abbrev pub each : (p : Put) → Sample (put p)
  each p = given (value p) answer (in_range_lem p) (fixed p)

-- The kind of the fields that a put is for, and two values for it: one octet 5, and none.
unfoldable pub kind : Put → ℕ
kind uint = 1
kind int = 2
kind octets = 3

unfoldable pub five : (p : Put) → Value p
unfolding Value
five uint = 5
five int = pos 5
five octets = 5 ∷ []

zero : (p : Put) → Value p
unfolding Value
zero uint = 0
zero int = pos 0
zero octets = []

abbrev asked : (p : Put) → State → ℕ → Value p → List ℕ → PutInput p
asked p s tag v buffer = record { table = table (kind p); state = s; tag = tag; value = v; buffer = buffer }

-- A put of 5 with the tag 1, and another with the state and the buffer that it leaves.
first : (p : Put) → Sample (put p)
unfolding writer kind five
first = each (λ p. asked p (state_at 6) 1 (five p) unused) (outcome (accepted (state_at 4)) (ending (0x11 ∷ 5 ∷ []))) tt tt tt refl refl refl

later : (p : Put) → Sample (put p)
unfolding writer kind five
later =
    each (λ p. asked p (state_at 4) 1 (five p) (ending (0x11 ∷ 5 ∷ [])))
    (outcome (accepted (state_at 2)) (ending (0x11 ∷ 5 ∷ 0x11 ∷ 5 ∷ []))) tt tt tt refl refl refl

-- A put of a value of no octets, and of 5 with the tag 2, and with a tag that is not in the table.
empty : (p : Put) → Sample (put p)
unfolding writer kind zero
empty = each (λ p. asked p (state_at 6) 1 (zero p) unused) (outcome (accepted (state_at 5)) (ending (0x10 ∷ []))) tt tt tt refl refl refl

of_tag_2 : (p : Put) → Sample (put p)
unfolding writer kind five
of_tag_2 = each (λ p. asked p (state_at 6) 2 (five p) unused) (outcome (accepted (state_at 4)) (ending (0x21 ∷ 5 ∷ []))) tt tt tt refl refl refl

of_tag_3 : (p : Put) → Sample (put p)
unfolding writer kind five
of_tag_3 = each (λ p. asked p (state_at 6) 3 (five p) unused) (outcome (refused 8 (state_at 6)) unused) tt tt tt refl refl refl

abbrev refusal : Outcome → ℕ
refusal r = r.answer.refusal

abbrev start_after : Outcome → ℕ
start_after r = r.answer.state.start

abbrev buffer_after : Outcome → List ℕ
buffer_after r = r.buffer

module _ (p : Put) where
  abbrev start_before : PutCall p → ℕ
  start_before x = x.value.state.start

  abbrev buffer_before : PutCall p → List ℕ
  buffer_before x = x.value.buffer

  -- The contract accepts the call.
  abbrev accepts_it : PutCall p → Type 0
  accepts_it = due (put p) refusal 0

  -- Octets are stored already.
  abbrev has_octets : PutCall p → Type 0
  has_octets x = T (ltb x.value.state.start x.value.state.length)

  -- It rejects all calls, or all with a sound state.
  abbrev has_sound_state : PutCall p → Type 0
  has_sound_state x = T (sound x.value.state)

  pub rejects_all : RuledOut (Rejects refusal has_sound_state) (put p)
  unfolding first
  rejects_all = rejects refusal has_sound_state (first p) tt refl

  -- It rejects every put after the first.
  pub rejects_later : RuledOut (Rejects refusal has_octets) (put p)
  unfolding later
  rejects_later = rejects refusal has_octets (later p) tt refl

  -- It accepts every call.
  pub accepts_all : RuledOut (Accepts refusal always) (put p)
  unfolding of_tag_3
  accepts_all = accepts refusal always (of_tag_3 p) tt (eqb-false 8 0 refl)

  -- It stores nothing, or nothing after the first put.
  pub stores_nothing : RuledOut (Invents buffer_after buffer_before always) (put p)
  unfolding first
  stores_nothing = invents buffer_after buffer_before always (first p) tt (differ_at 4 refl)

  pub stores_only_the_first : RuledOut (Invents buffer_after buffer_before has_octets) (put p)
  unfolding later
  stores_only_the_first = invents buffer_after buffer_before has_octets (later p) tt (differ_at 2 refl)

  -- After the first put it returns the state unchanged: the stored octets start where they did.
  pub state_unchanged : RuledOut (Invents start_after start_before has_octets) (put p)
  unfolding later
  state_unchanged = invents start_after start_before has_octets (later p) tt (eqb-false 2 4 refl)

  -- It stores the same for each value, or moves the start by the same.
  abbrev all_but_the_value : PutCall p → Table × State × ℕ × List ℕ
  all_but_the_value x = (x.value.table, x.value.state, x.value.tag, x.value.buffer)

  pub value_ignored : RuledOut (SeesOnly all_but_the_value buffer_after accepts_it) (put p)
  unfolding first empty
  value_ignored =
      sees_only all_but_the_value buffer_after accepts_it (first p) (empty p) (fixes refusal (first p)) (fixes refusal (empty p)) refl
      (differ_at 4 refl)

  pub value_ignored_in_state : RuledOut (SeesOnly all_but_the_value start_after accepts_it) (put p)
  unfolding first empty
  value_ignored_in_state =
      sees_only all_but_the_value start_after accepts_it (first p) (empty p) (fixes refusal (first p)) (fixes refusal (empty p)) refl
      (eqb-false 4 5 refl)

  -- It stores the same for each tag.
  abbrev all_but_the_tag : PutCall p → Table × State × Value p × List ℕ
  all_but_the_tag x = (x.value.table, x.value.state, x.value.value, x.value.buffer)

  pub tag_ignored : RuledOut (SeesOnly all_but_the_tag buffer_after accepts_it) (put p)
  unfolding first of_tag_2
  tag_ignored =
      sees_only all_but_the_tag buffer_after accepts_it (first p) (of_tag_2 p) (fixes refusal (first p)) (fixes refusal (of_tag_2 p)) refl
      (differ_at 4 refl)
