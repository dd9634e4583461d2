-- Demand 1 by itself fixes what a check answers, and demand 3 what a shortener beside that check answers and stores. Beside both, the statement
-- `ShortAlready` fixes the check's answer whether a message is short. All of this is under either revision, and for numbers that are none.
use Prim.Native.Nat.{ℕ, ◌≤◌, ◌<◌}
use native.Mathlib.Omega.{arith}
use native.Mathlib.Decide.{ℕ_discrete}
use mathlib.Core.Path.{◌≡◌, refl, sym, ◌∙◌, ap, ap₂, subst}
use mathlib.Core.Bool.{Bool, true, false}
use mathlib.Core.List.{List, [], ◌∷◌}
use mathlib.Core.Logic.{◌⊎◌, inl, inr, ⊎_elim}
use lib.ListN.{length, take, drop, get_or}
use lib.Seq.{sets}
use lib.Dec.{leb, ltb}
use borrow.Author.Tests.{leb-true, leb-false, ltb-true, ltb-false, eqb-false}
use Rattle.reading.specs.Reading.{message_limit, last_number}
use Rattle.reading.specs.Checks.{refusal}
use Rattle.reading.specs.declared.Checked.{Checked}
use Rattle.octets.specs.Number.{Octets}
use Rattle.octets.proofs.Bools.{same_test}
use Rattle.octets.proofs.Number.{all_below256, are_octets}
use Rattle.table.specs.Load.{load}
use Rattle.table.specs.Schema.{Schema, is_revision, schema}
use Rattle.message.specs.ReadTheSame.{HasCut, IsShortest, OthersMore}
use Rattle.message_calls.specs.Demand3.{Demand3Holds, Shortens}
use Rattle.message_calls.specs.declared.Shortened.{Shortened}
use Rattle.message_calls.specs.Calls.{check_octets, short_octets, shorten_octets, shorten_buffer}
use Rattle.message_calls.specs.Demand1.{Demand1Holds}
use Rattle.message_calls.specs.ShortAlready.{ShortAlready}
use Rattle.message_calls.proofs.Demand1.{demand_1}
use Rattle.message_calls.proofs.Demand3.{demand_3}
use Rattle.message_calls.proofs.ShortAlready.{short_already}
use Rattle.wrong_programs.proofs.RulingOut.{differ_at}
use Rattle.wrong_programs.proofs.Computing.{hproto}
use Rattle.wrong_programs.proofs.Witnesses.{uints, only_marked}

-- The four cases of demand 1, for a table's octets, a revision, a message number and a message.
data Case (table : List ℕ) (revision n : ℕ) (s : List ℕ) : Type 0 where
  too_long : message_limit < length s → Case table revision n s
  bad_table : length s ≤ message_limit → ((load table).refusal ≡ 0 → ⊥) → Case table revision n s
  bad_number : length s ≤ message_limit → (load table).refusal ≡ 0 → (is_revision revision ≡ false) ⊎ (last_number < n) → Case table revision n s
  otherwise : length s ≤ message_limit → (load table).refusal ≡ 0 → is_revision revision ≡ true → n ≤ last_number → Case table revision n s

case_of : (table : List ℕ) (revision n : ℕ) (s : List ℕ) → Case table revision n s
case_of table revision n s = long (ltb message_limit (length s)) refl
  where
    number : (a b : Bool) → is_revision revision ≡ a → ltb last_number n ≡ b → length s ≤ message_limit → (load table).refusal ≡ 0 → Case table revision n s
    number false b r e h z = bad_number h z (inl r)
    number true true r e h z = bad_number h z (inr (ltb-true last_number n e))
    number true false r e h z = otherwise h z r (ltb-false last_number n e)

    loads : Dec ((load table).refusal ≡ 0) → length s ≤ message_limit → Case table revision n s
    loads (yes z) h = number (is_revision revision) (ltb last_number n) refl refl h z
    loads (no ne) h = bad_table h ne

    long : (b : Bool) → ltb message_limit (length s) ≡ b → Case table revision n s
    long true e = too_long (ltb-true message_limit (length s) e)
    long false e = loads (ℕ_discrete (load table).refusal 0) (ltb-false message_limit (length s) e)

-- A check that meets demand 1 answers what the check of this library does, on every input.
pub demand_1_fixes : (check : List ℕ → ℕ → ℕ → List ℕ → Checked) → Demand1Holds check
    → (table : List ℕ) → Octets table → (revision n : ℕ) (s : List ℕ) → Octets s → check table revision n s ≡ check_octets table revision n s
demand_1_fixes check meets table o revision n s p = go (case_of table revision n s)
  where
    go : Case table revision n s → check table revision n s ≡ check_octets table revision n s
    go (too_long h) = meets.too_long table revision n s h ∙ sym (demand_1.too_long table revision n s h)
    go (bad_table h ne) = meets.bad_table table revision n s h ne ∙ sym (demand_1.bad_table table revision n s h ne)
    go (bad_number h z k) = meets.bad_number table revision n s h z k ∙ sym (demand_1.bad_number table revision n s h z k)
    go (otherwise h z r k) =
        let x = meets.otherwise table revision n s h z r k o p in
        let y = demand_1.otherwise table revision n s h z r k o p in
        ⊎_elim (λ c. x.with_cut c.0 c.1 ∙ sym (y.with_cut c.0 c.1))
        (λ f. x.with_fault f.0 f.1 ∙ sym (y.with_fault f.0 f.1)) y.cut_or_fault

-- What the check accepts is within the limits.
pub record Within (table : List ℕ) (revision n : ℕ) (s : List ℕ) : Type 0 where
  pub short_enough : length s ≤ message_limit
  pub loads : (load table).refusal ≡ 0
  pub known : is_revision revision ≡ true
  pub small : n ≤ last_number

pub accepted_within : (table : List ℕ) (revision n : ℕ) (s : List ℕ) → (check_octets table revision n s).refusal ≡ 0 → Within table revision n s
unfolding refusal
accepted_within table revision n s e = go (case_of table revision n s)
  where
    never : (k place : ℕ) → 1 ≤ k → check_octets table revision n s ≡ refusal k place → ⊥
    never k place h r = let z : k ≡ 0 = sym (ap (λ (c : Checked). c.refusal) r) ∙ e in omega arith

    go : Case table revision n s → Within table revision n s
    go (too_long h) = absurd (never 1 0 (omega arith) (demand_1.too_long table revision n s h))
    go (bad_table h ne) = absurd (never 2 (load table).place (omega arith) (demand_1.bad_table table revision n s h ne))
    go (bad_number h z k) = absurd (never 2 0 (omega arith) (demand_1.bad_number table revision n s h z k))
    go (otherwise h z r k) = record { short_enough = h; loads = z; known = r; small = k }

-- Two lists of numbers are the same or not.
same_or_not : (a b : List ℕ) → Dec (a ≡ b)
same_or_not [] [] = yes refl
same_or_not [] (y ∷ b) = no (λ (e : [] ≡ y ∷ b). let k : 0 ≡ length (y ∷ b) = ap length e in absurd (omega arith))
same_or_not (x ∷ a) [] = no (λ (e : x ∷ a ≡ []). let k : length (x ∷ a) ≡ 0 = ap length e in absurd (omega arith))
same_or_not (x ∷ a) (y ∷ b) = both (ℕ_discrete x y) (same_or_not a b)
  where
    both : Dec (x ≡ y) → Dec (a ≡ b) → Dec (x ∷ a ≡ y ∷ b)
    both (yes p) (yes q) = yes (rw (p, q) refl)
    both (no d) q = no (λ e. d (ap (λ (s : List ℕ). get_or s 0 0) e))
    both (yes p) (no d) = no (λ e. d (ap (drop 1) e))

-- A message has one short form.
one_short : (sc : Schema) (n : ℕ) (s a b : List ℕ) → IsShortest sc n s a → IsShortest sc n s b → a ≡ b
unfolding OthersMore
one_short sc n s a b f g = go (same_or_not a b)
  where
    go : Dec (a ≡ b) → a ≡ b
    go (yes e) = e
    go (no d) =
        let h = f.others_more b g.shortest_octets g.reads_the_same (λ e. d (sym e)) in
        let k = g.others_more a f.shortest_octets f.reads_the_same d in
        absurd (omega arith)

-- Two short forms of a message lead to the same answer and the same buffer.
module _ (sc : Schema) (n : ℕ) (s : List ℕ) (check other : ℕ → List ℕ → Checked) (shorten shorten' : ℕ → List ℕ → List ℕ → Shortened)
    (buffer buffer' : ℕ → List ℕ → List ℕ → List ℕ) (a b out : List ℕ) (x : Shortens sc check shorten buffer n s a)
    (y : Shortens sc other shorten' buffer' n s b) where
  same : a ≡ b
  same = one_short sc n s a b x.is_shortest y.is_shortest

  agree : (shorten n s out ≡ shorten' n s out) × (buffer n s out ≡ buffer' n s out)
  agree = go (leb (length a) (length out)) refl
    where
      go : (t : Bool) → leb (length a) (length out) ≡ t → (shorten n s out ≡ shorten' n s out) × (buffer n s out ≡ buffer' n s out)
      go true r =
          let h = leb-true (length a) (length out) r in
          let p = x.with_room out h in
          let q = y.with_room out (subst (λ (l : List ℕ). length l ≤ length out) same h) in
          (p.0 ∙ rw same (sym q.0), p.1 ∙ rw same (sym q.1))
      go false r =
          let h = leb-false (length a) (length out) r in
          let p = x.without_room out h in
          let q = y.without_room out (subst (λ (l : List ℕ). length out < length l) same h) in
          (p.0 ∙ sym q.0, p.1 ∙ sym q.1)

-- A shortener that meets demand 3 answers and stores what the shortener of this library does.
module _ (check : List ℕ → ℕ → ℕ → List ℕ → Checked) (shorten : List ℕ → ℕ → ℕ → List ℕ → List ℕ → Shortened)
    (buffer : List ℕ → ℕ → ℕ → List ℕ → List ℕ → List ℕ) (meets : Demand3Holds check shorten buffer) (table : List ℕ) (o : Octets table) (revision : ℕ) where
  -- On every message that has a cut, with any check beside it.
  pub demand_3_fixes_cut : (load table).refusal ≡ 0 → is_revision revision ≡ true → (n : ℕ) → n ≤ last_number → (s : List ℕ) → Octets s
      → length s ≤ message_limit → HasCut (schema revision (load table).table) n s → (out : List ℕ)
      → (shorten table revision n s out ≡ shorten_octets table revision n s out) × (buffer table revision n s out ≡ shorten_buffer table revision n s out)
  demand_3_fixes_cut e r n k s p h cut out =
      let x = (meets.within_limits table o e revision r n k s p h).shortened cut in
      let y = (demand_3.within_limits table o e revision r n k s p h).shortened cut in
      agree (schema revision (load table).table) n s (check table revision) (check_octets table revision) (shorten table revision)
      (shorten_octets table revision) (buffer table revision) (shorten_buffer table revision) x.0 y.0 out x.1 y.1

  -- On every input for which the check beside it answers what the check of this library does.
  pub demand_3_fixes : (n : ℕ) (s : List ℕ) → Octets s → check table revision n s ≡ check_octets table revision n s → (out : List ℕ)
      → (shorten table revision n s out ≡ shorten_octets table revision n s out) × (buffer table revision n s out ≡ shorten_buffer table revision n s out)
  demand_3_fixes n s p same out = go (ℕ_discrete (check_octets table revision n s).refusal 0)
    where
      go : Dec ((check_octets table revision n s).refusal ≡ 0)
          → (shorten table revision n s out ≡ shorten_octets table revision n s out) × (buffer table revision n s out ≡ shorten_buffer table revision n s out)
      go (yes z) =
          let w = accepted_within table revision n s z in
          let d = demand_3.within_limits table o w.loads revision w.known n w.small s p w.short_enough in
          demand_3_fixes_cut w.loads w.known n w.small s p w.short_enough (d.accepted_exactly_cut.0 z) out
      go (no ne) =
          let x = meets.refused_alike table revision n s (λ e. ne (sym (ap (λ (c : Checked). c.refusal) same) ∙ e)) out in
          let y = demand_3.refused_alike table revision n s ne out in
          (x.0 ∙ ap (λ (c : Checked). record { refusal = c.refusal; place = c.place; length = 0 }) same ∙ sym y.0, x.1 ∙ sym y.1)

  -- With a check that meets demand 1, on every input.
  pub demands_fix : Demand1Holds check → (n : ℕ) (s : List ℕ) → Octets s → (out : List ℕ)
      → (check table revision n s ≡ check_octets table revision n s) × (shorten table revision n s out ≡ shorten_octets table revision n s out)
      × (buffer table revision n s out ≡ shorten_buffer table revision n s out)
  demands_fix first n s p out =
      let same = demand_1_fixes check first table o revision n s p in
      let f = demand_3_fixes n s p same out in
      (same, f.0, f.1)

  -- A function that meets `ShortAlready` beside both gives the answer of this library whether a message is short, on every input.
  pub short_fixed : Demand1Holds check → (short : List ℕ → ℕ → ℕ → List ℕ → Bool) → ShortAlready check short shorten buffer
      → (n : ℕ) (s : List ℕ) → Octets s → short table revision n s ≡ short_octets table revision n s
  short_fixed first short already n s p = go (ℕ_discrete (check_octets table revision n s).refusal 0)
    where
      refusal_is : (check table revision n s).refusal ≡ (check_octets table revision n s).refusal
      refusal_is = ap (λ (c : Checked). c.refusal) (demand_1_fixes check first table o revision n s p)

      go : Dec ((check_octets table revision n s).refusal ≡ 0) → short table revision n s ≡ short_octets table revision n s
      -- With the shortest octets as the second buffer there is room, and both say yes exactly if the octets written are the message.
      go (yes z) =
          let w = accepted_within table revision n s z in
          let d = demand_3.within_limits table o w.loads revision w.known n w.small s p w.short_enough in
          let y = d.shortened (d.accepted_exactly_cut.0 z) in
          let out = y.0 in
          let r = ap (λ (a : Shortened). a.refusal) (y.1.with_room out (omega arith)).0 in
          let f = demands_fix first n s p out in
          let ours = short_already.short_exactly table revision n s out r in
          let theirs = already.short_exactly table revision n s out (ap (λ (a : Shortened). a.refusal) f.1 ∙ r) in
          let same-front = ap₂ (λ (a : Shortened) (b : List ℕ). take a.length b) f.1 f.2 in
          same_test (short table revision n s) (short_octets table revision n s) (λ e. ours.1 (sym same-front ∙ theirs.0 e))
          (λ e. theirs.1 (same-front ∙ ours.0 e))
      go (no ne) =
          already.refused_not_short table revision n s (λ e. ne (sym refusal_is ∙ e)) ∙ sym (short_already.refused_not_short table revision n s ne)

-- So no shortener that copies its input meets demand 3, with any answer and any check beside it: the copy of a uint 5 in four
-- octets is not the shortest.
abbrev long : List ℕ
long = 0x1d ∷ 0x00 ∷ 0x01 ∷ 0x05 ∷ []

shortened : shorten_buffer uints 2 0 long (9 ∷ 9 ∷ 9 ∷ 9 ∷ []) ≡ 0x11 ∷ 0x05 ∷ 9 ∷ 9 ∷ []
unfolding hproto
shortened = refl

accepted : ((load uints).refusal ≡ 0) × (is_revision 2 ≡ true) × ((check_octets uints 2 0 long).refusal ≡ 0)
unfolding hproto
accepted = (refl, refl, refl)

in_range_lem : Octets uints × Octets long
unfolding hproto all_below256
in_range_lem = (are_octets uints refl, are_octets long refl)

pub copies_its_input : (check : List ℕ → ℕ → ℕ → List ℕ → Checked) (shorten : List ℕ → ℕ → ℕ → List ℕ → List ℕ → Shortened)
    → Demand3Holds check shorten (λ table revision n s out. sets out 0 s) → ⊥
copies_its_input check shorten meets =
    let d = demand_3.within_limits uints in_range_lem.0 accepted.0 2 accepted.1 0 (omega arith) long in_range_lem.1 (omega arith) in
    let f = demand_3_fixes_cut check shorten (λ table revision n s out. sets out 0 s) meets uints in_range_lem.0 2 accepted.0 accepted.1 0 (omega arith)
    long in_range_lem.1 (omega arith) (d.accepted_exactly_cut.0 accepted.2) (9 ∷ 9 ∷ 9 ∷ 9 ∷ []) in
    differ_at 0 refl (f.1 ∙ shortened)

-- Nor does a check meet demand 1 that does not look at the revision: it has one answer for two fields with a tag that is marked single.
abbrev twice : List ℕ
twice = 0x10 ∷ 0x10 ∷ []

by_revision : ((check_octets (only_marked 1 1) 1 0 twice).refusal ≡ 0) × ((check_octets (only_marked 1 1) 2 0 twice).refusal ≡ 20)
unfolding hproto
by_revision = (refl, refl)

marked_in_range : Octets (only_marked 1 1) × Octets twice
unfolding hproto all_below256
marked_in_range = (are_octets (only_marked 1 1) refl, are_octets twice refl)

pub revision_ignored : (check : List ℕ → ℕ → List ℕ → Checked) → Demand1Holds (λ table revision n s. check table n s) → ⊥
revision_ignored check meets =
    eqb-false 0 20 refl (sym by_revision.0 ∙ ap (λ (c : Checked). c.refusal) (sym (answer 1) ∙ answer 2) ∙ by_revision.1)
  where
    answer : (revision : ℕ) → check (only_marked 1 1) 0 twice ≡ check_octets (only_marked 1 1) revision 0 twice
    answer revision =
        demand_1_fixes (λ table revision n s. check table n s) meets (only_marked 1 1) marked_in_range.0 revision 0 twice marked_in_range.1
