-- The answers of the calls that take the octets of a table, case by case.
use Prim.Native.Nat.{ℕ, zero, suc, ◌-◌, ◌≤◌, ◌<◌}
use native.Mathlib.Omega.{arith}
use mathlib.Core.Path.{◌≡◌, refl, sym, ap, ◌∙◌}
use mathlib.Core.Bool.{Bool, true, false, cond}
use mathlib.Core.List.{List}
use lib.ListN.{length, take, get_or, replicate}
use lib.Seq.{take_at}
use lib.Dec.{eqb, leb}
use borrow.Author.Tests.{eqb-true, eqb-false, eq-eqb, le-leb, lt-leb}
use Rattle.reading.specs.Reading.{message_limit}
use Rattle.reading.specs.declared.Fault.{Fault}
use Rattle.reading.specs.declared.Refusal.TheVariants as Refusal
use Rattle.std.specs.Prelude.{Err}
use Rattle.octets.specs.Number.{Octets}
use Rattle.octets.proofs.Bools.{and_left, and_right, and_both}
use Rattle.table.specs.Load.{place_at, record_at, word_at, well_formed, words_before, table_of, accepted, refused, load}
use Rattle.table.specs.Repeat.{distinct}
use Rattle.table.specs.Valid.{all_in_range, valid}
use Rattle.table.specs.declared.Table.{Table}
use Rattle.table.proofs.Load.{words_at, length_words}
use Rattle.table.proofs.LoadResults.{loaded_valid}
use Rattle.table.proofs.Valid.{parts}
use Rattle.table_index.specs.internal.Cells.{word_under, inserted_before, prefix_end, prefix_length, inserted_words, cell_for}
use Rattle.table_index.proofs.IndexLaws.{octets_accepted, octets_refused, octets_few, words_used}
use Rattle.writer_state.specs.Calls.{or_refuse, mask, level, begun, start_refusal, started}
use Rattle.writer_state.specs.Results.{written}
use Rattle.writer_state.specs.internal.Starts.{begins}
use Rattle.writer_state.specs.ByOctets.{by_octets, refused_at, started_octets, usable}
use Rattle.writer_state.specs.Sound.{sound}
use Rattle.writer_state.specs.internal.Found.{FoundAnswer, found_answer, none_at, found_under, found_octets, IsIndex}
use Rattle.writer_state.specs.internal.Tags.{cell_kind}
use Rattle.writer_state.specs.declared.State.{State}
use Rattle.writer_state.specs.declared.Written.{Written}
use Rattle.writer_state.proofs.TagKinds.{tag_known}

-- ---- a state that a call can use

module _ (s : State) (len : ℕ) where
  pub usable_same : len ≡ s.length → sound s ≡ usable s len
  unfolding usable
  usable_same e = rw (eq-eqb len s.length e) refl

  module _ (u : usable s len ≡ true) where
    pub same_length : len ≡ s.length
    unfolding usable
    same_length = eqb-true len s.length (and_left (eqb len s.length) (sound s) u)

    pub usable_sound : sound s ≡ true
    unfolding usable
    usable_sound = and_right (eqb len s.length) (sound s) u

-- ---- the three cases

module _ {A : Type 0} (before : Bool) (reason : ℕ) (octets : List ℕ) (under : Table → A) (refuse : ℕ → ℕ → A) where
  pub by_before : before ≡ false → by_octets before reason octets under refuse ≡ refuse reason 0
  unfolding by_octets
  by_before e = rw e refl

  module _ (b : before ≡ true) where
    pub by_refused : (place : ℕ) → load octets ≡ refused place → by_octets before reason octets under refuse ≡ refuse 2 place
    unfolding by_octets refused
    by_refused place e = rw (b, e) refl

    pub by_loaded : (load octets).refusal ≡ 0 → by_octets before reason octets under refuse ≡ under (load octets).table
    unfolding by_octets
    by_loaded z = rw (b, z) refl

-- A function of the answer is the answer by that function.
pub by_map : {A B : Type 0} (F : A → B) (before : Bool) (reason : ℕ) (octets : List ℕ) (under : Table → A) (refuse : ℕ → ℕ → A) (under' : Table → B)
    (refuse' : ℕ → ℕ → B) → (reason ≡ 0 → ⊥) → ((t : Table) → F (under t) ≡ under' t) → ((k place : ℕ) → (k ≡ 0 → ⊥) → F (refuse k place) ≡ refuse' k place)
    → F (by_octets before reason octets under refuse) ≡ by_octets before reason octets under' refuse'
unfolding by_octets
by_map F false reason octets under refuse under' refuse' ne f g = g reason 0 ne
by_map F true reason octets under refuse under' refuse' ne f g = go (eqb (load octets).refusal 0) refl
  where
    go : (b : Bool) → eqb (load octets).refusal 0 ≡ b
        → F (cond b (under (load octets).table) (refuse (load octets).refusal (load octets).place))
        ≡ cond b (under' (load octets).table) (refuse' (load octets).refusal (load octets).place)
    go true e = f (load octets).table
    go false e = g (load octets).refusal (load octets).place (eqb-false (load octets).refusal 0 e)

-- An answer without a refusal is that under the loaded table.
pub by_accepted : {A : Type 0} (reasonOf : A → ℕ) (before : Bool) (reason : ℕ) (octets : List ℕ) (under : Table → A) (refuse : ℕ → ℕ → A)
    → (reason ≡ 0 → ⊥) → ((k place : ℕ) → reasonOf (refuse k place) ≡ k) → reasonOf (by_octets before reason octets under refuse) ≡ 0
    → (before ≡ true) × ((load octets).refusal ≡ 0)
unfolding by_octets
by_accepted reasonOf false reason octets under refuse ne told z = absurd (ne (sym (told reason 0) ∙ z))
by_accepted reasonOf true reason octets under refuse ne told z = (refl, go (eqb (load octets).refusal 0) refl z)
  where
    go : (b : Bool) → eqb (load octets).refusal 0 ≡ b
        → reasonOf (cond b (under (load octets).table) (refuse (load octets).refusal (load octets).place)) ≡ 0 → (load octets).refusal ≡ 0
    go true e y = eqb-true (load octets).refusal 0 e
    go false e y = sym (told (load octets).refusal (load octets).place) ∙ y

-- ---- an index of the octets under a revision, made in cleared cells; `end` is the place after the records that it has

-- Words that agree up to n give the same index.
same_inserted : (f g : ℕ → ℕ) (cells : List ℕ) (n : ℕ) → ((i : ℕ) → i < n → f i ≡ g i) → inserted_before f cells n ≡ inserted_before g cells n
unfolding inserted_before
same_inserted f g cells zero h = refl
same_inserted f g cells (suc n) h = rw (h n (omega arith), same_inserted f g cells n (λ i l. h i (omega arith))) refl

-- All words of a valid table are indexed.
words_all : (revision : ℕ) (ws : List ℕ) → length ws ≤ 64 → all_in_range ws ≡ true → distinct ws ≡ true → prefix_length revision ws (replicate 128 0) ≡ length ws
words_all revision ws few range apart =
    eqb-true (prefix_length revision ws (replicate 128 0)) (length ws) (words_used revision ws few ∙ and_both (all_in_range ws) (distinct ws) range apart)

-- A table that loads is valid.
pub valid_loaded : (octets : List ℕ) → Octets octets → (load octets).refusal ≡ 0 → valid (load octets).table ≡ true
valid_loaded octets o z = loaded_valid octets (load octets) o refl z

module _ (octets : List ℕ) (revision : ℕ) where
  abbrev pub count : ℕ
  count = prefix_end (λ i. well_formed (record_at octets i)) (λ i. word_under revision (word_at octets i)) (replicate 128 0) 0 64

  module _ (end : ℕ) (ended : end ≡ place_at octets count) where
    pub index_refused : end < length octets → load octets ≡ refused end
    index_refused l = octets_refused revision octets count refl (omega arith) ∙ ap refused (sym ended)

    module _ (l : length octets ≤ end) where
      whole : load octets ≡ accepted (words_before octets count)
      whole = octets_accepted revision octets count refl (omega arith)

      pub index_loads : (load octets).refusal ≡ 0
      unfolding accepted
      index_loads = rw whole refl

      abbrev words : List ℕ
      words = words_before octets count

      used_words : take (load octets).table.count (load octets).table.words ≡ words
      unfolding accepted table_of
      used_words = rw whole (take_at words (replicate (64 - length words) 0) (length words) refl)

      -- It is the index of the words of the loaded table.
      pub index_filled : Octets octets → {cells : List ℕ} → cells ≡ inserted_before (λ i. word_under revision (word_at octets i)) (replicate 128 0) count
          → cells ≡ inserted_words revision (take (load octets).table.count (load octets).table.words) (replicate 128 0)
      unfolding inserted_words
      index_filled o filled =
          let p = parts (load octets).table (valid_loaded octets o index_loads) in
          let few : length words ≤ 64 = let k = octets_few revision octets count refl in omega (arith, length_words octets count) in
          let all : prefix_length revision words (replicate 128 0) ≡ count =
          words_all revision words few (ap all_in_range (sym used_words) ∙ p.range) (ap distinct (sym used_words) ∙ p.apart) ∙ length_words octets count in
          filled
          ∙ same_inserted (λ i. word_under revision (word_at octets i)) (λ i. word_under revision (get_or words i 0)) (replicate 128 0) count
          (λ i h. ap (word_under revision) (sym (words_at octets i count h)))
          ∙ rw (used_words, all) refl

-- ---- the answer of `tag_kind_by_octets`

module _ (octets : List ℕ) (s : State) (len tag wanted : ℕ) where
  abbrev under_table : Table → FoundAnswer
  under_table t = found_under t s len tag wanted

  pub tag_unusable : usable s len ≡ false
      → ◌≡◌ {A = FoundAnswer} (record { place = 0; tagged = record { refusal = 10; kind = 0; inner = 0; mask = 0 } }) (found_octets octets s len tag wanted)
  unfolding found_octets none_at
  tag_unusable u = sym (by_before (usable s len) 10 octets under_table none_at u)

  module _ (u : usable s len ≡ true) where
    pub tag_faulty : (f : Fault) → f.refusal ≡ Refusal.Table → load octets ≡ refused f.place → found_answer (Err f) ≡ found_octets octets s len tag wanted
    unfolding found_octets none_at
    tag_faulty f e l = rw e (sym (by_refused (usable s len) 10 octets under_table none_at u f.place l))

    pub tag_loaded : {cells : List ℕ} → IsIndex octets s.revision cells → {r : FoundAnswer}
        → r ≡ record { place = 0; tagged = cell_kind (cell_for cells (level s) tag) (mask s) wanted } → r ≡ found_octets octets s len tag wanted
    unfolding found_octets
    tag_loaded i q =
        tag_known (load octets).table s tag i.good i.filled len wanted u q ∙ sym (by_loaded (usable s len) 10 octets under_table none_at u i.loads)

-- ---- the answer of `start_by_octets`

module _ (octets : List ℕ) (revision number len : ℕ) where
  abbrev start_under : Table → Written
  start_under t = started t revision number len

  pub start_long : message_limit < len → ◌≡◌ {A = Written} (record { refusal = 1; place = 0; state = begun 0 0 0 }) (started_octets octets revision number len)
  unfolding started_octets refused_at
  start_long h = sym (by_before (leb len message_limit) 1 octets start_under (refused_at (begun 0 0 0)) (lt-leb len message_limit h))

  module _ (h : len ≤ message_limit) where
    pub start_faulty : (f : Fault) → f.refusal ≡ Refusal.Table → load octets ≡ refused f.place
        → written (begun 0 0 0) (Err f) ≡ started_octets octets revision number len
    unfolding started_octets refused_at
    start_faulty f e l =
        rw e (sym (by_refused (leb len message_limit) 1 octets start_under (refused_at (begun 0 0 0)) (le-leb len message_limit h) f.place l))

    pub start_loaded : {cells : List ℕ} → IsIndex octets 1 cells → begins len revision number ≡ started_octets octets revision number len
    unfolding started_octets begins started start_refusal or_refuse
    start_loaded i =
        let e : begins len revision number ≡ start_under (load octets).table = rw (le-leb len message_limit h, i.good) refl in
        e ∙ sym (by_loaded (leb len message_limit) 1 octets start_under (refused_at (begun 0 0 0)) (le-leb len message_limit h) i.loads)
