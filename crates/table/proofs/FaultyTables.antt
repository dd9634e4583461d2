-- Octets are refused at a place exactly where they are a faulty table at that place; there is at most one such place; and octets are a table or a
-- faulty table, never both.
use Prim.Native.Nat.{ℕ, zero, suc, ◌+◌, ◌≤◌, ◌<◌}
use native.Mathlib.Omega.{arith}
use mathlib.Core.Path.{◌≡◌, refl, sym, ap, ◌∙◌, subst}
use mathlib.Core.Logic.{◌↔◌, ◌⊎◌, inl, inr}
use mathlib.Core.Bool.{Bool, true, false, cond, not, ◌||◌, true≢false}
use mathlib.Core.List.{List, [], ◌∷◌, ◌++◌}
use lib.ListN.{length, take, drop, take-append-drop, length-append, length-drop}
use lib.Seq.{take-add, take_at, drop_at, length-take-le}
use lib.Dec.{leb}
use borrow.Author.Count.{below_more}
use borrow.Author.Tests.{leb-false, lt-leb}
use Rattle.octets.specs.Number.{Octets}
use Rattle.table.specs.Entry.{entry}
use Rattle.table.specs.Load.{Loaded, in_range, record_size, place_at, record_at, word_of, word_at, well_formed, words_before, pair, seen, faulty, accepted, refused, load_from, load}
use Rattle.table.specs.Repeat.{distinct}
use Rattle.table.specs.Valid.{all_in_range}
use Rattle.table.specs.Records.{RecordOf, none, IsTable}
use Rattle.table.specs.FaultyTable.{FaultyTable}
use Rattle.octets.proofs.Bools.{and_left, and_right, or_right}
use Rattle.table.proofs.Repeat.{distinct_snoc, distinct_last}
use Rattle.table.proofs.Load.{length_words, well_formed_range, load_fault}
use Rattle.table.proofs.Valid.{range_snoc, well_formed_of, unseen_of}
use Rattle.table.proofs.WordRecords.{fitting, Fitted, fitted, fitted_words, record_of_lem}
use Rattle.table.proofs.Records.{well_formed_front, WellFormedBefore, load_exactly}

-- ---- the last word of a table

range_last : (ws : List ℕ) (w : ℕ) → all_in_range (ws ++ (w ∷ [])) ≡ true → in_range (entry w) ≡ true
unfolding all_in_range
range_last [] w e = and_left (in_range (entry w)) true e
range_last (x ∷ ws) w e = range_last ws w (and_right (in_range (entry x)) (all_in_range (ws ++ (w ∷ []))) e)

-- ---- the records before the one at i, and this one

-- The records before the one at i are well-formed, and their octets are a table.
record Before (s : List ℕ) (i : ℕ) : Type 0 where
  pub formed : WellFormedBefore s i
  pub good : IsTable (take (place_at s i) s) (words_before s i)

module _ (s : List ℕ) (i : ℕ) where
  -- A record that is not faulty continues the table.
  next_before : Octets s → Before s i → faulty s i ≡ false → Before s (suc i)
  unfolding words_before faulty
  next_before o b e =
      let form = well_formed_of s i e in
      let early : i < 64 = leb-false 64 i (or_right (not (well_formed (record_at s i)) || seen (pair (word_at s i)) (words_before s i)) (leb 64 i) e) in
      let formed : WellFormedBefore s (suc i) = λ j k. below_more (λ (x : ℕ). well_formed (record_at s x) ≡ true) i b.formed form j (omega arith) in
      record {
        formed = formed;
        good = record {
          joined = well_formed_front s o (suc i) formed;
          few = simp length-append (omega (arith, length_words s i));
          in_range = range_snoc (words_before s i) (word_at s i) b.good.in_range (well_formed_range s i form);
          apart = distinct_snoc (words_before s i) (word_at s i) b.good.apart (unseen_of s i e);
        };
      }

  -- A record of a word that continues the table is not faulty.
  not_faulty : (w : ℕ) (r later : List ℕ) → RecordOf (entry w) r → drop (place_at s i) s ≡ r ++ later
      → IsTable (take (place_at s i) s ++ r) (words_before s i ++ (w ∷ [])) → faulty s i ≡ false
  unfolding faulty word_at record_at
  not_faulty w r later q e t =
      let f = fitting w r (range_last (words_before s i) w t.in_range) q in
      let here : record_at s i ≡ r = rw (e, f.size later) (take_at r later (length r) refl) in
      let few : length (words_before s i) + 1 ≤ 64 = simp length-append at t.few in
      let formed : well_formed (record_at s i) ≡ true = ap well_formed here ∙ f.well_formed in
      let unseen : seen (pair (word_at s i)) (words_before s i) ≡ false =
      ap (λ (x : ℕ). seen (pair x) (words_before s i)) (ap word_of here ∙ f.word) ∙ distinct_last (words_before s i) w t.apart in
      rw (formed, unseen, lt-leb 64 i (omega (arith, length_words s i))) refl

refused_place : (p q : ℕ) → refused p ≡ refused q → p ≡ q
unfolding refused
refused_place p q e = ap (λ (l : Loaded). l.place) e

accepted_not : (ws : List ℕ) (p : ℕ) → accepted ws ≡ refused p → ⊥
unfolding accepted refused
accepted_not ws p e = let z : ◌≡◌ {A = ℕ} 0 2 = ap (λ (l : Loaded). l.refusal) e in omega arith

-- ---- what is refused is a faulty table

-- A loader's result: the words of records, or the place at which the octets are a faulty table.
data Outcome (s : List ℕ) (l : Loaded) : Type 0 where
  loads : (ws : List ℕ) → l ≡ accepted ws → Outcome s l
  refuses : (place : ℕ) → l ≡ refused place → FaultyTable s place → Outcome s l

module _ (s : List ℕ) (o : Octets s) where
  faulty_here : (i : ℕ) → Before s i → place_at s i < length s → faulty s i ≡ true → FaultyTable s (place_at s i)
  faulty_here i b h e =
      record {
        ws = words_before s i;
        before = take (place_at s i) s;
        rest = drop (place_at s i) s;
        divides = sym (take-append-drop (place_at s i) s);
        good_before = b.good;
        more = rw (length-drop (place_at s i) s) (omega arith);
        next_faulty = λ w r later q p t. true≢false (sym e ∙ not_faulty s i w r later q p t);
        at = sym (length-take-le (place_at s i) s (omega arith));
      }

  outcome_from : (fuel i : ℕ) → i + fuel ≡ 65 → Before s i → Outcome s (load_from fuel i s)
  unfolding load_from
  outcome_from zero i few b = let h = b.good.few in absurd (omega (arith, length_words s i))
  outcome_from (suc fuel) i few b = go (leb (length s) (place_at s i)) (faulty s i) refl refl (outcome_from fuel (suc i) (omega arith))
    where
      go : (x y : Bool) → leb (length s) (place_at s i) ≡ x → faulty s i ≡ y → (Before s (suc i) → Outcome s (load_from fuel (suc i) s))
          → Outcome s (cond x (accepted (words_before s i)) (cond y (refused (place_at s i)) (load_from fuel (suc i) s)))
      go true y p q on = loads (words_before s i) refl
      go false true p q on = refuses (place_at s i) refl (faulty_here i b (leb-false (length s) (place_at s i) p) q)
      go false false p q on = on (next_before s i o b q)

  outcome : Outcome s (load s)
  unfolding load place_at words_before all_in_range distinct
  outcome =
      outcome_from 65 0 refl (record {
        formed = λ i k. absurd (omega arith);
        good = record { joined = none; few = omega arith; in_range = refl; apart = refl };
      })

-- ---- a faulty table is refused

module _ (ws before rest : List ℕ) (good : IsTable before ws) where
  abbrev whole : List ℕ
  whole = before ++ rest

  abbrev n : ℕ
  n = length ws

  fits : Fitted before ws rest
  fits = fitted before ws rest good.joined good.in_range

  words_are : words_before whole n ≡ ws
  words_are = fitted_words before ws rest fits

  before_is : take (place_at whole n) whole ≡ before
  before_is = take_at before rest (place_at whole n) (sym fits.end)

  rest_is : drop (place_at whole n) whole ≡ rest
  rest_is = drop_at before rest (place_at whole n) (sym fits.end)

  all_before : Before whole n
  all_before = record { formed = fits.formed; good = rw (before_is, words_are) good }

  -- The rest begins with the next record.
  next_rest : rest ≡ record_at whole n ++ drop (record_size rest) rest
  unfolding record_at
  next_rest = rw rest_is (sym (take-append-drop (record_size rest) rest))

  -- A next record that is not faulty continues the table.
  next_good : Octets whole → faulty whole n ≡ false → IsTable (before ++ record_at whole n) (ws ++ (word_at whole n ∷ []))
  unfolding words_before place_at record_at
  next_good o e =
      let front = take-add (place_at whole n) (record_size (drop (place_at whole n) whole)) whole ∙ ap (λ (l : List ℕ). l ++ record_at whole n) before_is in
      subst (λ (l : List ℕ). IsTable (before ++ record_at whole n) (l ++ (word_at whole n ∷ []))) words_are
      (subst (λ (l : List ℕ). IsTable l (words_before whole (suc n))) front (next_before whole n o all_before e).good)

  refused_after : Octets whole → 1 ≤ length rest
      → ((w : ℕ) (r later : List ℕ) → RecordOf (entry w) r → rest ≡ r ++ later → IsTable (before ++ r) (ws ++ (w ∷ [])) → ⊥)
      → load whole ≡ refused (length before)
  refused_after o more bad =
      load_fault whole n good.few fits.formed (ap distinct words_are ∙ good.apart)
      (rw (length-append before rest, fits.end) (omega arith)) (go (faulty whole n) refl) ∙ ap refused fits.end
    where
      go : (t : Bool) → faulty whole n ≡ t → t ≡ true
      go true e = refl
      go false e =
          absurd (bad (word_at whole n) (record_at whole n) (drop (record_size rest) rest) (record_of_lem whole n o (well_formed_of whole n e)) next_rest (next_good o e))

-- ---- the laws

module _ (s : List ℕ) (o : Octets s) where
  refused_faulty : (p : ℕ) → load s ≡ refused p → FaultyTable s p
  refused_faulty p e = go (outcome s o)
    where
      go : Outcome s (load s) → FaultyTable s p
      go (loads ws f) = absurd (accepted_not ws p (sym f ∙ e))
      go (refuses q f t) = subst (FaultyTable s) (refused_place q p (sym f ∙ e)) t

  faulty_refused : (p : ℕ) → FaultyTable s p → load s ≡ refused p
  faulty_refused p t =
      ap load t.divides ∙ refused_after t.ws t.before t.rest t.good_before (subst Octets t.divides o) t.more t.next_faulty
      ∙ ap refused (sym t.at)

  -- Octets are refused at a place exactly where they are a faulty table at that place.
  pub refused_exactly : (p : ℕ) → (load s ≡ refused p) ↔ FaultyTable s p
  refused_exactly p = (refused_faulty p, faulty_refused p)

  -- They are a faulty table at one place at most.
  pub faulty_place_unique : (p q : ℕ) → FaultyTable s p → FaultyTable s q → p ≡ q
  faulty_place_unique p q a b = refused_place p q (sym (faulty_refused p a) ∙ faulty_refused q b)

  -- They are a table or a faulty table,
  pub table_or_faulty : ((ws : List ℕ) × IsTable s ws) ⊎ ((p : ℕ) × FaultyTable s p)
  table_or_faulty = go (outcome s o)
    where
      go : Outcome s (load s) → ((ws : List ℕ) × IsTable s ws) ⊎ ((p : ℕ) × FaultyTable s p)
      go (loads ws e) = inl (ws, (load_exactly s o ws).0 e)
      go (refuses p e t) = inr (p, t)

  -- and never both.
  pub table_not_faulty : (ws : List ℕ) (p : ℕ) → IsTable s ws → FaultyTable s p → ⊥
  table_not_faulty ws p t f = accepted_not ws p (sym ((load_exactly s o ws).1 t) ∙ faulty_refused p f)
