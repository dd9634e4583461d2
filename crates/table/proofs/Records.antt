-- The loader accepts octets exactly if they are the records of words, and returns these words. A table that is loaded has the entries of its
-- words.
use Prim.Native.Nat.{ℕ, zero, suc, ◌+◌, ◌-◌, ◌≤◌, ◌<◌}
use native.Mathlib.Omega.{arith}
use mathlib.Core.Path.{◌≡◌, refl, sym, ap, ◌∙◌, subst}
use mathlib.Core.Logic.{◌↔◌}
use mathlib.Core.Bool.{Bool, true, false, cond}
use mathlib.Core.List.{List, [], ◌∷◌, ◌++◌, map, append-nil, append_assoc}
use lib.ListN.{length, take, drop, replicate}
use lib.Seq.{take-add, take_at, take_all}
use lib.Dec.{leb}
use borrow.Author.Count.{below_more}
use borrow.Author.Tests.{leb-true}
use Rattle.octets.specs.Number.{Octets}
use Rattle.table.specs.Entry.{entry, entries}
use Rattle.table.specs.Load.{Loaded, record_size, place_at, record_at, word_at, well_formed, words_before, faulty, table_of, accepted, refused, load_from, load, Loadable}
use Rattle.table.specs.Repeat.{distinct}
use Rattle.table.specs.Valid.{all_in_range, valid}
use Rattle.table.specs.Records.{RecordOf, RecordsOf, none, more, IsTable}
use Rattle.table.proofs.WordRecords.{load_records, record_of_lem}
use Rattle.table.proofs.Valid.{well_formed_of, parts, loadable_valid}

-- The entries of the table that holds words are those in the words, in their order.
pub loaded_entries : (ws : List ℕ) → entries (table_of ws) ≡ map entry ws
unfolding entries table_of
loaded_entries ws = ap (map entry) (take_at ws (replicate (64 - length ws) 0) (length ws) refl)

-- One record more at the end.
records_snoc : (s r ws : List ℕ) (w : ℕ) → RecordsOf s ws → RecordOf (entry w) r → RecordsOf (s ++ r) (ws ++ (w ∷ []))
records_snoc s r ws w none o = subst (λ (x : List ℕ). RecordsOf x (w ∷ [])) (append-nil r) (more r [] w [] o none)
records_snoc s r ws w (more q t x xs p j) o =
    subst (λ (l : List ℕ). RecordsOf l (x ∷ (xs ++ (w ∷ [])))) (sym (append_assoc q t r)) (more q (t ++ r) x (xs ++ (w ∷ [])) p (records_snoc t r xs w j o))

-- Every record before the one at n is well-formed.
abbrev pub WellFormedBefore : List ℕ → ℕ → Type 0
WellFormedBefore s n = (i : ℕ) → i < n → well_formed (record_at s i) ≡ true

pub well_formed_front : (s : List ℕ) → Octets s → (n : ℕ) → WellFormedBefore s n → RecordsOf (take (place_at s n) s) (words_before s n)
unfolding words_before place_at record_at
well_formed_front s o zero h = none
well_formed_front s o (suc n) h =
    let p = place_at s n in
    rw (take-add p (record_size (drop p s)) s)
    (records_snoc (take p s) (record_at s n) (words_before s n) (word_at s n) (well_formed_front s o n (λ i k. h i (omega arith))) (record_of_lem s n o (h n (omega arith))))

-- If the loader accepts, the octets end after well-formed records, and it returns their words.
record Ended (s ws : List ℕ) : Type 0 where
  pub count : ℕ
  pub limit : count ≤ 64
  pub end : length s ≤ place_at s count
  pub well_formed : WellFormedBefore s count
  pub words : words_before s count ≡ ws

accepted_words : (a b : List ℕ) → accepted a ≡ accepted b → a ≡ b
unfolding accepted table_of
accepted_words a b e =
    sym (take_at a (replicate (64 - length a) 0) (length a) refl)
    ∙ ap (λ (l : Loaded). take l.table.count l.table.words) e
    ∙ take_at b (replicate (64 - length b) 0) (length b) refl

accepted_ended : (s ws : List ℕ) (fuel i : ℕ) → i + fuel ≤ 65 → WellFormedBefore s i → load_from fuel i s ≡ accepted ws → Ended s ws
unfolding load_from refused accepted
accepted_ended s ws zero i few h e = let z : ◌≡◌ {A = ℕ} 2 0 = ap (λ (l : Loaded). l.refusal) e in absurd (omega arith)
accepted_ended s ws (suc fuel) i few h e = go (leb (length s) (place_at s i)) (faulty s i) refl refl e (accepted_ended s ws fuel (suc i) (omega arith))
  where
    more : faulty s i ≡ false → WellFormedBefore s (suc i)
    more f j k = below_more (λ (x : ℕ). well_formed (record_at s x) ≡ true) i h (well_formed_of s i f) j (omega arith)

    go : (a b : Bool) → leb (length s) (place_at s i) ≡ a → faulty s i ≡ b
        → cond a (accepted (words_before s i)) (cond b (refused (place_at s i)) (load_from fuel (suc i) s)) ≡ accepted ws
        → (WellFormedBefore s (suc i) → load_from fuel (suc i) s ≡ accepted ws → Ended s ws) → Ended s ws
    go true b p f q on =
        record {
          count = i;
          limit = omega arith;
          end = leb-true (length s) (place_at s i) p;
          well_formed = h;
          words = accepted_words (words_before s i) ws q;
        }
    go false true p f q on = let z : ◌≡◌ {A = ℕ} 2 0 = ap (λ (l : Loaded). l.refusal) q in absurd (omega arith)
    go false false p f q on = on (more f) q

module _ (s : List ℕ) (o : Octets s) (ws : List ℕ) where
  accepted_table : load s ≡ accepted ws → IsTable s ws
  unfolding load Loadable valid accepted table_of
  accepted_table e =
      let d = accepted_ended s ws 65 0 (omega arith) (λ i k. absurd (omega arith)) e in
      let n = d.count in
      let v : valid (table_of ws) ≡ true = loadable_valid (table_of ws) (s, o, e) in
      let used : take (length ws) (ws ++ replicate (64 - length ws) 0) ≡ ws = take_at ws (replicate (64 - length ws) 0) (length ws) refl in
      let p = parts (table_of ws) v in
      let l = d.end in
      record {
        joined = subst (λ (x : List ℕ). RecordsOf x ws) (take_all (place_at s n) s d.end) (subst (RecordsOf (take (place_at s n) s)) d.words (well_formed_front s o n d.well_formed));
        few = p.few;
        in_range = sym (ap all_in_range used) ∙ p.range;
        apart = sym (ap distinct used) ∙ p.apart;
      }

  -- Octets load exactly where they are the records of words, at most 64, in range and apart; the words given are these.
  pub load_exactly : (load s ≡ accepted ws) ↔ IsTable s ws
  load_exactly =
      (accepted_table, λ t. load_records s ws t.joined t.few t.in_range t.apart)
