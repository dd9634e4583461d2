-- The loop invariant of inserting words one by one.
use Prim.Native.Nat.{ℕ, suc, ◌+◌, ◌*◌, ◌-◌, ◌/◌, ◌^◌, ◌≤◌, ◌<◌, min}
use native.Mathlib.Numerals.{add-one}
use native.Mathlib.Omega.{arith}
use mathlib.Core.Path.{◌≡◌, refl, sym, ap, ◌∙◌, subst}
use mathlib.Core.Bool.{Bool, true, false, cond, and-false}
use mathlib.Core.List.{List}
use lib.ListN.{length, drop, get_or}
use lib.Dec.{eqb}
use borrow.Author.Tests.{eq-eqb, ne_eqb}
use Rattle.table.specs.Entry.{entry}
use Rattle.table.specs.Load.{in_range, place_at, record_at, word_at, well_formed}
use Rattle.table_index.specs.internal.Pass.{InsertLoop, InsertedRecords, IndexEnds}
use Rattle.table_index.specs.internal.Record.{record_of, Unmarked}
use Rattle.table_index.specs.declared.record.Record.{Record}
use Rattle.std.specs.Prelude.{Some, None}
use Rattle.table_index.proofs.RecordLaws.{record_wrong, record_formed, record_word, record_next, record_within}
use Rattle.table_index.proofs.Chains.{chase_zero, chase_here}
use Rattle.table_index.specs.internal.Cells.{word_key, word_under, chase, search, insertable, linked, inserted, inserted_before, insertable_at, prefix_end, prefix_length, inserted_words}

-- ---- one word

module _ (w i : ℕ) (cells : List ℕ) {key : ℕ} {lacked : Bool} (known : key ≡ word_key w) (searched : lacked ≡ eqb (search cells key) 0) where
  insertable_is : insertable w cells ≡ lacked
  unfolding insertable
  insertable_is = rw (searched, known) refl

  pub insert_repeated : lacked ≡ false → (false ≡ insertable w cells) × (cells ≡ inserted w i cells)
  unfolding inserted
  insert_repeated e =
      let z : insertable w cells ≡ false = insertable_is ∙ e in
      (sym z, rw z refl)

  pub insert_new : {after : List ℕ} → lacked ≡ true → after ≡ linked w i cells → (true ≡ insertable w cells) × (after ≡ inserted w i cells)
  unfolding inserted
  insert_new e f =
      let z : insertable w cells ≡ true = insertable_is ∙ e in
      (sym z, rw z f)

-- Whether a word is insertable, by the last cell of its chain that was compared.
module _ (w i : ℕ) (cells : List ℕ) {key : ℕ} (known : key ≡ word_key w) (c : ℕ) (remaining : search cells key ≡ chase 64 cells key c) where
  pub chain_repeated : (c ≡ 0 → ⊥) → c / 4096 ≡ key → (false ≡ insertable w cells) × (cells ≡ inserted w i cells)
  chain_repeated d h = insert_repeated w i cells known (sym (ne_eqb (search cells key) 0 (λ z. d (sym (remaining ∙ chase_here cells key 63 c h) ∙ z)))) refl

  pub chain_new : {after : List ℕ} → c ≡ 0 → after ≡ linked w i cells → (true ≡ insertable w cells) × (after ≡ inserted w i cells)
  chain_new z f =
      insert_new w i cells known (sym (eq-eqb (search cells key) 0 (remaining ∙ rw z (chase_zero cells key 64)))) refl f

-- ---- word after word

module _ (good : ℕ → Bool) (word : ℕ → ℕ) (cells₀ : List ℕ) (most : ℕ) where
  pub insert_loop_starts : InsertLoop good word cells₀ most 0 cells₀
  unfolding inserted_before
  insert_loop_starts =
      let z : most - 0 ≡ most = omega arith in
      record { few = omega arith; rest = rw z refl; so_far = refl }

  module _ (n : ℕ) (cells : List ℕ) (k : InsertLoop good word cells₀ most n cells) where
    abbrev Ends : List ℕ → Type 0
    Ends after = (n ≡ prefix_end good word cells₀ 0 most) × (after ≡ inserted_before word cells₀ n)

    pub insert_loop_ends : most ≤ n → Ends cells
    unfolding prefix_end
    insert_loop_ends h =
        let z : most - n ≡ 0 = omega arith in
        (sym (k.rest ∙ rw z refl), k.so_far)

    module _ (before : n < most) where
      more : most - n ≡ suc (most - suc n)
      more = omega arith

      stops : insertable_at good word cells₀ n ≡ false → n ≡ prefix_end good word cells₀ 0 most
      unfolding prefix_end
      stops e = sym (k.rest ∙ rw (more, e) refl)

      pub insert_loop_bad : good n ≡ false → Ends cells
      unfolding insertable_at
      insert_loop_bad e = (stops (rw e refl), k.so_far)

      module _ (w : ℕ) (after : List ℕ) (result : Bool) (here : w ≡ word n) (tested : result ≡ insertable w cells) (stored : after ≡ inserted w n cells) where
        result_is : result ≡ insertable (word n) (inserted_before word cells₀ n)
        result_is = tested ∙ rw (here, k.so_far) refl

        pub insert_loop_repeated : result ≡ false → Ends after
        unfolding insertable_at inserted
        insert_loop_repeated h =
            let f : insertable (word n) (inserted_before word cells₀ n) ≡ false = sym result_is ∙ h in
            let g : insertable w cells ≡ false = sym tested ∙ h in
            (stops (rw f (and-false (good n))), stored ∙ rw g k.so_far)

        pub insert_loop_continues : good n ≡ true → result ≡ true → InsertLoop good word cells₀ most (n + 1) after
        unfolding prefix_end insertable_at inserted_before
        insert_loop_continues g h =
            let f : insertable (word n) (inserted_before word cells₀ n) ≡ true = sym result_is ∙ h in
            record {
              few = omega arith;
              rest = k.rest ∙ rw (more, g, f, add-one n) refl;
              so_far = stored ∙ rw (add-one n, here, k.so_far) refl;
            }

-- ---- the words of a list

-- The same for the words of a list under a revision, of which at most 64 are inserted.
abbrev pub InsertWordsLoop : ℕ → List ℕ → List ℕ → ℕ → List ℕ → Type 0
InsertWordsLoop revision ws cells₀ n cells =
    InsertLoop (λ i. in_range (entry (get_or ws i 0))) (λ i. word_under revision (get_or ws i 0)) cells₀ (min 64 (length ws)) n cells

module _ (revision : ℕ) (ws cells₀ : List ℕ) where
  abbrev good : ℕ → Bool
  good i = in_range (entry (get_or ws i 0))

  abbrev word : ℕ → ℕ
  word i = word_under revision (get_or ws i 0)

  abbrev most : ℕ
  most = min 64 (length ws)

  pub words_start : InsertWordsLoop revision ws cells₀ 0 cells₀
  words_start = insert_loop_starts good word cells₀ most

  module _ (n : ℕ) (cells : List ℕ) (k : InsertWordsLoop revision ws cells₀ n cells) where
    abbrev Done : List ℕ → Type 0
    Done after = (n ≡ prefix_length revision ws cells₀) × (after ≡ inserted_words revision ws cells₀)

    done : {after : List ℕ} → (n ≡ prefix_end good word cells₀ 0 most) × (after ≡ inserted_before word cells₀ n) → Done after
    unfolding prefix_length inserted_words
    done e = (e.0, e.1 ∙ ap (inserted_before word cells₀) e.0)

    pub words_end : most ≤ n → Done cells
    words_end h = done (insert_loop_ends good word cells₀ most n cells k h)

    module _ (before : n < most) where
      pub words_bad : good n ≡ false → Done cells
      words_bad e = done (insert_loop_bad good word cells₀ most n cells k before e)

      module _ {w key : ℕ} (under : w ≡ word n) (known : key ≡ word_key w) (c : ℕ) (remaining : search cells key ≡ chase 64 cells key c) where
        pub words_repeated : (c ≡ 0 → ⊥) → c / 4096 ≡ key → Done cells
        words_repeated d h =
            let e = chain_repeated w n cells known c remaining d h in
            done (insert_loop_repeated good word cells₀ most n cells k before w cells false under e.0 e.1 refl)

        pub words_continue : {after : List ℕ} → good n ≡ true → c ≡ 0 → after ≡ linked w n cells → InsertWordsLoop revision ws cells₀ (n + 1) after
        words_continue {after} g z f =
            let e = chain_new w n cells known c remaining z f in
            insert_loop_continues good word cells₀ most n cells k before w after true under e.0 e.1 g refl

-- ---- the records of octets

module _ (revision : ℕ) (s cells₀ : List ℕ) where
  abbrev formed : ℕ → Bool
  formed i = well_formed (record_at s i)

  abbrev record_under : ℕ → ℕ
  record_under i = word_under revision (word_at s i)

  pub octets_start : InsertedRecords revision s cells₀ 0 0 cells₀
  unfolding place_at
  octets_start = record { loop = insert_loop_starts formed record_under cells₀ 64; place = refl; within = omega arith }

  module _ (n at : ℕ) (cells : List ℕ) (k : InsertedRecords revision s cells₀ n at cells) where
    abbrev Read : List ℕ → Type 0
    Read after = IndexEnds revision s cells₀ at after

    read : {after : List ℕ} → (n ≡ prefix_end formed record_under cells₀ 0 64) × (after ≡ inserted_before record_under cells₀ n) → Read after
    unfolding IndexEnds
    read e = (k.place ∙ ap (place_at s) e.0, e.1 ∙ ap (inserted_before record_under cells₀) e.0)

    pub octets_end : 64 ≤ n → Read cells
    octets_end h = read (insert_loop_ends formed record_under cells₀ 64 n cells k.loop h)

    module _ (before : n < 64) where
      pub octets_bad : None ≡ record_of (drop at s) → Read cells
      octets_bad e = read (insert_loop_bad formed record_under cells₀ 64 n cells k.loop before (record_wrong s n at k.place e))

      module _ (r : Record) {w : ℕ} {after : List ℕ} {result : Bool} (e : Some r ≡ record_of (drop at s)) (under : w ≡ word_under revision r.word)
          (tested : result ≡ insertable w cells) (stored : after ≡ inserted w n cells) where
        here : w ≡ record_under n
        here = under ∙ ap (word_under revision) (record_word s n at k.place r e)

        pub octets_repeated : result ≡ false → Read after
        octets_repeated h = read (insert_loop_repeated formed record_under cells₀ 64 n cells k.loop before w after result here tested stored h)

        pub octets_continue : result ≡ true → InsertedRecords revision s cells₀ (n + 1) (at + r.size) after
        octets_continue h =
            record {
              loop = insert_loop_continues formed record_under cells₀ 64 n cells k.loop before w after result here tested stored (record_formed s n at k.place r e) h;
              place = rw (add-one n) (record_next s n at k.place r e);
              within = record_within s n at k.place r e;
            }

      -- A record without a mark, whose word is the same under every revision.
      module _ {x : ℕ} {after : List ℕ} {result : Bool} (plain : Unmarked (drop at s) x)
          (tested : result ≡ insertable x cells) (stored : after ≡ inserted x n cells) where
        unmarked_under : x ≡ word_under revision x
        unfolding word_under
        unmarked_under = go (eqb revision 2)
          where
            go : (t : Bool) → x ≡ cond t x (x / 2 ^ 8 * 2 ^ 8)
            go true = refl
            go false = omega (arith, plain.mark)

        -- It is not inserted: nothing changes.
        pub unmarked_stays : result ≡ false → InsertedRecords revision s cells₀ n at after
        unfolding inserted
        unmarked_stays h =
            let g : insertable x cells ≡ false = sym tested ∙ h in
            subst (InsertedRecords revision s cells₀ n at) (sym (stored ∙ rw g refl)) k

        pub unmarked_continue : (next : ℕ) → next ≡ at + 8 → result ≡ true → InsertedRecords revision s cells₀ (n + 1) next after
        unmarked_continue next place h =
            subst (λ (z : ℕ). InsertedRecords revision s cells₀ (n + 1) z after) (sym place)
            (octets_continue (record { word = x; size = 8 }) plain.is unmarked_under tested stored h)
