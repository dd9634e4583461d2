-- A dictionary value is valid exactly if the loader can return it.
use Prim.Native.Nat.{ℕ, ◌+◌, ◌-◌, ◌*◌, ◌/◌, ◌%◌, ◌^◌, ◌≤◌}
use native.Mathlib.Omega.{arith}
use mathlib.Core.Path.{◌≡◌, refl, sym, ap, ◌∙◌}
use mathlib.Core.Logic.{◌↔◌}
use mathlib.Core.Bool.{true, not, ◌&&◌}
use mathlib.Core.List.{List, [], ◌∷◌, ◌++◌, map}
use lib.ListN.{length, take, drop, replicate, length-drop, length-map, take-append-drop}
use lib.Seq.{take_at, drop_at, length-take-le}
use lib.Dec.{leb}
use borrow.Author.Tests.{leb-true, le-leb}
use Rattle.octets.specs.Number.{Octets}
use Rattle.octets.proofs.Bools.{and_left, and_right}
use Rattle.octets.proofs.Number.{octets_append}
use Rattle.reading.specs.Reading.{Reading, accepted, refused}
use Rattle.table.specs.Valid.{all_zero}
use Rattle.table.proofs.Valid.{zeros, zeros_are}
use Rattle.tib_field.specs.Fields.{joined, EachAfter}
use Rattle.tib_dictionary.specs.Entry.{in_range, has, word_of, entry, entries}
use Rattle.tib_dictionary.specs.Load as loads
use Rattle.tib_dictionary.specs.Load.{Loaded, loading, dictionary_of, load, result, Loadable}
use Rattle.tib_dictionary.specs.Valid.{all_good, valid}
use Rattle.tib_dictionary.specs.Records.{record_of, Continues}
use Rattle.tib_dictionary.specs.declared.Entry.{Entry}
use Rattle.tib_dictionary.specs.declared.Dictionary.{Dictionary}
use Rattle.tib_dictionary.proofs.Ranges.{bounds}
use Rattle.tib_dictionary.proofs.GoodEntries.{good_all, good_each, each_good, each_few}
use Rattle.tib_dictionary.proofs.EntryRecords.{record_octets}
use Rattle.tib_dictionary.proofs.Records.{load_exactly, refused_always_2}

-- ---- words and entries

word_entry : (w : ℕ) → word_of (entry w) ≡ w
unfolding word_of entry
word_entry w = omega arith

entry_word : (e : Entry) → in_range e ≡ true → entry (word_of e) ≡ e
unfolding word_of entry
entry_word e h =
    let b = bounds e h in
    let w = e.fid * 2 ^ 24 + e.kind * 2 ^ 16 + e.size in
    let fid : w / 2 ^ 24 ≡ e.fid = omega (arith, b.fid, b.kind, b.size) in
    let kind : w / 2 ^ 16 % 2 ^ 8 ≡ e.kind = omega (arith, b.fid, b.kind, b.size) in
    let size : w % 2 ^ 16 ≡ e.size = omega (arith, b.fid, b.kind, b.size) in
    same fid kind size
  where
    same : {f k n : ℕ} → f ≡ e.fid → k ≡ e.kind → n ≡ e.size → ◌≡◌ {A = Entry} (record { fid = f; kind = k; size = n }) e
    same p q r = rw (p, q, r) refl

words_entries : (ws : List ℕ) → map word_of (map entry ws) ≡ ws
words_entries [] = refl
words_entries (w ∷ ws) = rw (word_entry w, words_entries ws) refl

entries_words : (es : List Entry) → all_good es ≡ true → map entry (map word_of es) ≡ es
unfolding all_good
entries_words [] g = refl
entries_words (e ∷ es) g =
    let here = and_left (in_range e && not (has es e.fid)) (all_good es) g in
    rw (entry_word e (and_left (in_range e) (not (has es e.fid)) here), entries_words es (and_right (in_range e && not (has es e.fid)) (all_good es) g)) refl

-- A loaded dictionary's entries are the entries that were loaded.
pub entries_of_lem : (es : List Entry) → all_good es ≡ true → entries (dictionary_of es) ≡ es
unfolding entries dictionary_of
entries_of_lem es g = ap (map entry) (take_at (map word_of es) (replicate (512 - length es) 0) (length es) (length-map es word_of)) ∙ entries_words es g

-- ---- a dictionary that can be loaded is valid

pub dictionary_valid : (es : List Entry) → length es ≤ 512 → all_good es ≡ true → valid (dictionary_of es) ≡ true
unfolding valid dictionary_of
dictionary_valid es few g =
    let unused : drop (length es) (map word_of es ++ replicate (512 - length es) 0) ≡ replicate (512 - length es) 0 =
    drop_at (map word_of es) (replicate (512 - length es) 0) (length es) (length-map es word_of) in
    rw (le-leb (length es) 512 few, entries_of_lem es g, g, unused) (zeros (512 - length es))

module _ (s : List ℕ) (o : Octets s) (es : List Entry) (e : loading s ≡ accepted es) where
  loaded_each : EachAfter Continues [] es
  loaded_each = ((load_exactly s o es).0 e).each

  pub loaded_few : length es ≤ 512
  loaded_few = let k = each_few [] es loaded_each (omega arith) in omega arith

  pub loaded_good : all_good es ≡ true
  loaded_good = sym (good_all es) ∙ each_good [] es loaded_each

  -- The entries of the dictionary that the loader returns are those of the octets.
  pub loaded_entries : entries (dictionary_of es) ≡ es
  loaded_entries = entries_of_lem es loaded_good

  pub loaded_valid : valid (dictionary_of es) ≡ true
  loaded_valid = dictionary_valid es loaded_few loaded_good

-- ---- a valid dictionary can be loaded, from the records of its entries

records_octets : (es : List Entry) → all_good es ≡ true → Octets (joined record_of es)
unfolding all_good joined Octets
records_octets [] g = tt
records_octets (e ∷ es) g =
    let here = and_left (in_range e && not (has es e.fid)) (all_good es) g in
    octets_append (record_of e) (joined record_of es) (record_octets e (and_left (in_range e) (not (has es e.fid)) here))
    (records_octets es (and_right (in_range e && not (has es e.fid)) (all_good es) g))

pub good_loads : (es : List Entry) → length es ≤ 512 → (g : all_good es ≡ true) → loading (joined record_of es) ≡ accepted es
good_loads es few g =
    (load_exactly (joined record_of es) (records_octets es g) es).1 (record { divides = refl; each = good_each [] es (good_all es ∙ g) (omega arith) })

-- ---- the law

module _ (d : Dictionary) where
  pub loadable_valid : Loadable d → valid d ≡ true
  unfolding Loadable load result loads.accepted loads.refused
  loadable_valid l = go (loading l.0) refl l.2
    where
      go : (r : Reading (List Entry)) → loading l.0 ≡ r → result r ≡ record { refusal = 0; place = 0; dictionary = d } → valid d ≡ true
      go (accepted es) e q =
          let same : dictionary_of es ≡ d = ap (λ (x : Loaded). x.dictionary) q in
          rw (← same) (loaded_valid l.0 l.1 es e)
      go (refused k p) e q =
          let z : k ≡ 0 = ap (λ (x : Loaded). x.refusal) q in
          let two = refused_always_2 l.0 l.1 k p e in
          absurd (omega arith)

  module _ (size : length d.words ≡ 512) (v : valid d ≡ true) where
    abbrev used : List ℕ
    used = take d.count d.words

    abbrev rest : List ℕ
    rest = drop d.count d.words

    front : leb d.count 512 && all_good (entries d) ≡ true
    unfolding valid
    front = and_left (leb d.count 512 && all_good (entries d)) (all_zero rest) v

    pub few : d.count ≤ 512
    few = leb-true d.count 512 (and_left (leb d.count 512) (all_good (entries d)) front)

    pub good : all_good (entries d) ≡ true
    good = and_right (leb d.count 512) (all_good (entries d)) front

    unused : all_zero rest ≡ true
    unfolding valid
    unused = and_right (leb d.count 512 && all_good (entries d)) (all_zero rest) v

    count_is : length (entries d) ≡ d.count
    unfolding entries
    count_is = length-map used entry ∙ length-take-le d.count d.words (omega (arith, few))

    -- A valid dictionary value is the one that holds its entries.
    pub again : dictionary_of (entries d) ≡ d
    unfolding dictionary_of entries
    again =
        let n : length rest ≡ 512 - d.count = length-drop d.count d.words ∙ rw size refl in
        let words : map word_of (entries d) ++ replicate (512 - d.count) 0 ≡ d.words = filled n in
        rw (count_is, words) refl
      where
        filled : length rest ≡ 512 - d.count → map word_of (entries d) ++ replicate (512 - d.count) 0 ≡ d.words
        filled n = ap (λ (ws : List ℕ). ws ++ replicate (512 - d.count) 0) (words_entries used) ∙ rw (← n, ← zeros_are rest unused) (take-append-drop d.count d.words)

    pub valid_loadable : Loadable d
    unfolding Loadable load result loads.accepted
    valid_loadable =
        let s = joined record_of (entries d) in
        (s, records_octets (entries d) good, rw (good_loads (entries d) (omega (arith, few, count_is)) good, again) refl)

  -- Every dictionary value of the code has 512 words, so that premise limits nothing.
  pub valid_exactly : length d.words ≡ 512 → (valid d ≡ true) ↔ Loadable d
  valid_exactly size = (λ v. valid_loadable size v, loadable_valid)
