-- Records of words, as the loader reads them: the record of a word in range is well-formed and has this word, whatever follows it, and a
-- well-formed record is a record of its word.
use Prim.Native.Nat.{ℕ, zero, suc, ◌+◌, ◌*◌, ◌/◌, ◌%◌, ◌≤◌, ◌<◌}
use native.Mathlib.Omega.{arith}
use mathlib.Core.Path.{◌≡◌, refl, sym, ap, subst, ◌∙◌}
use mathlib.Core.Logic.{◌⊎◌, inl, inr}
use mathlib.Core.Bool.{true, cond, ◌&&◌}
use mathlib.Core.List.{List, [], ◌∷◌, ◌++◌, append-nil, append_assoc}
use lib.ListN.{length, take, drop, get_or, length-append, get_or-eq_default}
use lib.Seq.{drop-append-add, take_at, take_all, take-suc, take-length, length-take-le}
use lib.Dec.{eqb, leb, ltb, lit<}
use borrow.Author.Tests.{ltb-true}
use Rattle.octets.specs.Number.{Octets, big_endian, octets_of}
use Rattle.octets.proofs.Bools.{and_left, and_right, and_four}
use Rattle.octets.proofs.Number.{octets_append, octets_part, number_injective}
use Rattle.table.specs.Entry.{Entry, entry}
use Rattle.table.specs.Load.{in_range, announced, record_size, place_at, record_at, word_of, word_at, well_formed, words_before, accepted, load}
use Rattle.table.specs.Repeat.{distinct}
use Rattle.table.specs.Valid.{all_in_range}
use Rattle.table.specs.Records.{entry_octets, RecordOf, marked, unmarked, RecordsOf, none, more}
use Rattle.table.proofs.Load.{Form, form, load_whole}

-- ---- the octets of an entry

-- The message number of an entry in range.
number_small : (e : Entry) → in_range e ≡ true → e.number < 16
unfolding in_range
number_small e h =
    let inner = cond (eqb e.kind 5) (ltb e.inner 16) (eqb e.inner 0) in
    let numbers = and_left (ltb e.number 16 && leb 1 e.kind && leb e.kind 5 && inner) (ltb e.mark 2) h in
    ltb-true e.number 16 (and_four (ltb e.number 16) (leb 1 e.kind) (leb e.kind 5) inner numbers).0

-- The octets of the entry in a word hold the word without its mark.
entry_octets_lem : (w : ℕ) → in_range (entry w) ≡ true → Octets (entry_octets (entry w))
unfolding entry_octets entry octets_of Octets
entry_octets_lem w e =
    let h : w / 1099511627776 < 16 = number_small (entry w) e in
    (omega arith, (omega arith, (omega arith, (omega arith, (omega arith, tt)))))

entry_length : (w : ℕ) → length (entry_octets (entry w)) ≡ 5
unfolding entry_octets octets_of
entry_length w = refl

entry_number : (w : ℕ) → big_endian (entry_octets (entry w)) ≡ w / 256
unfolding entry_octets entry octets_of big_endian
entry_number w =
    let tag : w / 16777216 % 65536 / 256 % 256 * 256 + w / 16777216 % 65536 / 1 % 256 ≡ w / 16777216 % 65536 = omega arith in
    let pairs : w / 1099511627776 * 65536 + w / 16777216 % 65536 ≡ w / 16777216 = omega arith in
    let kinds : w / 16777216 * 256 + w / 65536 % 256 ≡ w / 65536 = omega arith in
    let inners : w / 65536 * 256 + w / 256 % 256 ≡ w / 256 = omega arith in
    omega arith

word_again : (w : ℕ) → big_endian (entry_octets (entry w)) * 256 + (entry w).mark ≡ w
unfolding entry
word_again w = rw (entry_number w) (omega arith)

-- ---- a record of a word in range

-- What a record of a word is to the loader, whatever follows it.
pub record Fitting (w : ℕ) (r : List ℕ) : Type 0 where
  pub word : word_of r ≡ w
  pub well_formed : well_formed r ≡ true
  pub size : (s : List ℕ) → record_size (r ++ s) ≡ length r

pub fitting : (w : ℕ) (r : List ℕ) → in_range (entry w) ≡ true → RecordOf (entry w) r → Fitting w r
unfolding word_of well_formed record_size announced entry_octets octets_of big_endian
fitting w r h marked =
    record { word = word_again w; well_formed = ap (λ (x : ℕ). in_range (entry x)) (word_again w) ∙ h; size = λ s. refl }
fitting w r h (unmarked z) =
    let word = ap (λ (m : ℕ). big_endian (entry_octets (entry w)) * 256 + m) (sym z) ∙ word_again w in
    record { word = word; well_formed = ap (λ (x : ℕ). in_range (entry x)) word ∙ h; size = λ s. refl }

-- The records of octets that begin with one: it, and those after it.
module _ (w : ℕ) (r s : List ℕ) (f : Fitting w r) where
  place_past : (i : ℕ) → place_at (r ++ s) (suc i) ≡ length r + place_at s i
  unfolding place_at
  place_past zero = rw (f.size s) (omega arith)
  place_past (suc i) = rw (place_past i, drop-append-add r s (place_at s i)) (omega arith)

  record_first : record_at (r ++ s) 0 ≡ r
  unfolding record_at place_at
  record_first = rw (f.size s) (take_at r s (length r) refl)

  record_past : (i : ℕ) → record_at (r ++ s) (suc i) ≡ record_at s i
  unfolding record_at
  record_past i = rw (place_past i, drop-append-add r s (place_at s i)) refl

-- ---- the records of words in range

-- Whatever follows them, they are well-formed, have these words and end where the rest begins.
pub record Fitted (s ws rest : List ℕ) : Type 0 where
  pub formed : (i : ℕ) → i < length ws → well_formed (record_at (s ++ rest) i) ≡ true
  pub words : (i : ℕ) → i < length ws → word_at (s ++ rest) i ≡ get_or ws i 0
  pub end : place_at (s ++ rest) (length ws) ≡ length s

fitted_more : (w : ℕ) (r s ws rest : List ℕ) → Fitting w r → Fitted s ws rest → Fitted (r ++ s) (w ∷ ws) rest
unfolding word_at
fitted_more w r s ws rest f k =
    record {
      formed = rw (append_assoc r s rest) formed;
      words = rw (append_assoc r s rest) words;
      end = rw (append_assoc r s rest, place_past w r (s ++ rest) f (length ws), k.end) (sym (length-append r s));
    }
  where
    formed : (i : ℕ) → i < length (w ∷ ws) → well_formed (record_at (r ++ (s ++ rest)) i) ≡ true
    formed zero h = rw (record_first w r (s ++ rest) f) f.well_formed
    formed (suc i) h = rw (record_past w r (s ++ rest) f i) (k.formed i (omega arith))

    words : (i : ℕ) → i < length (w ∷ ws) → word_at (r ++ (s ++ rest)) i ≡ get_or (w ∷ ws) i 0
    words zero h = rw (record_first w r (s ++ rest) f) f.word
    words (suc i) h = rw (record_past w r (s ++ rest) f i) (k.words i (omega arith))

pub fitted : (s ws rest : List ℕ) → RecordsOf s ws → all_in_range ws ≡ true → Fitted s ws rest
unfolding all_in_range place_at
fitted s ws rest none h = record { formed = λ i l. absurd (omega arith); words = λ i l. absurd (omega arith); end = refl }
fitted s ws rest (more r t w xs o j) h =
    fitted_more w r t xs rest (fitting w r (and_left (in_range (entry w)) (all_in_range xs) h) o) (fitted t xs rest j (and_right (in_range (entry w)) (all_in_range xs) h))

-- The words before the rest are all these words.
pub fitted_words : (s ws rest : List ℕ) → Fitted s ws rest → words_before (s ++ rest) (length ws) ≡ ws
unfolding words_before
fitted_words s ws rest k = go (length ws) (omega arith) ∙ take-length ws
  where
    go : (n : ℕ) → n ≤ length ws → words_before (s ++ rest) n ≡ take n ws
    go zero h = refl
    go (suc n) h = rw (go n (omega arith), k.words n h) (sym (take-suc ws n 0 h))

-- The loader accepts the records of at most 64 words with no pair twice.
pub load_records : (s ws : List ℕ) → RecordsOf s ws → length ws ≤ 64 → all_in_range ws ≡ true → distinct ws ≡ true → load s ≡ accepted ws
load_records s ws j few range apart =
    let k = fitted s ws [] j range in
    let words = fitted_words s ws [] k in
    ap load (sym (append-nil s))
    ∙ load_whole (s ++ []) (length ws) few k.formed (ap distinct words ∙ apart) (omega (arith, k.end, length-append s [])) ∙ ap accepted words

-- Words in range have records.
pub records_of_lem : (ws : List ℕ) → all_in_range ws ≡ true → (s : List ℕ) × Octets s × RecordsOf s ws
unfolding all_in_range Octets entry
records_of_lem [] h = ([], tt, none)
records_of_lem (w ∷ ws) h =
    let here = and_left (in_range (entry w)) (all_in_range ws) h in
    let t = records_of_lem ws (and_right (in_range (entry w)) (all_in_range ws) h) in
    let r : List ℕ = 1 ∷ 0 ∷ 6 ∷ (entry_octets (entry w) ++ ((entry w).mark ∷ [])) in (
      r ++ t.0,
      octets_append r t.0 (lit< tt, (lit< tt, (lit< tt, octets_append (entry_octets (entry w)) ((entry w).mark ∷ []) (entry_octets_lem w here) (omega arith, tt)))) t.1,
      more r t.0 w ws marked t.2,
    )

-- ---- a well-formed record is a record of its word

octet_small : (s : List ℕ) (i : ℕ) → Octets s → get_or s i 0 < 256
unfolding Octets
octet_small [] i o = omega arith
octet_small (x ∷ s) zero o = o.0
octet_small (x ∷ s) (suc i) o = octet_small s i o.1

-- The octets of a record after its tag and length are five, and perhaps a mark.
module _ (t : List ℕ) (o : Octets t) (long : 5 ≤ length t) where
  abbrev w : ℕ
  w = big_endian (take 5 t) * 256 + get_or t 5 0

  mark_is : (entry w).mark ≡ get_or t 5 0
  unfolding entry
  mark_is = omega (arith, octet_small t 5 o)

  octets_are : in_range (entry w) ≡ true → entry_octets (entry w) ≡ take 5 t
  octets_are e =
      let v : w / 256 ≡ big_endian (take 5 t) = omega (arith, octet_small t 5 o) in
      number_injective (entry_octets (entry w)) (take 5 t) (entry_octets_lem w e) (octets_part 5 0 t o) (entry_length w ∙ sym (length-take-le 5 t long)) (entry_number w ∙ v)

  record_five : length t ≡ 5 → in_range (entry w) ≡ true → RecordOf (entry w) (1 ∷ 0 ∷ 5 ∷ t)
  record_five h e =
      let many : get_or t 5 0 ≡ 0 = get_or-eq_default t 0 (omega arith) in
      subst (λ (x : List ℕ). RecordOf (entry w) (1 ∷ 0 ∷ 5 ∷ x)) (octets_are e ∙ take_all 5 t (omega arith)) (unmarked (mark_is ∙ many))

  record_six : length t ≡ 6 → in_range (entry w) ≡ true → RecordOf (entry w) (1 ∷ 0 ∷ 6 ∷ t)
  record_six h e =
      let parts : entry_octets (entry w) ++ ((entry w).mark ∷ []) ≡ t = rw (octets_are e, mark_is) (sym (take-suc t 5 0 (omega arith)) ∙ take_all 6 t (omega arith)) in
      subst (λ (x : List ℕ). RecordOf (entry w) (1 ∷ 0 ∷ 6 ∷ x)) parts marked

well_formed_record : (r : List ℕ) → Octets r → well_formed r ≡ true → RecordOf (entry (word_of r)) r
unfolding Octets announced big_endian word_of
well_formed_record [] o e = absurd (omega (arith, (form [] e).whole))
well_formed_record (a ∷ []) o e = absurd (omega (arith, (form (a ∷ []) e).whole))
well_formed_record (a ∷ b ∷ []) o e = absurd (omega (arith, (form (a ∷ b ∷ []) e).whole))
well_formed_record (a ∷ b ∷ c ∷ t) o e = go f.size
  where
    f : Form (a ∷ b ∷ c ∷ t)
    f = form (a ∷ b ∷ c ∷ t) e

    first : a ≡ 1
    first = f.tag

    go : (b * 256 + (c * 1 + 0) ≡ 5) ⊎ (b * 256 + (c * 1 + 0) ≡ 6) → RecordOf (entry (big_endian (take 5 t) * 256 + get_or t 5 0)) (a ∷ b ∷ c ∷ t)
    go (inl q) =
        let high : b ≡ 0 = omega arith in
        let low : c ≡ 5 = omega arith in
        let l : length t ≡ 5 = omega (arith, f.whole) in
        rw (first, high, low) (record_five t o.1.1.1 (omega arith) l f.range)
    go (inr q) =
        let high : b ≡ 0 = omega arith in
        let low : c ≡ 6 = omega arith in
        let l : length t ≡ 6 = omega (arith, f.whole) in
        rw (first, high, low) (record_six t o.1.1.1 (omega arith) l f.range)

-- The same for the record at i.
pub record_of_lem : (s : List ℕ) (i : ℕ) → Octets s → well_formed (record_at s i) ≡ true → RecordOf (entry (word_at s i)) (record_at s i)
unfolding word_at record_at
record_of_lem s i o e = well_formed_record (record_at s i) (octets_part (record_size (drop (place_at s i) s)) (place_at s i) s o) e
