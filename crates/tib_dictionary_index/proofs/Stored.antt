-- The loop invariant of storing the words of records.
use Prim.Native.Nat.{ℕ, zero, suc, ◌+◌, ◌-◌, ◌*◌, ◌<◌}
use native.Mathlib.Numerals.{add-one}
use native.Mathlib.Omega.{arith}
use mathlib.Core.Path.{◌≡◌, refl, sym, ap, ◌∙◌}
use mathlib.Core.List.{List, [], ◌∷◌, ◌++◌, map, append_assoc}
use lib.ListN.{length, drop, set, replicate, length-map}
use lib.Seq.{drop-drop, set_at}
use Rattle.tib_dictionary.specs.Entry.{word_of}
use Rattle.tib_dictionary.specs.Load.{entry_of, dictionary_of}
use Rattle.tib_dictionary.specs.internal.Search.{records_of}
use Rattle.tib_dictionary.specs.declared.Entry.{Entry}

-- The words of i records, and 0 after them.
unfoldable pub stored : ℕ → ℕ → List ℕ → List ℕ
stored most i s = map word_of (records_of i s) ++ replicate (most - i) 0

pub stored_none : (most : ℕ) (s : List ℕ) → replicate most 0 ≡ stored most 0 s
unfolding stored records_of
stored_none most s = let e : most - 0 ≡ most = omega arith in rw e refl

records_length : (n : ℕ) (s : List ℕ) → length (records_of n s) ≡ n
unfolding records_of
records_length zero s = refl
records_length (suc n) s = rw (records_length n (drop 8 s)) refl

words_more : (i : ℕ) (s : List ℕ) → map word_of (records_of (suc i) s) ≡ map word_of (records_of i s) ++ (word_of (entry_of (drop (i * 8) s)) ∷ [])
unfolding records_of
words_more zero s = refl
words_more (suc i) s =
    let k : 8 + i * 8 ≡ suc i * 8 = omega arith in
    ap (λ (ws : List ℕ). word_of (entry_of s) ∷ ws) (words_more i (drop 8 s) ∙ rw (drop-drop (i * 8) 8 s, k) refl)

pub stored_more : (most i : ℕ) (s words : List ℕ) (e : Entry) (w : ℕ) → i < most → words ≡ stored most i s → e ≡ entry_of (drop (i * 8) s) → w ≡ word_of e
    → set words i w ≡ stored most (i + 1) s
unfolding stored
stored_more most i s words e w h l is v =
    let k : most - i ≡ suc (most - suc i) = omega arith in
    let before = map word_of (records_of i s) in
    rw (l, k, v, is, add-one i, words_more i s) (
    set_at before 0 (replicate (most - suc i) 0) (word_of (entry_of (drop (i * 8) s))) i (length-map (records_of i s) word_of ∙ records_length i s)
    ∙ sym (append_assoc before (word_of (entry_of (drop (i * 8) s)) ∷ []) (replicate (most - suc i) 0))
    )

pub stored_all : (n : ℕ) (s words : List ℕ) → words ≡ stored 512 n s → record { count = n; words = words } ≡ dictionary_of (records_of n s)
unfolding stored dictionary_of
stored_all n s words l = rw (l, records_length n s) refl
