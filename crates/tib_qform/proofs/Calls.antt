-- The calls by cases: a message that is too long, a faulty dictionary, and what the reading under the dictionary's entries gives.
use Prim.Native.Nat.{ℕ, ◌≤◌, ◌<◌}
use mathlib.Core.Path.{◌≡◌, refl, sym, ap, ◌∙◌}
use mathlib.Core.Bool.{Bool, true, false, cond}
use mathlib.Core.List.{List}
use lib.ListN.{length}
use lib.Dec.{ltb}
use borrow.Author.Tests.{ltb-true, ltb-false, lt-ltb, le-ltb}
use Rattle.octets.specs.Number.{Octets}
use Rattle.reading.specs.Reading.{Reading, accepted, refused, message_limit}
use Rattle.tib_dictionary.specs.Entry.{entries}
use Rattle.tib_dictionary.specs.Load.{loading, dictionary_of}
use Rattle.tib_dictionary.specs.Valid.{valid}
use Rattle.tib_dictionary.specs.declared.Entry.{Entry}
use Rattle.tib_dictionary.specs.declared.Dictionary.{Dictionary}
use Rattle.tib_dictionary.proofs.Valid.{loaded_entries, loaded_valid}
use Rattle.tib_qform.specs.CheckAndField.{after_loading, under_dictionary, entries_of}

module _ {R : Type 0} (refuse : ℕ → ℕ → R) (under : List Entry → R) (s : List ℕ) (loaded : Reading (List Entry)) where
  pub long : message_limit < length s → under_dictionary refuse under loaded s ≡ refuse 1 0
  unfolding under_dictionary
  long h = rw (lt-ltb message_limit (length s) h)

  module _ (h : length s ≤ message_limit) where
    pub faulty : (k p : ℕ) → loaded ≡ refused k p → under_dictionary refuse under loaded s ≡ refuse k p
    unfolding under_dictionary after_loading
    faulty k p e = rw (le-ltb message_limit (length s) h, e)

    pub good : (es : List Entry) → loaded ≡ accepted es → under_dictionary refuse under loaded s ≡ under es
    unfolding under_dictionary after_loading
    good es e = rw (le-ltb message_limit (length s) h, e)

  -- What holds in each of these cases holds of the call.
  pub cases : (P : R → Type 0) → (message_limit < length s → P (refuse 1 0))
      → (length s ≤ message_limit → (k p : ℕ) → loaded ≡ refused k p → P (refuse k p))
      → (length s ≤ message_limit → (es : List Entry) → loaded ≡ accepted es → P (under es))
      → P (under_dictionary refuse under loaded s)
  cases P a b c = at (ltb message_limit (length s)) refl
    where
      by : length s ≤ message_limit → (r : Reading (List Entry)) → loaded ≡ r → P (under_dictionary refuse under loaded s)
      by h (accepted es) e = rw (good h es e) (c h es e)
      by h (refused k p) e = rw (faulty h k p e) (b h k p e)

      at : (t : Bool) → ltb message_limit (length s) ≡ t → P (under_dictionary refuse under loaded s)
      at true h = let l = ltb-true message_limit (length s) h in rw (long l) (a l)
      at false h = by (ltb-false message_limit (length s) h) loaded refl

-- Two calls with the same dictionary and the same message: what holds of their refusals, and of what they return under entries, holds of the calls.
pub alike : {R Q : Type 0} (P : R → Q → Type 0) (refuse : ℕ → ℕ → R) (reject : ℕ → ℕ → Q) (under : List Entry → R) (below : List Entry → Q)
    → ((k p : ℕ) → P (refuse k p) (reject k p)) → ((es : List Entry) → P (under es) (below es)) → (s : List ℕ) (loaded : Reading (List Entry))
    → P (under_dictionary refuse under loaded s) (under_dictionary reject below loaded s)
unfolding under_dictionary after_loading
alike P refuse reject under below refusals answers s loaded = at (ltb message_limit (length s))
  where
    by : (r : Reading (List Entry)) → P (after_loading refuse under r) (after_loading reject below r)
    by (accepted es) = answers es
    by (refused k p) = refusals k p

    at : (t : Bool) → P (cond t (refuse 1 0) (after_loading refuse under loaded)) (cond t (reject 1 0) (after_loading reject below loaded))
    at true = refusals 1 0
    at false = by loaded

-- ---- dictionary values

module _ (d : Dictionary) where
  pub valid_entries : valid d ≡ true → entries_of d ≡ accepted (entries d)
  unfolding entries_of
  valid_entries e = rw e

  pub invalid_entries : valid d ≡ false → entries_of d ≡ refused 2 0
  unfolding entries_of
  invalid_entries e = rw e

  -- A dictionary value is refused, or it has its entries.
  pub entries_cases : (P : Reading (List Entry) → Type 0) → (valid d ≡ false → P (refused 2 0)) → (valid d ≡ true → P (accepted (entries d))) → P (entries_of d)
  unfolding entries_of
  entries_cases P a b = go (valid d) refl
    where
      go : (t : Bool) → valid d ≡ t → P (cond t (accepted (entries d)) (refused 2 0))
      go true e = b e
      go false e = a e

-- The dictionary value that octets load to has their entries.
pub loaded_alike : (dictionary : List ℕ) → Octets dictionary → (es : List Entry) → loading dictionary ≡ accepted es
    → entries_of (dictionary_of es) ≡ loading dictionary
loaded_alike dictionary o es e =
    valid_entries (dictionary_of es) (loaded_valid dictionary o es e) ∙ ap accepted (loaded_entries dictionary o es e) ∙ sym e
