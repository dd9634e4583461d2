-- The spans of the outermost fields by their heads alone, and the answer by a field's kind and contents. proofs/OutermostSpans.antt and
-- proofs/LookupAnswers.antt show that in an accepted message these are the spans and the values of Lookup.antt.
use Rattle.std.specs.Prelude as std
use Rattle.std.specs.Prelude.{ℕ, zero, suc, cond, List, [], ◌∷◌, length, drop, ℤ, pos, eqb}
use Rattle.std.proofs.Math.Option.{Option, none, some}
use Rattle.std.proofs.Math.ListN.{get_elem?}
use Rattle.octets.specs.internal.Bounded.{unsigned, signed}
use Rattle.message_field.specs.internal.Heads.{head_at}
use Rattle.message_field.specs.internal.Heads as head
use Rattle.message_field.specs.internal.Heads.{Head}
use Rattle.message_calls.specs.Lookup.{last_or}
use Rattle.message_calls.specs.declared.outermost.Occurrence.{Occurrence}
use Rattle.message_calls.specs.declared.outermost.Occurrence.TheVariants.{Nth, Last}
use Rattle.message_calls.specs.declared.outermost.Span.{Span}
use Rattle.message_calls.specs.declared.Found.{Found}

-- The spans of the fields with a tag, by the head of the first field. `next` has the spans of the fields from an offset on.
unfoldable pub after_head : ℕ → (ℕ → List Span) → Head → List Span
after_head tag next head.End = []
after_head tag next (head.Fault k) = []
after_head tag next (head.Field t start end) = cond (eqb t tag) (record { start = start; end = end } ∷ next end) (next end)

-- The spans of the fields with a tag, from an offset on. `fuel` bounds how many fields are read.
unfoldable pub spans_from : ℕ → List ℕ → ℕ → ℕ → List Span
spans_from tag s zero i = []
spans_from tag s (suc fuel) i = after_head tag (spans_from tag s fuel) (head_at i (drop i s))

-- The spans of all fields with a tag. A field takes an octet or more, so fuel of one more than the count of octets is enough.
unfoldable pub spans : ℕ → List ℕ → List Span
spans tag s = spans_from tag s (suc (length s)) 0

-- The same as an option of the code.
unfoldable pub optional_span : Option Span → std.Option Span
optional_span none = std.None
optional_span (some p) = std.Some p

unfoldable pub nth_span : ℕ → ℕ → List ℕ → std.Option Span
nth_span tag k s = optional_span (get_elem? (spans tag s) k)

unfoldable pub last_span : ℕ → List ℕ → std.Option Span
last_span tag s = optional_span (last_or none (spans tag s))

unfoldable pub chosen_span : ℕ → Occurrence → List ℕ → std.Option Span
chosen_span tag (Nth k) s = nth_span tag k s
chosen_span tag Last s = last_span tag s

-- The value of contents of kind 1, a uint, and of kind 2, an int; 0 for any other kind.
unfoldable pub uint_in : ℕ → List ℕ → ℕ
uint_in kind s = cond (eqb kind 1) (unsigned s) 0

unfoldable pub int_in : ℕ → List ℕ → ℤ
int_in kind s = cond (eqb kind 2) (signed s) (pos 0)

-- The answer for a field that was found.
unfoldable pub read : ℕ → ℕ → List ℕ → Found
read kind start s =
    record { refusal = 0; place = 0; kind = kind; value = uint_in kind s; signed = int_in kind s; start = start; length = length s }
