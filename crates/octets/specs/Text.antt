-- Tests octet by octet whether octets are text. proofs/Text.antt shows that just the text of Utf8.antt passes.
use Rattle.std.specs.Prelude.{ℕ, Bool, true, false, cond, ◌&&◌, List, [], ◌∷◌, leb}
use Rattle.std.proofs.Math.Option.{Option, none, some}
use Rattle.octets.specs.Utf8.{Range, grammar}

-- Whether an octet is in a range.
unfoldable pub within : Range → ℕ → Bool
within r x = leb r.low x && leb x r.high

-- The ranges of the octets that come after a lead octet, by the first row that it can begin; `none` if it can begin none.
unfoldable pub after : List (List Range) → ℕ → Option (List Range)
after [] x = none
after ([] ∷ rows) x = after rows x
after ((r ∷ rs) ∷ rows) x = cond (within r x) (some rs) (after rows x)

-- Whether octets first complete a character, whose remaining octets have these ranges, and are text after that.
unfoldable pub text_after : List Range → List ℕ → Bool
text_after [] [] = true
text_after (r ∷ rs) [] = false
text_after [] (x ∷ s) = elim (after grammar x) [ none ↦ false | some rs ↦ text_after rs s ]
text_after (r ∷ rs) (x ∷ s) = within r x && text_after rs s

-- Whether octets are text.
unfoldable pub text : List ℕ → Bool
text s = text_after [] s
