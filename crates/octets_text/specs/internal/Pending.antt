-- What is still to come of an incomplete character, by its last octets.
use Rattle.std.specs.Prelude.{◌≡◌, ℕ, zero, suc, ◌-◌, max, Bool, false, cond, List, [], ◌∷◌, replicate, ◌==◌, nat_lt}
use Rattle.octets.specs.Utf8.{Range, ◌to◌, tail}
use Rattle.octets.specs.Text.{text_after}

-- How many octets follow x by its value: 0 below c0, 1 from c0, 2 from e0 and 3 from f0 on. This includes c0, c1 and f5 to ff, which begin no
-- character; `wrong` and `long_text` reject those.
unfoldable pub wants : ℕ → ℕ
wants x = cond (nat_lt x 0xc0) 0 (cond (nat_lt x 0xe0) 1 (cond (nat_lt x 0xf0) 2 3))

-- How many octets are still to come in the character that is incomplete after a, b and c, where c is the last octet. A character has at most
-- three octets after its lead, so that no octet before a matters.
unfoldable pub to_come : ℕ → ℕ → ℕ → ℕ
to_come a b c = max (wants c) (max (wants b - 1) (wants a - 2))

-- The range of the octet after c inside a character: `tail`, but narrower after e0, ed, f0 and f4.
unfoldable pub next : ℕ → Range
next c = cond (c == 0xe0) 0xa0 (cond (c == 0xf0) 0x90 0x80) to cond (c == 0xed) 0x9f (cond (c == 0xf4) 0x8f 0xbf)

-- The ranges of the n octets that come after c in a character.
unfoldable pub pending : ℕ → ℕ → List Range
pending zero c = []
pending (suc n) c = next c ∷ replicate n tail

-- What a test says of x after the octets a, b and c: if x is `wrong`, no text goes on with it; otherwise the octets after x decide.
abbrev pub Judged : Bool → ℕ → ℕ → ℕ → ℕ → Type 0
Judged wrong a b c x =
    (s : List ℕ) → text_after (pending (to_come a b c) c) (x ∷ s) ≡ cond wrong false (text_after (pending (to_come b c x) x) s)
