-- Reading a control part from the front of octets, and its least form. proofs/ControlPart.antt shows that just the control parts of
-- ControlPart.antt are read.
use Rattle.std.specs.Prelude.{ℕ, suc, ◌+◌, ◌*◌, ◌-◌, ◌/◌, ◌%◌, ◌^◌, cond, List, [], ◌∷◌, ◌++◌, length, get_or, take, drop, ltb}
use Rattle.octets.specs.Number.{big_endian, octets_of}
use Rattle.octets.specs.ControlPart.{Code, tag_code, length_code}
use Rattle.octets.specs.declared.Control.{Control}
use Rattle.octets.specs.declared.Control.TheVariants.{Absent, Partial, Whole}

-- How many octets follow a lead.
unfoldable pub following : Code → ℕ → ℕ
following code lead = cond (ltb lead code.direct) 0 (get_or code.widths (lead - code.direct) 0)

-- The number that a lead and the octets that follow it stand for.
unfoldable pub coded : Code → ℕ → List ℕ → ℕ
coded code lead s = cond (ltb lead code.direct) lead (big_endian s)

-- A control part of which the two leads, and all octets after them, are given.
unfoldable pub control_of : ℕ → ℕ → List ℕ → Control
control_of t l s =
    let n = following tag_code t in
    let m = following length_code l in
    cond (ltb (length s) (n + m)) Partial (Whole (coded tag_code t (take n s)) (coded length_code l (take m (drop n s))) (1 + n + m))

-- The control part at the front of octets. No octet is 256 or more: nothing whole begins with such a number.
unfoldable pub control : List ℕ → Control
control [] = Absent
control (c ∷ s) = cond (ltb c 256) (control_of (c / 16) (c % 16) s) Partial

-- The lead and the octets that follow it, for the first width that holds v, where the first width has the lead d. The last
-- width holds every tag of 16 bits and every length of 64; for a larger number, a lead with no octets.
unfoldable pub first_fit : ℕ → List ℕ → ℕ → ℕ × List ℕ
first_fit d [] v = (d, [])
first_fit d (w ∷ ws) v = cond (ltb v (256 ^ w)) (d, octets_of w v) (first_fit (suc d) ws v)

-- The least form of a number in a code: its lead, and the octets that follow.
unfoldable pub least_code : Code → ℕ → ℕ × List ℕ
least_code code v = cond (ltb v code.direct) (v, []) (first_fit code.direct code.widths v)

-- The least control part of a tag and a length.
unfoldable pub least_control : ℕ → ℕ → List ℕ
least_control tag len =
    let t = least_code tag_code tag in
    let l = least_code length_code len in
    (t.0 * 16 + l.0) ∷ t.1 ++ l.1
