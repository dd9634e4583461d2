-- Text is exactly what encodes scalar values, and encodes one list of them only.
use Prim.Native.Nat.{ℕ, ◌+◌, ◌*◌, ◌-◌, ◌/◌, ◌%◌, ◌≤◌, ◌<◌}
use native.Mathlib.Omega.{arith}
use mathlib.Core.Path.{◌≡◌, refl, sym, ap, ◌∙◌, subst}
use mathlib.Core.Bool.{true, cond}
use mathlib.Core.List.{List, [], ◌∷◌, ◌++◌, append_cancel_left}
use mathlib.Core.Logic.{◌↔◌, ◌⊎◌, inl, inr}
use mathlib.Core.Option.{Option, none, some}
use lib.ListN.{get_or}
use lib.Dec.{leb}
use borrow.Author.Tests.{le-leb, lt-leb}
use Rattle.octets.specs.Utf8 as utf8
use Rattle.octets.specs.Utf8.{Range, grammar, Fits, FitsOne, IsText}
use Rattle.octets.specs.Text.{text}
use Rattle.octets.proofs.Text.{up_to, text_exactly}
use Rattle.octets.specs.Scalars.{Scalar, Scalars, six_bits, encode, encode_all, Encoded}

-- ---- the octets of a number

module _ (v : ℕ) where
  one_octet : v ≤ 0x7f → encode v ≡ v ∷ []
  unfolding encode
  one_octet h = rw (le-leb v 0x7f h)

  two_octets : 0x7f < v → v ≤ 0x7ff → encode v ≡ (0xc0 + v / 64) ∷ six_bits v ∷ []
  unfolding encode
  two_octets h k = rw (lt-leb v 0x7f h, le-leb v 0x7ff k)

  three_octets : 0x7ff < v → v ≤ 0xffff → encode v ≡ (0xe0 + v / 4096) ∷ six_bits (v / 64) ∷ six_bits v ∷ []
  unfolding encode
  three_octets h k = rw (lt-leb v 0x7f (omega arith), lt-leb v 0x7ff h, le-leb v 0xffff k)

  four_octets_lem : 0xffff < v → encode v ≡ (0xf0 + v / 262144) ∷ six_bits (v / 4096) ∷ six_bits (v / 64) ∷ six_bits v ∷ []
  unfolding encode
  four_octets_lem h = rw (lt-leb v 0x7f (omega arith), lt-leb v 0x7ff (omega arith), lt-leb v 0xffff h)

-- The numbers of two, three and four octets, without the bits that mark the octets.
abbrev of_two : ℕ → ℕ → ℕ
of_two a b = a * 64 + b - (0xc0 * 64 + 0x80)

abbrev of_three : ℕ → ℕ → ℕ → ℕ
of_three a b c = a * 4096 + b * 64 + c - (0xe0 * 4096 + 0x80 * 64 + 0x80)

abbrev of_four : ℕ → ℕ → ℕ → ℕ → ℕ
of_four a b c d = a * 262144 + b * 4096 + c * 64 + d - (0xf0 * 262144 + 0x80 * 4096 + 0x80 * 64 + 0x80)

-- ---- scalar values are encoded as text

above_surrogates : (v : ℕ) → Scalar v → 0xd7ff < v → (0xe000 ≤ v) × (v ≤ 0x10ffff)
unfolding Scalar
above_surrogates v (inl h) k = absurd (omega arith)
above_surrogates v (inr h) k = h

-- A row has the numbers above those of the rows before it, up to a last one.
row : {A B : Type 0} (v last : ℕ) → (v ≤ last → A) → (last < v → B) → A ⊎ B
row v last a b = up_to v last (λ h. inl (a h)) (λ h. inr (b h))

scalar_fits : (v : ℕ) → Scalar v → FitsOne grammar (encode v)
unfolding FitsOne Fits grammar six_bits
scalar_fits v s =
    row v 0x7f (λ h. rw (one_octet v h) (omega arith)) λ h.
    row v 0x7ff (λ k. rw (two_octets v h k) (omega arith)) λ k.
    row v 0xfff (λ l. rw (three_octets v k (omega arith)) (omega arith)) λ l.
    row v 0xcfff (λ m. rw (three_octets v k (omega arith)) (omega arith)) λ m.
    row v 0xd7ff (λ n. rw (three_octets v k (omega arith)) (omega arith)) λ n.
    let t = above_surrogates v s n in
    row v 0xffff (λ o. rw (three_octets v k o) (omega arith)) λ o.
    row v 0x3ffff (λ p. rw (four_octets_lem v o) (omega arith)) λ p.
    row v 0xfffff (λ q. rw (four_octets_lem v o) (omega arith)) λ q.
    inl (rw (four_octets_lem v o) (omega arith))

encoded_text : (vs : List ℕ) → Scalars vs → IsText (encode_all vs)
unfolding Scalars encode_all
encoded_text [] h = utf8.none
encoded_text (v ∷ vs) h = utf8.more (encode v) (encode_all vs) (scalar_fits v h.0) (encoded_text vs h.1)

-- ---- text encodes scalar values

-- A property of all octets that fit a row, with a hypothesis for each octet.
Each : List Range → (List ℕ → Type 0) → Type 0
Each [] P = P []
Each (r ∷ rs) P = (x : ℕ) → (r.low ≤ x) × (x ≤ r.high) → Each rs (λ s. P (x ∷ s))

of_fit : (rs : List Range) (P : List ℕ → Type 0) → Each rs P → (s : List ℕ) → Fits rs s → P s
unfolding Each Fits
of_fit [] P h [] f = h
of_fit [] P h (x ∷ s) f = absurd f
of_fit (r ∷ rs) P h [] f = absurd f
of_fit (r ∷ rs) P h (x ∷ s) f = of_fit rs (λ s. P (x ∷ s)) (h x f.0) s f.1

-- A property of all octets that fit one of the rows.
EachRow : List (List Range) → (List ℕ → Type 0) → Type 0
EachRow [] P = Unit {0}
EachRow (rs ∷ rows) P = Each rs P × EachRow rows P

of_fit_one : (rows : List (List Range)) (P : List ℕ → Type 0) → EachRow rows P → (s : List ℕ) → FitsOne rows s → P s
unfolding EachRow FitsOne
of_fit_one [] P h s f = absurd f
of_fit_one (rs ∷ rows) P h s (inl f) = of_fit rs P h.0 s f
of_fit_one (rs ∷ rows) P h s (inr f) = of_fit_one rows P h.1 s f

abbrev Tail : ℕ → Type 0
Tail x = (0x80 ≤ x) × (x ≤ 0xbf)

-- Octets whose number is a scalar value that takes as many octets.
Good : List ℕ → Type 0
Good [] = ⊥
Good (a ∷ []) = a ≤ 0x7f
Good (a ∷ b ∷ []) = let v = of_two a b in (0x7f < v) × (v ≤ 0x7ff) × Tail b
Good (a ∷ b ∷ c ∷ []) = let v = of_three a b c in (0x7ff < v) × (v ≤ 0xffff) × (0xd7ff < v → 0xe000 ≤ v) × Tail b × Tail c
Good (a ∷ b ∷ c ∷ d ∷ []) = let v = of_four a b c d in (0xffff < v) × (v ≤ 0x10ffff) × Tail b × Tail c × Tail d
Good (a ∷ b ∷ c ∷ d ∷ e ∷ s) = ⊥

fits_good : (s : List ℕ) → FitsOne grammar s → Good s
unfolding EachRow Each grammar Good
fits_good =
    of_fit_one grammar Good
    (omega arith, (omega arith, (omega arith, (omega arith, (omega arith, (omega arith, (omega arith, (omega arith, (omega arith, tt)))))))))

good_encodes : (s : List ℕ) → Good s → (v : ℕ) × Scalar v × (encode v ≡ s)
unfolding Good Scalar six_bits
good_encodes [] h = absurd h
good_encodes (a ∷ []) h = (a, inl (omega arith), one_octet a h)
good_encodes (a ∷ b ∷ []) h =
    let v = of_two a b in
    let p : (0xc0 + v / 64 ≡ a) × (0x80 + v % 64 ≡ b) = omega arith in
    (v, inl (omega arith), rw (two_octets v h.0 h.1, p.0, p.1))
good_encodes (a ∷ b ∷ c ∷ []) h =
    let v = of_three a b c in
    let p : (0xe0 + v / 4096 ≡ a) × (0x80 + v / 64 % 64 ≡ b) × (0x80 + v % 64 ≡ c) = omega arith in
    (v, row v 0xd7ff (λ k. k) (λ k. (h.2 k, omega arith)), rw (three_octets v h.0 h.1, p.0, p.1, p.2))
good_encodes (a ∷ b ∷ c ∷ d ∷ []) h =
    let v = of_four a b c d in
    let p : (0xf0 + v / 262144 ≡ a) × (0x80 + v / 4096 % 64 ≡ b) × (0x80 + v / 64 % 64 ≡ c) × (0x80 + v % 64 ≡ d) = omega arith in
    (v, inr (omega arith), rw (four_octets_lem v h.0, p.0, p.1, p.2, p.3))
good_encodes (a ∷ b ∷ c ∷ d ∷ e ∷ s) h = absurd h

text_encoded : (s : List ℕ) → IsText s → Encoded s
unfolding Scalars encode_all
text_encoded s utf8.none = record { values = []; scalars = tt; joined = refl }
text_encoded s (utf8.more character rest h t) =
    let c = good_encodes character (fits_good character h) in
    let e = text_encoded rest t in
    record { values = c.0 ∷ e.values; scalars = (c.1, e.scalars); joined = rw (c.2, e.joined) }

-- Octets are text by the grammar exactly where they encode a list of scalar values.
pub text_encodes : (s : List ℕ) → IsText s ↔ Encoded s
text_encodes s = (text_encoded s, λ e. subst IsText e.joined (encoded_text e.values e.scalars))

-- Octets pass the test for text exactly where they encode a list of scalar values.
pub test_encodes : (s : List ℕ) → (text s ≡ true) ↔ Encoded s
test_encodes s =
    let t = text_exactly s in
    let e = text_encodes s in
    (λ p. e.0 (t.0 p), λ p. t.1 (e.1 p))

-- ---- one list only

-- The number of the first character.
first : List ℕ → Option ℕ
first [] = none
first (a ∷ s) =
    some
    (cond (leb a 0x7f) a
    (cond (leb a 0xdf) (of_two a (get_or s 0 0))
    (cond (leb a 0xef) (of_three a (get_or s 0 0) (get_or s 1 0)) (of_four a (get_or s 0 0) (get_or s 1 0) (get_or s 2 0)))))

first_encode : (v : ℕ) (r : List ℕ) → first (encode v ++ r) ≡ some v
unfolding first six_bits
first_encode v r =
    let two = 0xc0 + v / 64 in
    let three = 0xe0 + v / 4096 in
    let four = 0xf0 + v / 262144 in
    let nested : (v / 64 / 64 ≡ v / 4096) × (v / 4096 / 64 ≡ v / 262144) = omega arith in
    up_to v 0x7f (λ h. rw (one_octet v h, le-leb v 0x7f h)) λ h.
    up_to v 0x7ff (λ k. rw (two_octets v h k, lt-leb two 0x7f (omega arith), le-leb two 0xdf (omega arith)) (ap some (omega arith))) λ k.
    up_to v 0xffff (λ l. rw (three_octets v k l, lt-leb three 0x7f (omega arith), lt-leb three 0xdf (omega arith), le-leb three 0xef (omega arith))
    (ap some (omega arith))) λ l.
    rw (four_octets_lem v l, lt-leb four 0x7f (omega arith), lt-leb four 0xdf (omega arith), lt-leb four 0xef (omega arith)) (ap some (omega arith))

-- No octets encode two lists of numbers, scalar values or not.
pub encoding_once : (vs ws : List ℕ) → encode_all vs ≡ encode_all ws → vs ≡ ws
unfolding encode_all first
encoding_once [] [] e = refl
encoding_once [] (w ∷ ws) e = let z : none ≡ some w = ap first e ∙ first_encode w (encode_all ws) in cc
encoding_once (v ∷ vs) [] e = let z : some v ≡ none = sym (first_encode v (encode_all vs)) ∙ ap first e in cc
encoding_once (v ∷ vs) (w ∷ ws) e =
    let z : some v ≡ some w = sym (first_encode v (encode_all vs)) ∙ ap first e ∙ first_encode w (encode_all ws) in
    let p : v ≡ w = cc in
    let q = encoding_once vs ws (append_cancel_left (encode v) (encode_all vs) (encode_all ws) (e ∙ rw p)) in
    rw (p, q)
