-- Laws for passing octets below 0x80.
use Rattle.std.proofs.Common.{◌≡◌, ℕ, zero, suc, ◌+◌, ◌-◌, ◌<◌, ◌≤◌, true, List, [], ◌∷◌, length, get_or, take, drop, sym, refl, ap, ◌∙◌, length-drop, zero-add, add-zero, add-one, arith, drop_of_length-le, drop-cons}
use lib.Bits.{bit_or, or_add_and, and_le_l, and_le_r}
use lib.Seq.{get_or-take, drop-drop}
use Rattle.octets.proofs.Slices.{tail_part}
use Rattle.octets.specs.Text.{text_after, text}
use Rattle.octets.proofs.Text.{up_to, lead_passed}
use Rattle.octets_text.specs.internal.Plain.{Passed, Left, any_of}
use Rattle.octets_text.proofs.Leads.{alone}

-- What is left begins with the octet at i.
pub cut : (s : List ℕ) (i : ℕ) → i < length s → drop i s ≡ get_or s i 0 ∷ drop (i + 1) s
cut s i h = rw (add-one i) (drop-cons s i 0 h)

pub start : (s : List ℕ) → Passed s 0
unfolding text
start s = record { inside = omega arith; same = refl }

-- An octet below 0x80.
pub plain : (s : List ℕ) (i : ℕ) → Passed s i → i < length s → get_or s i 0 < 0x80 → Passed s (i + 1)
plain s i p h e =
    record {
      inside = omega arith;
      same = p.same ∙ ap (text_after []) (cut s i h) ∙ lead_passed (get_or s i 0) [] (drop (i + 1) s) (alone (get_or s i 0) e);
    }

-- A run of octets below 0x80.
plains : (s : List ℕ) (i n : ℕ) → Passed s i → i + n ≤ length s → ((k : ℕ) → k < n → get_or s (i + k) 0 < 0x80) → Passed s (i + n)
plains s i zero p h f = rw (add-zero i) p
plains s i (suc n) p h f =
    let e : i + suc n ≡ i + n + 1 = omega arith in
    rw e (plain s (i + n) (plains s i n p (omega arith) (λ k l. f k (omega arith))) (omega arith) (f n (omega arith)))

-- Each of two octets is at most what `|` makes of them.
or_below : (a b m : ℕ) → bit_or a b < m → (a < m) × (b < m)
or_below a b m h =
    let e = or_add_and a b in
    let l = and_le_l a b in
    let r = and_le_r a b in
    (omega arith, omega arith)

-- The bitwise or of no octets, and of one more.
pub no_bits : (s : List ℕ) → 0 ≡ any_of s 0 0
unfolding any_of
no_bits s = refl

pub more_bits : (s : List ℕ) (any n : ℕ) → any ≡ any_of s 0 n → bit_or any (get_or s n 0) ≡ any_of s 0 (n + 1)
unfolding any_of
more_bits s any n e = rw (add-one n, e, zero-add n) refl

-- What `any_of` needs at each turn.
pub ruleset bits = (no_bits, more_bits)

each_plain : (s : List ℕ) (i n : ℕ) → any_of s i n < 0x80 → (k : ℕ) → k < n → get_or s (i + k) 0 < 0x80
unfolding any_of
each_plain s i zero h k l = absurd (omega arith)
each_plain s i (suc n) h k l =
    let o = or_below (any_of s i n) (get_or s (i + n) 0) 0x80 h in
    up_to n k (λ m. let e : k ≡ n = omega arith in rw e o.1) (λ m. each_plain s i n o.0 k m)

-- No octets are text.
pub nothing_left : (s : List ℕ) → length s ≡ 0 → true ≡ text s
unfolding text text_after
nothing_left [] h = refl
nothing_left (x ∷ s) h = absurd (omega arith)

-- What is left after none, and after a block of n octets below 0x80.
pub left_all : (s : List ℕ) → Left s s
left_all s = let e : length s - length s ≡ 0 = omega arith in record { inside = omega arith; is = rw e refl; same = refl }

pub left_block : (s rest b after : List ℕ) (n : ℕ) → Left s rest → b ≡ take n rest → after ≡ drop n rest → n ≤ length rest → any_of b 0 n < 0x80
    → Left s after
unfolding text
left_block s rest b after n p e f h o =
    let each : (k : ℕ) → k < n → get_or rest k 0 < 0x80 = λ k l. rw (← get_or-take n rest k 0 l, ← e) (rw (zero-add k) at (each_plain b 0 n o k l)) in
    let q : Passed rest n = rw (zero-add n) at (plains rest 0 n (start rest) (omega arith) (λ k l. rw (zero-add k) (each k l))) in
    let l : length after ≡ length rest - n = ap length f ∙ length-drop n rest in
    let d = p.inside in
    let m : length s - length rest + n ≡ length s - length after = omega arith in
    record {
      inside = omega arith;
      is = f ∙ ap (drop n) p.is ∙ drop-drop n (length s - length rest) s ∙ ap (λ (k : ℕ). drop k s) m;
      same = p.same ∙ q.same ∙ ap (text_after []) (sym f);
    }

-- What `after_blocks` needs at each turn.
pub ruleset blocks = (left_all, left_block)

-- What `plain_run` needs at each turn.
pub ruleset run = (plain)

-- Two parts are left after one another.
pub left_twice : (s blocks rest : List ℕ) → Left s blocks → Left blocks rest → Left s rest
left_twice s blocks rest p q =
    let a = p.inside in
    let b = q.inside in
    let m : length s - length blocks + (length blocks - length rest) ≡ length s - length rest = omega arith in
    record {
      inside = omega arith;
      is = q.is ∙ ap (drop (length blocks - length rest)) p.is ∙ drop-drop (length blocks - length rest) (length s - length blocks) s ∙ ap (λ (k : ℕ). drop k s) m;
      same = p.same ∙ q.same;
    }

pub left_passed : (s rest : List ℕ) → Left s rest → Passed s (length s - length rest)
unfolding text
left_passed s rest p =
    let a = p.inside in
    record { inside = omega arith; same = p.same ∙ ap (text_after []) p.is }

-- The octets from i on decide.
pub rest_decides : (s : List ℕ) (i : ℕ) → Passed s i → text (take (length s - i) (drop i s)) ≡ text s
unfolding text
rest_decides s i p = ap (text_after []) (tail_part s i) ∙ sym p.same

pub at_end : (s : List ℕ) (i : ℕ) → Passed s i → length s ≤ i → true ≡ text s
unfolding text_after
at_end s i p h = sym (p.same ∙ ap (text_after []) (drop_of_length-le s h))

-- What `text` needs.
pub ruleset after_front = (left_all, left_twice, left_passed, rest_decides, at_end)
