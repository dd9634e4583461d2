-- Laws for the loop that judges each octet by the three before it.
use Rattle.std.proofs.Common.{◌≡◌, ℕ, zero, suc, ◌+◌, ◌-◌, ◌<◌, ◌≤◌, max, Bool, true, false, cond, not, ◌||◌, ltb, leb, List, [], length, get_or, drop, sym, refl, ap, ◌∙◌, arith, drop_of_length-le, lt-ltb, le-leb}
use lib.Bits.{bit_or}
use borrow.Author.Tests.{lt-leb}
use Rattle.octets.specs.Text.{text_after, text}
use Rattle.octets.proofs.Text.{up_to}
use Rattle.octets_text.specs.internal.Plain.{Passed}
use Rattle.octets_text.specs.internal.Pending.{wants, to_come, pending, Judged}
use Rattle.octets_text.proofs.Plain.{cut}
use Rattle.octets_text.proofs.Judging.{or_high}

-- Whether an octet so far was wrong, by the flags of all of them and by the largest one.
abbrev pub any_wrong : ℕ → ℕ → Bool
any_wrong bad largest = leb 0x80 bad || leb 0xf5 largest

-- The first i octets are read, of which a, b and c are the last three, or 0 where there are fewer.
pub record Turn (s : List ℕ) (wrong : Bool) (a b c i : ℕ) : Type 0 where
  pub inside : i ≤ length s
  pub same : text s ≡ cond wrong false (text_after (pending (to_come a b c) c) (drop i s))

-- At the start no character is incomplete; zeros stand for the octets before i.
begin : (s : List ℕ) (i : ℕ) → Passed s i → Turn s false 0 0 0 i
unfolding to_come wants pending
begin s i p = record { inside = p.inside; same = p.same }

or-false : (t u : Bool) (r : Bool) → cond t false (cond u false r) ≡ cond (t || u) false r
or-false true u r = refl
or-false false u r = refl

-- The flags of two parts, and the largest octets of them.
largest_is : (p q : ℕ) → leb 0xf5 (max p q) ≡ (leb 0xf5 p || leb 0xf5 q)
largest_is p q =
    up_to p 0xf4 (λ h. up_to q 0xf4 (λ k. rw (lt-leb 0xf5 p (omega arith), lt-leb 0xf5 q (omega arith), lt-leb 0xf5 (max p q) (omega arith)))
    (λ k. rw (lt-leb 0xf5 p (omega arith), le-leb 0xf5 q k, le-leb 0xf5 (max p q) (omega arith))))
    (λ h. rw (le-leb 0xf5 p h, le-leb 0xf5 (max p q) (omega arith)))

any_wrong_lem : (p q m n : ℕ) → (any_wrong p m || any_wrong q n) ≡ any_wrong (bit_or p q) (max m n)
any_wrong_lem p q m n = rw (or_high p q, largest_is m n) (go (leb 0x80 p) (leb 0xf5 m) (leb 0x80 q) (leb 0xf5 n))
  where
    go : (a b c d : Bool) → ((a || b) || (c || d)) ≡ ((a || c) || (b || d))
    go true b c d = refl
    go false true true d = refl
    go false false true d = refl
    go false true false d = refl
    go false false false d = refl

-- One octet more.
module _ (s : List ℕ) (a b c i j : ℕ) (next : j ≡ i + 1) (h : i < length s) (flag : ℕ) (f : Judged (any_wrong flag (get_or s i 0)) a b c (get_or s i 0)) where
  turn : (wrong : Bool) → Turn s wrong a b c i → Turn s (wrong || any_wrong flag (get_or s i 0)) b c (get_or s i 0) j
  turn wrong p =
      let x = get_or s i 0 in
      record {
        inside = omega arith;
        same =
            p.same ∙ ap (λ (r : Bool). cond wrong false r) (ap (text_after (pending (to_come a b c) c)) (cut s i h) ∙ f (drop (i + 1) s))
            ∙ or-false wrong (any_wrong flag x) (text_after (pending (to_come b c x) x) (drop (i + 1) s))
            ∙ rw next;
      }

  step : (bad largest : ℕ) → Turn s (any_wrong bad largest) a b c i
      → Turn s (any_wrong (bit_or bad flag) (max largest (get_or s i 0))) b c (get_or s i 0) j
  step bad largest p = rw (any_wrong_lem bad flag largest (get_or s i 0)) at (turn (any_wrong bad largest) p)

-- The first i octets are read, three or more.
pub record Seen (s : List ℕ) (bad largest i : ℕ) : Type 0 where
  pub three : 3 ≤ i
  pub last : Turn s (any_wrong bad largest) (get_or s (i - 3) 0) (get_or s (i - 2) 0) (get_or s (i - 1) 0) i

pub first_three : (s : List ℕ) (i p q r : ℕ) → Passed s i → i + 3 ≤ length s
    → Judged (any_wrong p (get_or s i 0)) 0 0 0 (get_or s i 0) → Judged (any_wrong q (get_or s (i + 1) 0)) 0 0 (get_or s i 0) (get_or s (i + 1) 0)
    → Judged (any_wrong r (get_or s (i + 2) 0)) 0 (get_or s i 0) (get_or s (i + 1) 0) (get_or s (i + 2) 0)
    → Seen s (bit_or (bit_or p q) r) (max (max (get_or s i 0) (get_or s (i + 1) 0)) (get_or s (i + 2) 0)) (i + 3)
first_three s i p q r passed h f g k =
    let x = get_or s i 0 in
    let y = get_or s (i + 1) 0 in
    let one = turn s 0 0 0 i (i + 1) refl (omega arith) p f false (begin s i passed) in
    let two = step s 0 0 x (i + 1) (i + 2) (omega arith) (omega arith) q g p x one in
    let e : i + 3 - 3 ≡ i = omega arith in
    let e' : i + 3 - 2 ≡ i + 1 = omega arith in
    let e'' : i + 3 - 1 ≡ i + 2 = omega arith in
    record { three = omega arith; last = rw (e, e', e'') (step s 0 x y (i + 2) (i + 3) (omega arith) (omega arith) r k (bit_or p q) (max x y) two) }

pub next_seen : (s : List ℕ) (bad largest i flag : ℕ) → Seen s bad largest i → i < length s
    → Judged (any_wrong flag (get_or s i 0)) (get_or s (i - 3) 0) (get_or s (i - 2) 0) (get_or s (i - 1) 0) (get_or s i 0) → Seen s (bit_or bad flag) (max largest (get_or s i 0)) (i + 1)
next_seen s bad largest i flag p h f =
    let l = p.three in
    let e : i + 1 - 3 ≡ i - 2 = omega arith in
    let e' : i + 1 - 2 ≡ i - 1 = omega arith in
    let e'' : i + 1 - 1 ≡ i = omega arith in
    record {
      three = omega arith;
      last =
          rw (e, e', e'')
          (step s (get_or s (i - 3) 0) (get_or s (i - 2) 0) (get_or s (i - 1) 0) i (i + 1) refl h flag f bad largest p.last);
    }

ended_none : (n c : ℕ) → text_after (pending n c) [] ≡ not (ltb 0 n)
unfolding text_after pending
ended_none zero c = refl
ended_none (suc n) c = rw (lt-ltb 0 (suc n) (omega arith))

not_or : (t u : Bool) → not (t || u) ≡ cond t false (not u)
not_or true u = refl
not_or false u = refl

pub all_seen : (s : List ℕ) (bad largest i : ℕ) (w : Bool) → Seen s bad largest i → length s ≤ i
    → w ≡ ltb 0 (to_come (get_or s (i - 3) 0) (get_or s (i - 2) 0) (get_or s (i - 1) 0)) → not (any_wrong bad largest || w) ≡ text s
all_seen s bad largest i w p h e =
    let c = get_or s (i - 1) 0 in
    let n = to_come (get_or s (i - 3) 0) (get_or s (i - 2) 0) c in
    not_or (any_wrong bad largest) w
    ∙ ap (λ (r : Bool). cond (any_wrong bad largest) false r)
    (ap not e ∙ sym (ended_none n c) ∙ ap (text_after (pending n c)) (sym (drop_of_length-le s h)))
    ∙ sym p.last.same
