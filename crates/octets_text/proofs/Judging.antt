-- Laws for judging an octet of text by the three octets before it.
use Rattle.std.proofs.Common.{◌≡◌, ℕ, zero, suc, ◌+◌, ◌-◌, ◌*◌, ◌/◌, ◌%◌, ◌<◌, ◌≤◌, max, Bool, true, false, cond, not, ◌&&◌, ◌||◌, eqb, ltb, leb, List, ◌∷◌, sym, refl, ap, ◌∙◌, arith, ltb-true, le-ltb, lt-ltb, ne_eqb, eqb-true, le-leb}
use mathlib.Core.Bool.{beq}
use mathlib.Core.Option.{none, some}
use lib.Bits.{bit_or, bit_and, bit_xor, or_lt, xor_zero_r, xor_lt, and_zero_r, and_mask, and_high, or_add_and, xor_add_and, and_le_l, and_le_r}
use lib.ListN.{replicate}
use borrow.Author.Tests.{lt-leb}
use Rattle.octets.specs.Utf8.{◌to◌, tail, grammar}
use Rattle.octets.specs.Text.{within, after, text_after}
use Rattle.octets.proofs.Text.{up_to, in_range_lem, below_range, above_range, lead_passed, no_character}
use Rattle.octets_text.specs.internal.Pending.{wants, to_come, next, pending, Judged}
use Rattle.octets_text.proofs.Leads.{wants_none, wants_one, wants_two, wants_three, next_low, next_inside, alone, leads_one, leads_two, leads_three, no_lead, no_lead_above}

-- ---- octets as flags, by bit 7

pub or_high : (p q : ℕ) → leb 0x80 (bit_or p q) ≡ (leb 0x80 p || leb 0x80 q)
or_high p q =
    let e = or_add_and p q in
    let l = and_le_l p q in
    let r = and_le_r p q in
    up_to p 0x7f (λ h. up_to q 0x7f
    (λ k. rw (lt-leb 0x80 p (omega arith), lt-leb 0x80 q (omega arith), lt-leb 0x80 (bit_or p q) (or_lt 7 p q (omega arith) (omega arith))))
    (λ k. rw (lt-leb 0x80 p (omega arith), le-leb 0x80 q k, le-leb 0x80 (bit_or p q) (omega arith))))
    (λ h. rw (le-leb 0x80 p h, le-leb 0x80 (bit_or p q) (omega arith)))

flag_high : (t : Bool) → leb 0x80 (cond t 0xff 0) ≡ t
flag_high true = refl
flag_high false = refl

-- The other bits of an octet.
flipped : (w : ℕ) → w < 256 → bit_xor w 0xff ≡ 255 - w
flipped w h =
    let e = xor_add_and w 0xff in
    let m : bit_and w 0xff ≡ w % 256 = and_mask w 8 in
    omega arith

xor_high : (w : ℕ) (t : Bool) → w < 256 → leb 0x80 (bit_xor w (cond t 0xff 0)) ≡ not (beq (leb 0x80 w) t)
xor_high w true h =
    rw (flipped w h)
    (up_to w 0x7f (λ k. rw (lt-leb 0x80 w (omega arith), le-leb 0x80 (255 - w) (omega arith)))
    (λ k. rw (le-leb 0x80 w k, lt-leb 0x80 (255 - w) (omega arith))))
xor_high w false h = rw (xor_zero_r w) (go (leb 0x80 w))
  where
    go : (t : Bool) → t ≡ not (beq t false)
    go true = refl
    go false = refl

over_high : (x n : ℕ) → leb 0x80 (x - n) ≡ ltb (n + 0x7f) x
over_high x n =
    up_to x (n + 0x7f) (λ h. rw (lt-leb 0x80 (x - n) (omega arith), le-ltb (n + 0x7f) x h))
    (λ h. rw (le-leb 0x80 (x - n) (omega arith), lt-ltb (n + 0x7f) x h))

-- ---- how many octets are to come

-- Whether an octet wants more than none, one or two octets shows in its value.
record Wants (x : ℕ) : Type 0 where
  some_wanted : ltb 0 (wants x) ≡ ltb 0xbf x
  two_wanted : ltb 1 (wants x) ≡ ltb 0xdf x
  three_wanted : ltb 2 (wants x) ≡ ltb 0xef x
  few : wants x ≤ 3

wants_by : (x n : ℕ) → wants x ≡ n → n ≤ 3 → ltb 0 n ≡ ltb 0xbf x → ltb 1 n ≡ ltb 0xdf x → ltb 2 n ≡ ltb 0xef x → Wants x
wants_by x n e h p q r = record { some_wanted = rw e p; two_wanted = rw e q; three_wanted = rw e r; few = rw e h }

wanted : (x : ℕ) → Wants x
wanted x =
    up_to x 0xbf (λ h. wants_by x 0 (wants_none x (omega arith)) (omega arith) (rw (le-ltb 0xbf x h)) (rw (le-ltb 0xdf x (omega arith))) (rw (le-ltb 0xef x (omega arith)))) λ h.
    up_to x 0xdf (λ k. wants_by x 1 (wants_one x h (omega arith)) (omega arith) (rw (lt-ltb 0xbf x h)) (rw (le-ltb 0xdf x k)) (rw (le-ltb 0xef x (omega arith)))) λ k.
    up_to x 0xef (λ l. wants_by x 2 (wants_two x k (omega arith)) (omega arith) (rw (lt-ltb 0xbf x h)) (rw (lt-ltb 0xdf x k)) (rw (le-ltb 0xef x l))) λ l.
    wants_by x 3 (wants_three x l) (omega arith) (rw (lt-ltb 0xbf x h)) (rw (lt-ltb 0xdf x k)) (rw (lt-ltb 0xef x l))

-- Octets are to come exactly where one of the three reaches past the last.
some_to_come : (p q r : ℕ) → (ltb 0 p || ltb 1 q) || ltb 2 r ≡ ltb 0 (max p (max (q - 1) (r - 2)))
some_to_come p q r =
    let m = max p (max (q - 1) (r - 2)) in
    up_to p 0 (λ h. up_to q 1 (λ k. up_to r 2
    (λ l. rw (le-ltb 0 p h, le-ltb 1 q k, le-ltb 2 r l, le-ltb 0 m (omega arith)))
    (λ l. rw (le-ltb 0 p h, le-ltb 1 q k, lt-ltb 2 r l, lt-ltb 0 m (omega arith))))
    (λ k. rw (le-ltb 0 p h, lt-ltb 1 q k, lt-ltb 0 m (omega arith))))
    (λ h. rw (lt-ltb 0 p h, lt-ltb 0 m (omega arith)))

pub incomplete_is : (a b c : ℕ) → leb 0x80 (bit_or (bit_or (c - 0x40) (b - 0x60)) (a - 0x70)) ≡ ltb 0 (to_come a b c)
unfolding to_come
incomplete_is a b c =
    rw (
      or_high (bit_or (c - 0x40) (b - 0x60)) (a - 0x70),
      or_high (c - 0x40) (b - 0x60),
      over_high c 0x40,
      over_high b 0x60,
      over_high a 0x70,
      ← (wanted c).some_wanted,
      ← (wanted b).two_wanted,
      ← (wanted a).three_wanted,
    )
    (some_to_come (wants c) (wants b) (wants a))

-- After one octet more, one octet fewer is to come, but for those that the octet itself wants.
less_one : (p q r : ℕ) → r ≤ 3 → max p (max (q - 1) (r - 2)) - 1 ≡ max (p - 1) (q - 2)
less_one p q r h =
    let e : max (q - 1) (r - 2) - 1 ≡ q - 2 = omega arith in
    let f : max p (max (q - 1) (r - 2)) - 1 ≡ max (p - 1) (max (q - 1) (r - 2) - 1) = apart p (max (q - 1) (r - 2)) in
    f ∙ ap (max (p - 1)) e
  where
    apart : (a b : ℕ) → max a b - 1 ≡ max (a - 1) (b - 1)
    apart a b = omega arith

next_to_come : (a b c x : ℕ) → to_come b c x ≡ max (wants x) (to_come a b c - 1)
unfolding to_come
next_to_come a b c x = ap (max (wants x)) (sym (less_one (wants c) (wants b) (wants a) (wanted a).few))

-- ---- the range of the next octet

pub upper_part_is : (c x : ℕ) → 0x80 ≤ x → x ≤ 0xbf → 0xe0 ≤ c → c < 256
    → leb 0x80 ((x + bit_and c 0xf0) % 256) ≡ cond (ltb c 0xf0) (leb 0xa0 x) (leb 0x90 x)
upper_part_is c x l h m f =
    let e : bit_and c 0xf0 ≡ c / 16 % 16 * 16 = and_high c 4 4 in
    up_to c 0xef
    (λ k. let q : c / 16 ≡ 14 = omega arith in rw (e, q, lt-ltb c 0xf0 (omega arith)) (divided 0xa0 0xe0 (omega arith)))
    (λ k. let q : c / 16 ≡ 15 = omega arith in rw (e, q, le-ltb c 0xf0 k) (divided 0x90 0xf0 (omega arith)))
  where
    divided : (n m : ℕ) → (n + m ≡ 0x180) × ((0x90 ≤ n) × (n ≤ 0xa0)) → leb 0x80 ((x + m) % 256) ≡ leb n x
    divided n m s =
        up_to n x (λ k. rw (le-leb n x k, le-leb 0x80 ((x + m) % 256) (omega arith)))
        (λ k. rw (lt-leb n x k, lt-leb 0x80 ((x + m) % 256) (omega arith)))

-- The flag of `wrong_second`.
abbrev pub wrong_second : ℕ → ℕ → ℕ
wrong_second c t =
    bit_and (bit_xor t (cond (eqb c 0xe0 || eqb c 0xf0) 0xff 0)) (bit_or (cond (eqb c 0xe0 || eqb c 0xf0) 0xff 0) (cond (eqb c 0xed || eqb c 0xf4) 0xff 0))

whole_octet : (w : ℕ) → w < 256 → bit_and w 0xff ≡ w
whole_octet w h = let m : bit_and w 0xff ≡ w % 256 = and_mask w 8 in omega arith

module _ (x t : ℕ) (f : t < 256) (l : 0x80 ≤ x) (h : x ≤ 0xbf) where
  upper : (n : ℕ) → leb 0x80 t ≡ leb n x → leb 0x80 (bit_and (bit_xor t 0xff) 0xff) ≡ not (within (n to 0xbf) x)
  unfolding within
  upper n e =
      rw (whole_octet (bit_xor t 0xff) (xor_lt 8 t 0xff f (omega arith)), xor_high t true f, e, le-leb x 0xbf h) (go (leb n x))
    where
      go : (t : Bool) → not (beq t true) ≡ not (t && true)
      go true = refl
      go false = refl

  lower : (n : ℕ) → leb 0x80 t ≡ leb (suc n) x → leb 0x80 (bit_and (bit_xor t 0) 0xff) ≡ not (within (0x80 to n) x)
  unfolding within
  lower n e =
      rw (xor_zero_r t, whole_octet t f, e, le-leb 0x80 x l)
      (up_to x n (λ k. rw (le-leb x n k, lt-leb (suc n) x (omega arith))) (λ k. rw (lt-leb x n k, le-leb (suc n) x k)))

pub wrong_second_is : (c x t : ℕ) → t < 256 → 0x80 ≤ x → x ≤ 0xbf → (0xe0 ≤ c → leb 0x80 t ≡ cond (ltb c 0xf0) (leb 0xa0 x) (leb 0x90 x))
    → leb 0x80 (wrong_second c t) ≡ not (within (next c) x)
unfolding next
wrong_second_is c x t f l h part = go (eqb c 0xe0) refl (eqb c 0xed) refl (eqb c 0xf0) refl (eqb c 0xf4) refl
  where
    go : (p : Bool) → eqb c 0xe0 ≡ p → (q : Bool) → eqb c 0xed ≡ q → (r : Bool) → eqb c 0xf0 ≡ r → (u : Bool) → eqb c 0xf4 ≡ u
        → leb 0x80 (wrong_second c t) ≡ not (within (next c) x)
    go true p _ _ _ _ _ _ = let e = eqb-true c 0xe0 p in rw e (upper x t f l h 0xa0 (part (omega arith) ∙ rw e))
    go false p true q _ _ _ _ = let e = eqb-true c 0xed q in rw e (lower x t f l h 0x9f (part (omega arith) ∙ rw e))
    go false p false q true r _ _ = let e = eqb-true c 0xf0 r in rw e (upper x t f l h 0x90 (part (omega arith) ∙ rw e))
    go false p false q false r true u = let e = eqb-true c 0xf4 u in rw e (lower x t f l h 0x8f (part (omega arith) ∙ rw e))
    go false p false q false r false u = rw (p, q, r, u, and_zero_r (bit_xor t 0), in_range_lem (0x80 to 0xbf) x l h)

pub no_wrong_second : (c t : ℕ) → c < 0xe0 → wrong_second c t ≡ 0
no_wrong_second c t h =
    let n : ((c ≡ 0xe0 → ⊥) × (c ≡ 0xed → ⊥)) × ((c ≡ 0xf0 → ⊥) × (c ≡ 0xf4 → ⊥)) = omega arith in
    rw (ne_eqb c 0xe0 n.0.0, ne_eqb c 0xed n.0.1, ne_eqb c 0xf0 n.1.0, ne_eqb c 0xf4 n.1.1) (and_zero_r (bit_xor t 0))

-- ---- the next octet

-- The flag of `wrong`, by how many octets are to come and by whether x is outside of its range.
abbrev wrongly : ℕ → Bool → ℕ → Bool
wrongly n out x = (not (beq (ltb 0 n) (leb 0x80 x && leb x 0xbf)) || (eqb x 0xc0 || eqb x 0xc1)) || out

module _ (c x : ℕ) (out : Bool) (s : List ℕ) where
  abbrev After : ℕ → Type 0
  After n = text_after (pending n c) (x ∷ s) ≡ cond (wrongly n out x || leb 0xf5 x) false (text_after (pending (max (wants x) (n - 1)) x) s)

  -- ---- no octet is to come

  lead : (m : ℕ) → after grammar x ≡ some (pending m x) → wants x ≡ m → (leb 0x80 x && leb x 0xbf) ≡ false
      → ((x ≡ 0xc0 → ⊥) × (x ≡ 0xc1 → ⊥)) × (x < 0xf5) → out ≡ false → After 0
  unfolding pending
  lead m e w f h z =
      let k : max (wants x) (0 - 1) ≡ m = omega arith in
      lead_passed x (pending m x) s e
      ∙ rw (f, z, ne_eqb x 0xc0 h.0.0, ne_eqb x 0xc1 h.0.1, lt-leb 0xf5 x h.1, k)

  rejected : after grammar x ≡ none → (wrongly 0 out x || leb 0xf5 x) ≡ true → After 0
  unfolding pending
  rejected e f = no_character x s e ∙ sym (ap (λ (t : Bool). cond t false (text_after (pending (max (wants x) (0 - 1)) x) s)) f)

  judged_lead : out ≡ false → After 0
  unfolding pending
  judged_lead z =
      up_to x 0x7f (λ h. lead 0 (alone x (omega arith)) (wants_none x (omega arith)) (rw (lt-leb 0x80 x (omega arith))) (omega arith) z) λ h.
      up_to x 0xbf (λ k. rejected (no_lead x h (omega arith)) (rw (le-leb 0x80 x h, le-leb x 0xbf k))) λ k.
      let f : (leb 0x80 x && leb x 0xbf) ≡ false = rw (le-leb 0x80 x h, lt-leb x 0xbf k) in
      up_to x 0xc1 (λ l. rejected (no_lead x h (omega arith)) (overlong l k)) λ l.
      up_to x 0xdf (λ m. lead 1 (leads_one x l (omega arith)) (wants_one x k (omega arith)) f (omega arith) z) λ m.
      up_to x 0xef (λ n. lead 2 (leads_two x m (omega arith)) (wants_two x m (omega arith)) f (omega arith) z) λ n.
      up_to x 0xf4 (λ p. lead 3 (leads_three x n (omega arith)) (wants_three x n) f (omega arith) z) λ p.
      rejected (no_lead_above x p) (rw (f, z, ne_eqb x 0xc0 (λ e. omega arith), ne_eqb x 0xc1 (λ e. omega arith), le-leb 0xf5 x p))
    where
      overlong : x ≤ 0xc1 → 0xbf < x → (wrongly 0 out x || leb 0xf5 x) ≡ true
      overlong l k = up_to x 0xc0 (λ h. let e : x ≡ 0xc0 = omega arith in rw e) (λ h. let e : x ≡ 0xc1 = omega arith in rw e)

  -- ---- octets are to come

  pending_tail : (m : ℕ) → x ≤ 0xbf → pending m x ≡ replicate m tail
  unfolding pending replicate
  pending_tail zero h = refl
  pending_tail (suc m) h = rw (next_low x (omega arith))

  judged_next : (m : ℕ) → (0x80 ≤ x → x ≤ 0xbf → out ≡ not (within (next c) x)) → After (suc m)
  unfolding pending text_after
  judged_next m inner =
      up_to x 0x7f (λ h. rw (below_range (next c) x (omega (arith, (next_inside c).0)), lt-leb 0x80 x (omega arith), lt-ltb 0 (suc m) (omega arith))) λ h.
      up_to x 0xbf (λ k. inside h k) λ k.
      rw (above_range (next c) x (omega (arith, (next_inside c).1)), lt-leb x 0xbf k, le-leb 0x80 x h, lt-ltb 0 (suc m) (omega arith))
    where
      go : (t : Bool) → (t && text_after (replicate m tail) s) ≡ cond (((false || false) || not t) || false) false (text_after (replicate m tail) s)
      go true = refl
      go false = refl

      inside : 0x80 ≤ x → x ≤ 0xbf → After (suc m)
      inside h k =
          let n : max (wants x) (suc m - 1) ≡ m = omega (arith, wants_none x (omega arith)) in
          rw (
            le-leb 0x80 x h,
            le-leb x 0xbf k,
            lt-ltb 0 (suc m) (omega arith),
            inner h k,
            n,
            pending_tail m k,
            lt-leb 0xf5 x (omega arith),
            ne_eqb x 0xc0 (λ e. omega arith),
            ne_eqb x 0xc1 (λ e. omega arith),
          )
          (go (within (next c) x))

  judged : (n : ℕ) → (0x80 ≤ x → x ≤ 0xbf → out ≡ not (within (next c) x)) → (n ≡ 0 → out ≡ false) → After n
  judged zero inner apart = judged_lead (apart refl)
  judged (suc m) inner apart = judged_next m inner

-- Where no octet is to come, the last one leads no character of three or four octets.
none_to_come : (a b c : ℕ) → to_come a b c ≡ 0 → c < 0xe0
unfolding to_come
none_to_come a b c e =
    up_to c 0xdf (λ h. omega arith) (λ h. let w = ltb-true 1 (wants c) ((wanted c).two_wanted ∙ lt-ltb 0xdf c h) in absurd (omega arith))

other_order : (t u v : Bool) → ((v || u) || t) ≡ ((t || u) || v)
other_order true true true = refl
other_order true true false = refl
other_order true false true = refl
other_order true false false = refl
other_order false true true = refl
other_order false true false = refl
other_order false false true = refl
other_order false false false = refl

pub wrong_is : (a b c x w o : ℕ) → w < 256 → leb 0x80 w ≡ ltb 0 (to_come a b c)
    → (0x80 ≤ x → x ≤ 0xbf → leb 0x80 o ≡ not (within (next c) x)) → (c < 0xe0 → o ≡ 0)
    → Judged
    (leb 0x80 (bit_or (bit_or o (cond (eqb x 0xc0 || eqb x 0xc1) 0xff 0)) (bit_xor w (cond (within tail x) 0xff 0))) || leb 0xf5 x) a b c x
unfolding within
wrong_is a b c x w o fits e inner low s =
    let follows = leb 0x80 x && leb x 0xbf in
    let overlong = eqb x 0xc0 || eqb x 0xc1 in
    rw (
      or_high (bit_or o (cond overlong 0xff 0)) (bit_xor w (cond follows 0xff 0)),
      or_high o (cond overlong 0xff 0),
      xor_high w follows fits,
      flag_high overlong,
      other_order (not (beq (leb 0x80 w) follows)) overlong (leb 0x80 o),
      e,
      next_to_come a b c x,
    )
    (judged c x (leb 0x80 o) s (to_come a b c) inner (λ z. rw (low (none_to_come a b c z))))
