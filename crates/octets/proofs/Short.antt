-- When the octets of a number or a control part are its shortest form.
use Prim.Native.Nat.{ℕ, zero, suc, ◌+◌, ◌*◌, ◌-◌, ◌/◌, ◌%◌, ◌^◌, ◌≤◌, ◌<◌}
use native.Mathlib.Nat.{pow-suc, mul-le-mul_right}
use native.Mathlib.Omega.{arith}
use mathlib.Core.Path.{◌≡◌, refl, sym, ap, ◌∙◌}
use mathlib.Core.Bool.{Bool, true, false, cond, ◌&&◌}
use mathlib.Core.List.{List, [], ◌∷◌, ◌++◌}
use lib.ListN.{length, get_or, take, drop, length-append, length-drop}
use lib.Seq.{take_all, take-add, length-take-le}
use lib.IntN.{ℤ}
use lib.Dec.{eqb, leb, ltb}
use borrow.Author.Tests.{eqb-true, eq-eqb, leb-true, le-leb, lt-leb, ltb-true, ltb-false, lt-ltb, le-ltb}
use Rattle.octets.specs.Number.{Octets, big_endian, octets_of, width, width_within, least_uint}
use Rattle.octets.specs.Signed.{lowest, with_sign, integer, signed_width, least_int}
use Rattle.octets.specs.LeastLength.{zigzag}
use Rattle.octets.specs.NoShorter.{NoShorter}
use Rattle.octets.specs.ControlPart.{Code, tag_code, length_code, Form, direct, follows, ControlPart}
use Rattle.octets.specs.Control.{following, coded, control_of, control, first_fit, least_code, least_control}
use Rattle.octets.specs.declared.Control.TheVariants.{Whole}
use Rattle.octets.specs.Short.{same, short_uint, short_int, short_part, short_control}
use Rattle.octets.specs.internal.Bounded.{unsigned, signed}
use Rattle.octets.specs.internal.Least.{least_of_lead, least_leads}
use Rattle.octets.proofs.Bools.{and_left, and_right, and_both, same_test}
use Rattle.octets.proofs.Same.{same_true, same_exactly, same_by_length}
use Rattle.octets.proofs.Number.{power_positive, power_grows, number_below, number_below_most, length_octets_of, width_above, width_bound, length_least_uint, unsigned_is, octets_append, octets_before, octets_after, octets_part}
use Rattle.octets.proofs.Shorter.{least_uint_no_shorter}
use Rattle.octets.proofs.Integer.{integer_in_range, length_least_int, least_int_no_shorter, signed_is}
use Rattle.octets.proofs.LeadingZeros.{signed_zigzag, zigzag_fits}
use Rattle.octets.proofs.Codes.{Rising, rising_below, form_of, least_code_least}
use Rattle.octets.proofs.ControlPart.{tag_width, length_width, tag_read, length_read, tag_rising, length_rising, control_some, control_size, part_of_control, control_exactly, least_control_least}

-- ---- numbers

-- Octets of at most eight are the least ones of what they hold exactly if that needs them all; more octets never are.
least_test : (l s : List ℕ) (k n : ℕ) → length l ≡ k → k ≤ 8 → n ≤ 8 → (length s ≤ 8 → NoShorter l s) → (length s ≤ 8 → n ≡ k)
    → same l s ≡ leb (length s) n
least_test l s k n e a b short agree = same_test (same l s) (leb (length s) n) needed enough
  where
    needed : same l s ≡ true → leb (length s) n ≡ true
    needed t = let f = ap length (same_true l s t) in let g = agree (omega arith) in le-leb (length s) n (omega arith)

    enough : leb (length s) n ≡ true → same l s ≡ true
    enough t =
        let h = leb-true (length s) n t in
        let g = agree (omega arith) in
        let r = short (omega arith) in
        let q = r.long in
        (same_exactly l s).1 (r.same (omega arith))

pub short_uint_lem : (s : List ℕ) → Octets s → short_uint s ≡ leb (length s) (width (unsigned s))
unfolding short_uint
short_uint_lem s o =
    let v = big_endian s in
    least_test (least_uint v) s (width v) (width (unsigned s)) (length_least_uint v) (width_bound v) (width_bound (unsigned s))
    (least_uint_no_shorter s o) (λ h. ap width (unsigned_is s h))

pub short_int_lem : (s : List ℕ) → Octets s → short_int s ≡ leb (length s) (width (zigzag (signed s)))
unfolding short_int
short_int_lem s o =
    let z = integer s in
    least_test (least_int z) s (width (zigzag z)) (width (zigzag (signed s))) (length_least_int z ∙ signed_zigzag z) (width_bound (zigzag z))
    (width_bound (zigzag (signed s))) (least_int_no_shorter s o) (λ h. ap (λ (y : ℤ). width (zigzag y)) (signed_is s h))

-- No octets are the shortest form of 0.
pub none_short_uint : short_uint [] ≡ true
unfolding short_uint same least_uint big_endian width width_within octets_of
none_short_uint = refl

pub none_short_int : short_int [] ≡ true
unfolding short_int same least_int integer signed_width width width_within octets_of
none_short_int = refl

-- ---- numbers by their first octets

-- A first octet that is not 0 is needed.
pub uint_by_first : (s : List ℕ) → Octets s → 0 < length s → length s ≤ 8 → 1 ≤ get_or s 0 0 → short_uint s ≡ true
unfolding big_endian
uint_by_first [] o a b h = absurd (omega arith)
uint_by_first (x ∷ s) o a b h =
    let m = mul-le-mul_right (256 ^ length s) h in
    let g : 256 ^ length s ≤ big_endian (x ∷ s) = omega arith in
    short_uint_lem (x ∷ s) o ∙ rw (unsigned_is (x ∷ s) b)
    (le-leb (length (x ∷ s)) (width (big_endian (x ∷ s))) (width_above (big_endian (x ∷ s)) (length s) (number_below_most (x ∷ s) 8 o b) g))

-- With its sign as the lowest bit, a number is twice its magnitude, or one less below zero.
zigzag_with_sign : (n m : ℕ) (sign : Bool) → 0 < m → 2 * m ≤ zigzag (with_sign n sign m) + 1
unfolding zigzag with_sign
zigzag_with_sign n m false h = omega arith
zigzag_with_sign n zero true h = absurd (omega arith)
zigzag_with_sign n (suc m) true h = omega arith

zigzag_integer : (x : ℕ) (s : List ℕ) → 0 < big_endian (x % 128 ∷ s) → 2 * big_endian (x % 128 ∷ s) ≤ zigzag (integer (x ∷ s)) + 1
unfolding integer
zigzag_integer x s h = zigzag_with_sign (length (x ∷ s)) (big_endian (x % 128 ∷ s)) (leb 128 x) h

-- The first octet is needed where the octets after it have no room for the magnitude beside a sign.
int_by_magnitude : (x : ℕ) (s : List ℕ) → Octets (x ∷ s) → length (x ∷ s) ≤ 8 → 256 ^ length s < 2 * big_endian (x % 128 ∷ s)
    → short_int (x ∷ s) ≡ true
unfolding lowest
int_by_magnitude x s o b h =
    let z = integer (x ∷ s) in
    let g = zigzag_integer x s (omega arith) in
    let fits = zigzag_fits z (integer_in_range (x ∷ s) o b) in
    short_int_lem (x ∷ s) o
    ∙ rw (signed_is (x ∷ s) b) (le-leb (length (x ∷ s)) (width (zigzag z)) (width_above (zigzag z) (length s) fits (omega arith)))

-- A first octet that has more than a sign is needed.
pub int_by_first : (s : List ℕ) → Octets s → 0 < length s → length s ≤ 8 → 1 ≤ get_or s 0 0 % 128 → short_int s ≡ true
unfolding big_endian
int_by_first [] o a b h = absurd (omega arith)
int_by_first (x ∷ s) o a b h =
    let p = power_positive (length s) in
    let m = mul-le-mul_right (256 ^ length s) h in
    int_by_magnitude x s o b (omega arith)

-- Whatever the first octet is, it is needed before a second one that has more than the bit in the sign's place.
pub int_by_second : (s : List ℕ) → Octets s → length s ≤ 8 → 2 ≤ length s → 129 ≤ get_or s 1 0 → short_int s ≡ true
unfolding big_endian
int_by_second [] o b a h = absurd (omega arith)
int_by_second (x ∷ []) o b a h = absurd (omega arith)
int_by_second (x ∷ y ∷ s) o b a h =
    let p = power_positive (length s) in
    let e : 256 ^ suc (length s) ≡ 256 ^ length s * 256 = pow-suc 256 (length s) in
    let m = mul-le-mul_right (256 ^ length s) h in
    int_by_magnitude x (y ∷ s) o b (omega arith)

-- ---- control parts

-- The first of rising widths is the least.
first_least : (u : ℕ) (w : ℕ) (ws : List ℕ) (j : ℕ) → Rising u (w ∷ ws) → j < length (w ∷ ws) → w ≤ get_or (w ∷ ws) j 0
unfolding Rising
first_least u w ws zero r h = omega arith
first_least u w ws (suc j) r h = let k = rising_below w ws j r.1 (omega arith) in omega arith

-- A number that the first width holds takes that.
first_fit_first : (d : ℕ) (ws : List ℕ) (v : ℕ) → 0 < length ws → v < 256 ^ get_or ws 0 0 → length (first_fit d ws v).1 ≡ get_or ws 0 0
unfolding first_fit
first_fit_first d [] v h b = absurd (omega arith)
first_fit_first d (w ∷ ws) v h b = rw (lt-ltb v (256 ^ w) b) (length_octets_of w v)

-- A number that the width after place j holds takes that exactly if the width at j does not hold it.
first_fit_next : (d u : ℕ) (ws : List ℕ) (v j : ℕ) → Rising u ws → suc j < length ws → v < 256 ^ get_or ws (suc j) 0
    → leb (get_or ws (suc j) 0) (length (first_fit d ws v).1) ≡ leb (256 ^ get_or ws j 0) v
unfolding first_fit Rising
first_fit_next d u [] v j r h b = absurd (omega arith)
first_fit_next d u (w ∷ ws) v j r h b = go (ltb v (256 ^ w)) refl j h b (λ i k. first_fit_next (suc d) w ws v i r.1 k)
  where
    go : (t : Bool) → ltb v (256 ^ w) ≡ t → (j : ℕ) → suc j < length (w ∷ ws) → v < 256 ^ get_or ws j 0
        → ((i : ℕ) → suc i < length ws → v < 256 ^ get_or ws (suc i) 0
        → leb (get_or ws (suc i) 0) (length (first_fit (suc d) ws v).1) ≡ leb (256 ^ get_or ws i 0) v)
        → leb (get_or ws j 0) (length (cond t (d, octets_of w v) (first_fit (suc d) ws v)).1) ≡ leb (256 ^ get_or (w ∷ ws) j 0) v
    go true e j h b later =
        let g = ltb-true v (256 ^ w) e in
        let k = rising_below w ws j r.1 (omega arith) in
        let m = power_grows w (get_or (w ∷ ws) j 0) (first_least u w ws j r (omega arith)) in
        rw (length_octets_of w v, lt-leb (get_or ws j 0) w k, lt-leb (256 ^ get_or (w ∷ ws) j 0) v (omega arith)) refl
    go false e zero h b later =
        rw (first_fit_first (suc d) ws v (omega arith) b, le-leb (get_or ws 0 0) (get_or ws 0 0) (omega arith))
        (sym (le-leb (256 ^ w) v (ltb-false v (256 ^ w) e)))
    go false e (suc j) h b later = later j (omega arith) b

-- A code whose widths rise from 1 on, and of which each holds every number that is direct.
module _ (code : Code) (rising : Rising 0 code.widths) (few : code.direct ≤ 256) where
  -- The least number of the first lead that octets follow, and of a later one.
  lead_first : least_of_lead code (code.direct + 0) ≡ code.direct
  unfolding least_of_lead
  lead_first = rw (le-leb (code.direct + 0) code.direct (omega arith)) (omega arith)

  lead_next : (j : ℕ) → least_of_lead code (code.direct + suc j) ≡ 256 ^ get_or code.widths j 0
  unfolding least_of_lead
  lead_next j =
      let e : code.direct + suc j - code.direct - 1 ≡ j = omega arith in
      rw (lt-leb (code.direct + suc j) code.direct (omega arith), e) refl

  -- Octets follow no lead of a direct number.
  lead_above : (i : ℕ) → i < length code.widths → code.direct ≤ least_of_lead code (code.direct + i)
  lead_above zero h = rw lead_first (omega arith)
  lead_above (suc j) h =
      let k = power_grows 1 (get_or code.widths j 0) (rising_below 0 code.widths j rising (omega arith)) in
      rw (lead_next j) (omega arith)

  -- A form is no longer than the least one exactly if its number is not below the least number of its lead.
  form_least : (v x : ℕ) (s : List ℕ) → Octets s → Form code v x s → leb (length s) (length (least_code code v).1) ≡ leb (least_of_lead code x) v
  unfolding least_code least_of_lead
  form_least v x s o (direct h) =
      rw (le-leb 0 (length (least_code code v).1) (omega arith), le-leb v code.direct (omega arith), le-leb v v (omega arith)) refl
  form_least v x s o (follows i r h l e) = go (ltb v code.direct) refl i h l (rw (l, e) at (number_below r o))
    where
      go : (t : Bool) → ltb v code.direct ≡ t → (i : ℕ) → i < length code.widths → length r ≡ get_or code.widths i 0
          → v < 256 ^ get_or code.widths i 0
          → leb (length r) (length (cond t (v, []) (first_fit code.direct code.widths v)).1) ≡ leb (least_of_lead code (code.direct + i)) v
      go true t i h l b =
          let k = rising_below 0 code.widths i rising h in
          let m = lead_above i h in
          let n = ltb-true v code.direct t in
          rw (lt-leb (length r) 0 (omega arith), lt-leb (least_of_lead code (code.direct + i)) v (omega arith)) refl
      go false t zero h l b =
          let k = first_fit_first code.direct code.widths v h b in
          rw (k, l, le-leb (get_or code.widths 0 0) (get_or code.widths 0 0) (omega arith), lead_first)
          (sym (le-leb code.direct v (ltb-false v code.direct t)))
      go false t (suc j) h l b = rw (l, lead_next j) (first_fit_next code.direct 0 code.widths v j rising h b)

  form_long : (v x : ℕ) (s : List ℕ) → Octets s → Form code v x s → length (least_code code v).1 ≤ length s
  form_long v x s o f = (least_code_least code v v x s rising (omega arith) o f).long

-- Octets after a first one, in two parts of which neither is shorter than the least one, are the least ones exactly if neither is longer.
two_parts : (l s : List ℕ) (a b x y : ℕ) → NoShorter l s → length l ≡ 1 + a + b → length s ≡ 1 + x + y → a ≤ x → b ≤ y
    → same l s ≡ leb x a && leb y b
two_parts l s a b x y n e f h k = same_by_length l s n ∙ same_test (eqb (length l) (length s)) (leb x a && leb y b) apart together
  where
    apart : eqb (length l) (length s) ≡ true → leb x a && leb y b ≡ true
    apart t =
        let g = eqb-true (length l) (length s) t in
        and_both (leb x a) (leb y b) (le-leb x a (omega arith)) (le-leb y b (omega arith))

    together : leb x a && leb y b ≡ true → eqb (length l) (length s) ≡ true
    together t =
        let p = leb-true x a (and_left (leb x a) (leb y b) t) in
        let q = leb-true y b (and_right (leb x a) (leb y b) t) in
        eq-eqb (length l) (length s) (omega arith)

-- A control part is the least one exactly if neither of its leads is larger than needed.
part_least : (tag len t l : ℕ) (a b : List ℕ) → Octets ((t * 16 + l) ∷ a ++ b) → Form tag_code tag t a → Form length_code len l b
    → same (least_control tag len) ((t * 16 + l) ∷ a ++ b) ≡ leb (least_of_lead tag_code t) tag && leb (least_of_lead length_code l) len
unfolding Octets least_control
part_least tag len t l a b o f g =
    let c = (t * 16 + l) ∷ a ++ b in
    let h = octets_before a b o.1 in
    let k = octets_after a b o.1 in
    let p : ControlPart tag len c =
    record { tag_lead = t; length_lead = l; tag_octets = a; length_octets = b; is = refl; tag_form = f; length_form = g } in
    let least = least_control_least c tag len len o p (omega arith) in
    rw (← form_least tag_code tag_rising (omega arith) tag t a h f, ← form_least length_code length_rising (omega arith) len l b k g)
    (two_parts (least_control tag len) c (length (least_code tag_code tag).1) (length (least_code length_code len).1) (length a) (length b)
    (record { long = least.0; same = λ e. least.1 e refl }) (simp length-append (omega arith)) (simp length-append (omega arith))
    (form_long tag_code tag_rising (omega arith) tag t a h f) (form_long length_code length_rising (omega arith) len l b k g))

-- The same for the control part at the front of octets, by the leads that are read.
pub short_control_lem : (c : ℕ) (s : List ℕ) → c < 256 → Octets s
    → short_control (c ∷ s) ≡ least_leads (c / 16) (c % 16) (control_of (c / 16) (c % 16) s)
unfolding short_control short_part least_leads Octets control_of
short_control_lem c s small o = rw (← control_some c s small) (go (ltb (length s) (n + m)) refl)
  where
    n : ℕ
    n = tag_width c

    m : ℕ
    m = length_width c

    go : (t : Bool) → ltb (length s) (n + m) ≡ t
        → short_part (c ∷ s) (control_of (c / 16) (c % 16) s) ≡ least_leads (c / 16) (c % 16) (control_of (c / 16) (c % 16) s)
    go true e = rw e refl
    go false e =
        let h = ltb-false (length s) (n + m) e in
        let d = length-drop n s in
        let a = take n s in
        let b = take m (drop n s) in
        let x : 1 + n + m ≡ suc (n + m) = omega arith in
        let y : c ≡ c / 16 * 16 + c % 16 = omega arith in
        let i : take (1 + n + m) (c ∷ s) ≡ (c / 16 * 16 + c % 16) ∷ a ++ b = rw (x, take-add n m s) (ap (λ (z : ℕ). z ∷ a ++ b) y) in
        rw (e, i)
        (part_least (tag_read c s) (length_read c s) (c / 16) (c % 16) a b (omega arith, octets_append a b (octets_part n 0 s o) (octets_part m n s o))
        (form_of tag_code (c / 16) a (omega arith) (length-take-le n s (omega arith)))
        (form_of length_code (c % 16) b (omega arith) (length-take-le m (drop n s) (omega arith))))

-- A control octet with a direct tag and a direct length is the least control part of these.
pub short_direct : (c : ℕ) (s : List ℕ) → c / 16 < 14 → c % 16 < 12 → short_control (c ∷ s) ≡ true
unfolding short_control short_part control_of following coded least_control least_code same
short_direct c s h k =
    let e : c / 16 * 16 + c % 16 ≡ c = omega arith in
    let w : control_of (c / 16) (c % 16) s ≡ Whole (c / 16) (c % 16) 1 =
    rw (lt-ltb (c / 16) 14 h, lt-ltb (c % 16) 12 k, le-ltb (length s) 0 (omega arith)) in
    rw (← control_some c s (omega arith), w, lt-ltb (c / 16) 14 h, lt-ltb (c % 16) 12 k, eq-eqb (c / 16 * 16 + c % 16) c e) refl

-- A control part is as short where it stands alone.
pub short_front : (s : List ℕ) (tag len size : ℕ) → control s ≡ Whole tag len size → short_control (take size s) ≡ short_control s
unfolding short_control short_part
short_front s tag len size e =
    let k = control_size s tag len size e in
    let l = length-take-le size s k.1 in
    let p : control (take size s) ≡ Whole tag len size =
    (control_exactly (take size s) tag len).1 (part_of_control s tag len size e) ∙ rw l refl in
    rw (p, e, take_all size (take size s) (omega arith)) refl
