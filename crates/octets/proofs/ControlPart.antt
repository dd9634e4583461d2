-- Exactly the control parts are read as such, and laws of the least control part.
use Prim.Native.Nat.{ℕ, zero, suc, ◌+◌, ◌*◌, ◌/◌, ◌%◌, ◌^◌, ◌≤◌, ◌<◌}
use native.Mathlib.Nat.{lt_of_lt_of_le}
use native.Mathlib.Omega.{arith}
use mathlib.Core.Path.{◌≡◌, refl, sym, ap, ◌∙◌, subst}
use mathlib.Core.Bool.{Bool, true, false, cond}
use mathlib.Core.List.{List, [], ◌∷◌, ◌++◌, append_assoc, append-nil}
use mathlib.Core.Logic.{◌↔◌}
use lib.ListN.{length, get_or, take, drop, length-append, length-drop, take-append-drop}
use lib.Seq.{take_at, take_all, drop_at, length-take-le}
use lib.Arith.{digits_div, digits_mod}
use lib.Dec.{ltb}
use borrow.Author.Tests.{ltb-true, ltb-false, lt-ltb, le-ltb}
use Rattle.octets.specs.Number.{Octets}
use Rattle.octets.specs.ControlPart.{Code, tag_code, length_code, Form, direct, follows, ControlPart}
use Rattle.octets.specs.Control.{following, coded, control_of, control, least_code, least_control}
use Rattle.octets.specs.declared.Control.TheVariants.{Absent, Partial, Whole}
use Rattle.octets.proofs.Number.{octets_append, octets_before, octets_after, number_below_most}
use Rattle.octets.proofs.Codes.{form_following, form_coded, form_lead, form_of, Rising, Encodable, least_code_form, least_code_octets, least_code_least}

-- Octets at whose front a whole control part stands, taken apart.
record Front (s : List ℕ) (tag len size : ℕ) : Type 0 where
  octet : ℕ
  tagged : List ℕ
  sized : List ℕ
  rest : List ℕ
  is : s ≡ octet ∷ tagged ++ (sized ++ rest)
  small : octet < 256
  tag_wide : length tagged ≡ following tag_code (octet / 16)
  length_wide : length sized ≡ following length_code (octet % 16)
  tag_is : coded tag_code (octet / 16) tagged ≡ tag
  length_is : coded length_code (octet % 16) sized ≡ len
  size_is : 1 + length tagged + length sized ≡ size

-- A whole control part is read whatever follows it.
control_of_front : (x : ℕ) (a b r : List ℕ) → x < 256 → length a ≡ following tag_code (x / 16) → length b ≡ following length_code (x % 16)
    → control (x ∷ a ++ (b ++ r)) ≡ Whole (coded tag_code (x / 16) a) (coded length_code (x % 16) b) (1 + length a + length b)
unfolding control control_of
control_of_front x a b r h p q =
    let k : length a + length b ≤ length (a ++ (b ++ r)) = simp length-append (omega arith) in
    rw (lt-ltb x 256 h, ← p, ← q, le-ltb (length (a ++ (b ++ r))) (length a + length b) k, take_at a (b ++ r) (length a) refl, drop_at a (b ++ r) (length a) refl, take_at b r (length b) refl)

pub control_some : (x : ℕ) (s : List ℕ) → x < 256 → control_of (x / 16) (x % 16) s ≡ control (x ∷ s)
unfolding control
control_some x s l = rw (lt-ltb x 256 l)

-- How many octets of the tag and of the length follow a first octet, and what is read where they are all there.
abbrev pub tag_width : ℕ → ℕ
tag_width x = following tag_code (x / 16)

abbrev pub length_width : ℕ → ℕ
length_width x = following length_code (x % 16)

abbrev pub tag_read : ℕ → List ℕ → ℕ
tag_read x s = coded tag_code (x / 16) (take (tag_width x) s)

abbrev pub length_read : ℕ → List ℕ → ℕ
length_read x s = coded length_code (x % 16) (take (length_width x) (drop (tag_width x) s))

pub control_wide : (x : ℕ) (s : List ℕ) → x < 256 → tag_width x + length_width x ≤ length s
    → control (x ∷ s) ≡ Whole (tag_read x s) (length_read x s) (1 + tag_width x + length_width x)
unfolding control control_of
control_wide x s small wide = rw (lt-ltb x 256 small, le-ltb (length s) (tag_width x + length_width x) wide)

front_of_control : (s : List ℕ) (tag len size : ℕ) → control s ≡ Whole tag len size → Front s tag len size
unfolding control control_of
front_of_control [] tag len size e = let z : ◌≡◌ {A = ℕ} 0 1 = cc in absurd (omega arith)
front_of_control (x ∷ s) tag len size e = go (ltb x 256) refl (ltb (length s) (tag_width x + length_width x)) refl
  where
    go : (t : Bool) → ltb x 256 ≡ t → (u : Bool) → ltb (length s) (tag_width x + length_width x) ≡ u → Front (x ∷ s) tag len size
    go false t u v = let f = rw t at e in let z : ◌≡◌ {A = ℕ} 0 1 = cc in absurd (omega arith)
    go true t true v = let f = rw (t, v) at e in let z : ◌≡◌ {A = ℕ} 0 1 = cc in absurd (omega arith)
    go true t false v =
        let n = tag_width x in
        let m = length_width x in
        let h = ltb-false (length s) (n + m) v in
        let f = sym (control_wide x s (ltb-true x 256 t) h) ∙ e in
        let d = length-drop n s in
        let a = length-take-le n s (omega arith) in
        let b = length-take-le m (drop n s) (omega arith) in
        record {
          octet = x;
          tagged = take n s;
          sized = take m (drop n s);
          rest = drop m (drop n s);
          is = rw (take-append-drop m (drop n s), take-append-drop n s);
          small = ltb-true x 256 t;
          tag_wide = a;
          length_wide = b;
          tag_is = cc;
          length_is = cc;
          size_is = rw (a, b) (cc);
        }

-- A whole control part takes an octet or more, and no more than there are.
pub control_size : (s : List ℕ) (tag len size : ℕ) → control s ≡ Whole tag len size → (1 ≤ size) × (size ≤ length s)
control_size s tag len size e = go (front_of_control s tag len size e)
  where
    go : Front s tag len size → (1 ≤ size) × (size ≤ length s)
    go f =
        let k = f.size_is in
        let l : length s ≡ 1 + length f.tagged + length f.sized + length f.rest =
        ap length f.is ∙ simp length-append (omega arith) in
        (omega arith, omega arith)

-- ---- what is read is a control part, and every control part is read

-- The octets that a control part takes at the front of others are a control part.
pub part_of_control : (s : List ℕ) (tag len size : ℕ) → control s ≡ Whole tag len size → ControlPart tag len (take size s)
part_of_control s tag len size e = go (front_of_control s tag len size e)
  where
    go : Front s tag len size → ControlPart tag len (take size s)
    go f =
        let x = f.small in
        let g : s ≡ f.octet ∷ f.tagged ++ f.sized ++ f.rest = f.is ∙ sym (append_assoc (f.octet ∷ f.tagged) f.sized f.rest) in
        let i = f.size_is in
        let l : length (f.octet ∷ f.tagged ++ f.sized) ≡ size = simp length-append (omega arith) in
        let k : take size s ≡ f.octet ∷ f.tagged ++ f.sized = ap (take size) g ∙ take_at (f.octet ∷ f.tagged ++ f.sized) f.rest size l in
        let o : f.octet / 16 * 16 + f.octet % 16 ≡ f.octet = omega arith in
        record {
          tag_lead = f.octet / 16;
          length_lead = f.octet % 16;
          tag_octets = f.tagged;
          length_octets = f.sized;
          is = k ∙ rw o refl;
          tag_form =
              subst (λ (v : ℕ). Form tag_code v (f.octet / 16) f.tagged) f.tag_is
              (form_of tag_code (f.octet / 16) f.tagged (omega arith) f.tag_wide);
          length_form =
              subst (λ (v : ℕ). Form length_code v (f.octet % 16) f.sized) f.length_is
              (form_of length_code (f.octet % 16) f.sized (omega arith) f.length_wide);
        }

module _ (tag len : ℕ) (c : List ℕ) (p : ControlPart tag len c) where
  tag_lead_small : p.tag_lead < 16
  tag_lead_small = form_lead tag_code tag p.tag_lead p.tag_octets p.tag_form

  length_lead_small : p.length_lead < 16
  length_lead_small = form_lead length_code len p.length_lead p.length_octets p.length_form

  length_part : 1 + length p.tag_octets + length p.length_octets ≡ length c
  length_part = sym (ap length p.is ∙ simp length-append (omega arith))

  pub part_size : 1 ≤ length c
  part_size = let k = length_part in omega arith

  -- A control part is read whatever follows it.
  pub part_read : (r : List ℕ) → control (c ++ r) ≡ Whole tag len (length c)
  part_read r =
      let x = tag_lead_small in
      let y = length_lead_small in
      let t = p.tag_lead in
      let l = p.length_lead in
      let a = p.tag_octets in
      let b = p.length_octets in
      let d : (t * 16 + l) / 16 ≡ t = digits_div t y in
      let q : (t * 16 + l) % 16 ≡ l = digits_mod t y in
      let m : length a ≡ following tag_code ((t * 16 + l) / 16) = sym (ap (following tag_code) d ∙ form_following tag_code tag t a p.tag_form) in
      let n : length b ≡ following length_code ((t * 16 + l) % 16) = sym (ap (following length_code) q ∙ form_following length_code len l b p.length_form) in
      let k : c ++ r ≡ (t * 16 + l) ∷ a ++ (b ++ r) = ap (λ (z : List ℕ). z ++ r) p.is ∙ append_assoc ((t * 16 + l) ∷ a) b r in
      ap control k ∙ control_of_front (t * 16 + l) a b r (omega arith) m n
      ∙ rw (d, q, form_coded tag_code tag t a p.tag_form, form_coded length_code len l b p.length_form, length_part)

-- Octets are a control part exactly where they are read as one, to their end.
pub control_exactly : (c : List ℕ) (tag len : ℕ) → (control c ≡ Whole tag len (length c)) ↔ ControlPart tag len c
control_exactly c tag len = (
  λ e. subst (ControlPart tag len) (take_all (length c) c (omega arith)) (part_of_control c tag len (length c) e),
  λ p. ap control (sym (append-nil c)) ∙ part_read tag len c p [],
)

pub tag_rising : Rising 0 tag_code.widths
unfolding Rising
tag_rising = (omega arith, (omega arith, tt))

pub length_rising : Rising 0 length_code.widths
unfolding Rising
length_rising = (omega arith, (omega arith, (omega arith, (omega arith, tt))))

tag_encodable : (tag : ℕ) → tag < 256 ^ 2 → Encodable tag_code tag
tag_encodable tag h = record { rising = tag_rising; widest = 1; inside = omega arith; below = h }

length_encodable : (len : ℕ) → len < 256 ^ 8 → Encodable length_code len
length_encodable len h = record { rising = length_rising; widest = 3; inside = omega arith; below = h }

-- A form's number is below what its code can hold.
form_below : (code : Code) (n v x : ℕ) (s : List ℕ) → ((i : ℕ) → i < length code.widths → get_or code.widths i 0 ≤ n)
    → code.direct ≤ 256 ^ n → Octets s → Form code v x s → v < 256 ^ n
form_below code n v x s w d o (direct h) = lt_of_lt_of_le h d
form_below code n v x s w d o (follows i r h l e) =
    subst (λ (m : ℕ). m < 256 ^ n) e (number_below_most r n o (subst (λ (m : ℕ). m ≤ n) (sym l) (w i h)))

tag_widths : (i : ℕ) → i < 2 → get_or (1 ∷ 2 ∷ []) i 0 ≤ 2
tag_widths zero h = omega arith
tag_widths (suc zero) h = omega arith
tag_widths (suc (suc i)) h = absurd (omega arith)

length_widths : (i : ℕ) → i < 4 → get_or (1 ∷ 2 ∷ 4 ∷ 8 ∷ []) i 0 ≤ 8
length_widths zero h = omega arith
length_widths (suc zero) h = omega arith
length_widths (suc (suc zero)) h = omega arith
length_widths (suc (suc (suc zero))) h = omega arith
length_widths (suc (suc (suc (suc i)))) h = absurd (omega arith)

-- A tag has at most two octets, a length at most eight.
pub part_bounds : (c : List ℕ) (tag len : ℕ) → Octets c → ControlPart tag len c → (tag < 256 ^ 2) × (len < 256 ^ 8)
unfolding Octets
part_bounds c tag len o p =
    let b : Octets ((p.tag_lead * 16 + p.length_lead) ∷ p.tag_octets ++ p.length_octets) = subst Octets p.is o in (
      form_below tag_code 2 tag p.tag_lead p.tag_octets tag_widths (omega arith) (octets_before p.tag_octets p.length_octets b.1) p.tag_form,
      form_below length_code 8 len p.length_lead p.length_octets length_widths (omega arith) (octets_after p.tag_octets p.length_octets b.1) p.length_form,
    )

-- The least control part of a tag and a length is a control part of these.
pub least_part : (tag len : ℕ) → tag < 256 ^ 2 → len < 256 ^ 8 → ControlPart tag len (least_control tag len)
unfolding least_control
least_part tag len h k =
    record {
      tag_lead = (least_code tag_code tag).0;
      length_lead = (least_code length_code len).0;
      tag_octets = (least_code tag_code tag).1;
      length_octets = (least_code length_code len).1;
      is = refl;
      tag_form = least_code_form tag_code tag (tag_encodable tag h);
      length_form = least_code_form length_code len (length_encodable len k);
    }

pub octets_least_control : (tag len : ℕ) → tag < 256 ^ 2 → len < 256 ^ 8 → Octets (least_control tag len)
unfolding least_control Octets
octets_least_control tag len h k =
    let x = form_lead tag_code tag (least_code tag_code tag).0 (least_code tag_code tag).1 (least_code_form tag_code tag (tag_encodable tag h)) in
    let y = form_lead length_code len (least_code length_code len).0 (least_code length_code len).1 (least_code_form length_code len (length_encodable len k)) in (
      omega arith,
      octets_append (least_code tag_code tag).1 (least_code length_code len).1 (least_code_octets tag_code tag (tag_encodable tag h))
          (least_code_octets length_code len (length_encodable len k)),
    )

-- A control part of the same tag and as large a length is no shorter than the least one, and is the least one where it is as long and has the same length.
pub least_control_least : (c : List ℕ) (tag len k : ℕ) → Octets c → ControlPart tag len c → k ≤ len
    → (length (least_control tag k) ≤ length c) × (length (least_control tag k) ≡ length c → k ≡ len → least_control tag k ≡ c)
unfolding least_control Octets
least_control_least c tag len k o a h =
    let b : Octets ((a.tag_lead * 16 + a.length_lead) ∷ a.tag_octets ++ a.length_octets) = subst Octets a.is o in
    let p = least_code_least tag_code tag tag a.tag_lead a.tag_octets tag_rising (omega arith) (octets_before a.tag_octets a.length_octets b.1) a.tag_form in
    let q = least_code_least length_code k len a.length_lead a.length_octets length_rising h (octets_after a.tag_octets a.length_octets b.1) a.length_form in
    let pl = p.long in
    let ql = q.long in
    let m = length_part tag len c a in
    let n : length (least_control tag k) ≡ 1 + length (least_code tag_code tag).1 + length (least_code length_code k).1 = simp length-append (omega arith) in (
      omega arith,
      λ f g.
          let u = p.same (omega arith) refl in
          let v = q.same (omega arith) g in
          rw (u.0, v.0, u.1, v.1) (sym a.is),
    )

-- No control part at all is the end of the octets.
pub control_absent : (s : List ℕ) → control s ≡ Absent → s ≡ []
unfolding control control_of
control_absent [] e = refl
control_absent (x ∷ s) e =
    go (ltb x 256) (ltb (length s) (n + m)) (coded tag_code (x / 16) (take n s)) (coded length_code (x % 16) (take m (drop n s))) (1 + n + m) e
  where
    n : ℕ
    n = following tag_code (x / 16)

    m : ℕ
    m = following length_code (x % 16)

    go : (b t : Bool) (tag len size : ℕ) → cond b (cond t Partial (Whole tag len size)) Partial ≡ Absent → x ∷ s ≡ []
    go true true tag len size e = let z : ◌≡◌ {A = ℕ} 0 1 = cc in absurd (omega arith)
    go true false tag len size e = let z : ◌≡◌ {A = ℕ} 0 1 = cc in absurd (omega arith)
    go false t tag len size e = let z : ◌≡◌ {A = ℕ} 0 1 = cc in absurd (omega arith)

pub control_nil : control [] ≡ Absent
unfolding control
control_nil = refl
