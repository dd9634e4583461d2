-- Laws of the least control part, octet by octet.
use Prim.Native.Nat.{ℕ, suc, ◌+◌, ◌^◌, ◌≤◌}
use native.Mathlib.Omega.{arith}
use mathlib.Core.Path.{◌≡◌, refl, sym}
use mathlib.Core.Bool.{Bool, true, false, cond}
use mathlib.Core.List.{List, [], ◌∷◌, ◌++◌}
use lib.ListN.{length, set, length-append}
use lib.Dec.{ltb}
use Rattle.octets.specs.Number.{octets_of}
use Rattle.octets.specs.ControlPart.{Code, tag_code, length_code}
use Rattle.octets.specs.Control.{first_fit, least_code, least_control}
use Rattle.octets.specs.internal.Least.{control_widths}
use Rattle.octets.specs.declared.LeastControl.{LeastControl}
use Rattle.octets.proofs.Number.{length_octets_of}
use Rattle.octets_store.specs.Store.{stored}
use Rattle.octets_store.proofs.Stores.{stored_three}

first_fit_octets_of : (d : ℕ) (ws : List ℕ) (v : ℕ) → (first_fit d ws v).1 ≡ octets_of (length (first_fit d ws v).1) v
unfolding first_fit octets_of
first_fit_octets_of d [] v = refl
first_fit_octets_of d (w ∷ ws) v = go (ltb v (256 ^ w)) (first_fit_octets_of (suc d) ws v)
  where
    go : (t : Bool) → (first_fit (suc d) ws v).1 ≡ octets_of (length (first_fit (suc d) ws v).1) v
        → (cond t (d, octets_of w v) (first_fit (suc d) ws v)).1 ≡ octets_of (length (cond t (d, octets_of w v) (first_fit (suc d) ws v)).1) v
    go true later = rw (length_octets_of w v)
    go false later = later

-- What follows the lead of a least form is the last octets of the number.
pub least_code_octets_of : (code : Code) (v : ℕ) → (least_code code v).1 ≡ octets_of (length (least_code code v).1) v
unfolding least_code octets_of
least_code_octets_of code v = go (ltb v code.direct)
  where
    go : (t : Bool)
        → (cond t (v, []) (first_fit code.direct code.widths v)).1
        ≡ octets_of (length (cond t (v, []) (first_fit code.direct code.widths v)).1) v
    go true = refl
    go false = first_fit_octets_of code.direct code.widths v

-- No width of a code is above n.
unfoldable pub Within : ℕ → List ℕ → Type 0
Within n [] = Unit {0}
Within n (w ∷ ws) = (w ≤ n) × Within n ws

first_fit_within : (n d : ℕ) (ws : List ℕ) (v : ℕ) → Within n ws → length (first_fit d ws v).1 ≤ n
unfolding first_fit Within
first_fit_within n d [] v a = omega arith
first_fit_within n d (w ∷ ws) v a = go (ltb v (256 ^ w)) (first_fit_within n (suc d) ws v a.1)
  where
    go : (t : Bool) → length (first_fit (suc d) ws v).1 ≤ n → length (cond t (d, octets_of w v) (first_fit (suc d) ws v)).1 ≤ n
    go true later = let l = length_octets_of w v in let h = a.0 in omega arith
    go false later = later

-- No more octets follow a lead than the code's widths allow.
pub least_code_within : (n : ℕ) (code : Code) (v : ℕ) → Within n code.widths → length (least_code code v).1 ≤ n
unfolding least_code
least_code_within n code v a = go (ltb v code.direct)
  where
    go : (t : Bool) → length (cond t (v, []) (first_fit code.direct code.widths v)).1 ≤ n
    go true = omega arith
    go false = first_fit_within n code.direct code.widths v a

module _ (tag len : ℕ) (c : LeastControl) (e : c ≡ control_widths tag len) where
  -- The control octet, the octets of the tag and the octets of the length.
  pub least_control_parts : least_control tag len ≡ c.octet ∷ octets_of c.tag_width tag ++ octets_of c.length_width len
  unfolding least_control control_widths
  least_control_parts = rw (e, ← least_code_octets_of tag_code tag, ← least_code_octets_of length_code len)

  pub least_control_size : length (least_control tag len) ≡ 1 + c.tag_width + c.length_width
  least_control_size =
      rw (least_control_parts, length-append (octets_of c.tag_width tag) (octets_of c.length_width len), length_octets_of c.tag_width tag, length_octets_of c.length_width len)
      (omega arith)

  -- At most two octets of the tag and eight of the length follow the control octet.
  pub least_control_widths : (c.tag_width ≤ 2) × (c.length_width ≤ 8)
  unfolding control_widths Within
  least_control_widths =
      rw e (least_code_within 2 tag_code tag (omega arith, (omega arith, tt)), least_code_within 8 length_code len (omega arith, (omega arith, (omega arith, (omega arith, tt)))))

  -- The three stores of a control part are one.
  pub control_stored : (d : List ℕ) (at : ℕ) → at + length (least_control tag len) ≤ length d
      → stored (stored (set d at c.octet) (at + 1) (octets_of c.tag_width tag)) (at + 1 + c.tag_width) (octets_of c.length_width len)
      ≡ stored d at (least_control tag len)
  control_stored d at h =
      let n = least_control_size in
      let la = length_octets_of c.tag_width tag in
      let lb = length_octets_of c.length_width len in
      rw least_control_parts
      (stored_three d at c.octet c.tag_width (octets_of c.tag_width tag) (octets_of c.length_width len) (sym la) (omega arith))
