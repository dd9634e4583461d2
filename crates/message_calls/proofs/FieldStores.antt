-- A field is stored as its control part and then its contents.
use Prim.Native.Nat.{ℕ, suc, ◌+◌, ◌*◌, ◌-◌, ◌/◌, ◌%◌, ◌≤◌, ◌<◌}
use native.Mathlib.Nat.{div-one}
use native.Mathlib.Numerals.{add-one}
use native.Mathlib.Omega.{arith}
use mathlib.Core.Path.{◌≡◌, sym, ap, ◌∙◌}
use mathlib.Core.List.{List, [], ◌∷◌}
use lib.ListN.{length, set}
use lib.IntN.{ℤ}
use borrow.Author.Tests.{lt-ltb, le-ltb}
use Rattle.octets.specs.Number.{big_endian, octets_of, least_uint}
use Rattle.octets.specs.internal.Least.{uint_width_bits, int_width_bits}
use Rattle.octets.specs.internal.Bounded.{unsigned, signed}
use Rattle.octets.specs.Signed.{integer, least_int}
use Rattle.octets.specs.declared.Least.{Least}
use Rattle.octets.specs.Control.{first_fit, least_code, least_control}
use Rattle.octets.proofs.Number.{length_octets_of, unsigned_is, uint_octets}
use Rattle.octets.proofs.Integer.{signed_is, int_octets}
use Rattle.octets_store.specs.Store.{stored}
use Rattle.octets_store.specs.internal.Moved.{moved}
use Rattle.octets_store.proofs.Stores.{stored_fits, stored_nothing, stored_after}
use Rattle.message.specs.Shortest.{field}
use Rattle.message.proofs.Fields.{field_length}
use Rattle.message_calls.specs.internal.Stores.{Put}
use Rattle.message_calls.proofs.ControlBefore.{moved_nowhere}

-- A control part takes at least one octet.
pub control_some : (tag n : ℕ) → 1 ≤ length (least_control tag n)
unfolding least_control
control_some tag n = omega arith

-- A control part of one octet.
pub control_direct : (tag n : ℕ) → tag < 14 → n < 12 → least_control tag n ≡ (tag * 16 + n) ∷ []
unfolding least_control least_code
control_direct tag n h k = rw (lt-ltb tag 14 h, lt-ltb n 12 k)

-- A control part whose first octet has the length and whose tag takes one octet more, or two.
pub control_one : (tag n : ℕ) → 14 ≤ tag → tag < 256 → n < 12 → least_control tag n ≡ (224 + n) ∷ tag ∷ []
unfolding least_control least_code first_fit octets_of
control_one tag n a b h =
    let e : tag / 1 % 256 ≡ tag = omega arith in
    rw (le-ltb tag 14 a, lt-ltb n 12 h, lt-ltb tag 256 b, e)

pub control_two : (tag n : ℕ) → 256 ≤ tag → tag < 65536 → n < 12 → least_control tag n ≡ (240 + n) ∷ (tag / 256) ∷ (tag % 256) ∷ []
unfolding least_control least_code first_fit octets_of
control_two tag n a b h =
    let e : tag / 256 % 256 ≡ tag / 256 = omega arith in
    let f : tag / 1 % 256 ≡ tag % 256 = omega arith in
    rw (le-ltb tag 14 (omega arith), lt-ltb n 12 h, le-ltb tag 256 a, lt-ltb tag 65536 b, e, f)

-- A store of one octet.
one_stored : (d : List ℕ) (at x : ℕ) → at < length d → set d at x ≡ stored d at (x ∷ [])
one_stored d at x h = sym (stored_fits d at (x ∷ []) (omega arith))

module _ (d : List ℕ) (to tag n : ℕ) (t : tag < 14) (l : n < 12) where
  direct_size : length (least_control tag n) ≡ 1
  direct_size = ap length (control_direct tag n t l)

  direct_inside : to + length (least_control tag n) ≤ length d → to < length d
  direct_inside h = let e = direct_size in omega arith

  pub direct_put : to + length (least_control tag n) ≤ length d → Put d to (least_control tag n) (to + 1) (set d to (tag * 16 + n))
  direct_put h =
      let i = direct_inside h in
      record { place = rw direct_size; buffer = rw (control_direct tag n t l) (one_stored d to (tag * 16 + n) i) }

  -- Contents with room for one octet before them stay where they are.
  pub direct_wrapped : to + length (least_control tag n) + n ≤ length d
      → (to + 1 + n ≡ to + length (least_control tag n) + n)
      × (set d to (tag * 16 + n) ≡ stored (moved d (to + 1) n (length (least_control tag n) - 1)) to (least_control tag n))
  direct_wrapped h =
      let e = direct_size in
      let i : to < length d = omega arith in
      (omega arith, rw (control_direct tag n t l, moved_nowhere d (to + 1) n (omega arith)) (one_stored d to (tag * 16 + n) i))

-- A control part of two octets, and one of three.
pub one_put : (d : List ℕ) (to tag n : ℕ) → 14 ≤ tag → tag < 256 → n < 12 → to + length (least_control tag n) ≤ length d
    → Put d to (least_control tag n) (to + 2) (set (set d to (224 + n)) (to + 1) tag)
one_put d to tag n a b h k =
    let e = control_one tag n a b h in
    let l = ap length e in
    record { place = rw e; buffer = rw (e, add-one) (sym (stored_fits d to ((224 + n) ∷ tag ∷ []) (omega arith))) }

pub two_put : (d : List ℕ) (to tag n : ℕ) → 256 ≤ tag → tag < 65536 → n < 12 → to + length (least_control tag n) ≤ length d
    → Put d to (least_control tag n) (to + 3) (set (set (set d to (240 + n)) (to + 1) (tag / 256)) (to + 2) (tag % 256))
two_put d to tag n a b h k =
    let e = control_two tag n a b h in
    let l = ap length e in
    let i : to + 1 ≡ suc to = omega arith in
    let j : to + 2 ≡ suc (suc to) = omega arith in
    record { place = rw e; buffer = rw (e, i, j) (sym (stored_fits d to ((240 + n) ∷ (tag / 256) ∷ (tag % 256) ∷ []) (omega arith))) }

-- A number of no octets.
pub no_digit : (d : List ℕ) (at w v : ℕ) → w ≡ 0 → Put d at (octets_of w v) at d
unfolding octets_of
no_digit d at w v e = record { place = rw e (omega arith); buffer = rw e (sym (stored_nothing d at)) }

-- A number of one octet.
pub one_digit : (d : List ℕ) (at w v : ℕ) → w ≡ 1 → at + length (octets_of w v) ≤ length d → Put d at (octets_of w v) (at + 1) (set d at (v % 256))
unfolding octets_of
one_digit d at w v e h =
    let o : octets_of w v ≡ (v % 256) ∷ [] = rw (e, div-one v) in
    let l = ap length o in
    record { place = rw o; buffer = rw o (one_stored d at (v % 256) (omega arith)) }

-- The control part of a length n and then n octets.
pub field_put : (d : List ℕ) (to tag n : ℕ) (xs : List ℕ) (mid end : ℕ) (between after : List ℕ)
    → n ≡ length xs → to + length (field tag xs) ≤ length d → Put d to (least_control tag n) mid between → Put between mid xs end after
    → Put d to (field tag xs) end after
unfolding field
field_put d to tag n xs mid end between after e h front back =
    let l = field_length tag xs in
    let a : mid ≡ to + length (least_control tag (length xs)) = rw (front.place, e) in
    let b : between ≡ stored d to (least_control tag (length xs)) = rw (front.buffer, e) in
    let p = back.place in
    record {
      place = omega arith;
      buffer = back.buffer ∙ rw (a, b) (stored_after d to (least_control tag (length xs)) xs (omega arith));
    }

-- The same for octets of a number.
pub number_length : (tag w v : ℕ) → length (field tag (octets_of w v)) ≡ length (least_control tag w) + w
number_length tag w v = field_length tag (octets_of w v) ∙ rw (length_octets_of w v)

-- The octets of the least form of a number that was read from octets.
pub uint_contents : (s : List ℕ) (v : ℕ) (r : Least) → v ≡ unsigned s → length s ≤ 8 → r ≡ uint_width_bits v
    → octets_of r.width r.bits ≡ least_uint (big_endian s)
uint_contents s v r e h f = uint_octets r v f ∙ ap least_uint (e ∙ unsigned_is s h)

pub int_contents : (s : List ℕ) (z : ℤ) (r : Least) → z ≡ signed s → length s ≤ 8 → r ≡ int_width_bits z
    → octets_of r.width r.bits ≡ least_int (integer s)
int_contents s z r e h f = int_octets r z f ∙ ap least_int (e ∙ signed_is s h)
