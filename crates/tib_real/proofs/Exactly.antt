-- Reading in fractions answers the whole number n exactly when the hint h is from 1 to 8, x times 2 ^ h is n in size, and n is below
-- 2 ^ 53. The size of x is `units` over 2 ^ 1074, so the product is stated by multiplying out.
use Rattle.std.proofs.Common.{◌≡◌, ℕ, ◌*◌, ◌/◌, ◌%◌, ◌^◌, ◌<◌, Bool, true, false, ◌&&◌, T, eqb, ltb, sym, refl, ◌∙◌, subst, add-zero, div-add-mod', mul-div_cancel, eqb→eq, ltb→lt, pow_pos, lt-ltb}
use native.Mathlib.Nat.{mul-mod_left}
use lib.Ieee.Bits.{is_true}
use lib.Ieee.Fits.{and_l, and_r}
use Rattle.tib_real.specs.declared.types.Real.{Real}
use Rattle.tib_real.specs.Parts.{eight, negative, finite, units}
use Rattle.tib_real.specs.WholeNumber.{hint_within, signed, refused, accepted}
use Rattle.tib_real.specs.InFractions.{scaled, countable, in_fractions, fractions_of}
use Rattle.tib_real.proofs.Hints.{Within, within, within_limits}
use Rattle.tib_real.specs.Reads.{Reads}

-- Where there is such a whole number, it is the answer, with the sign of x.
whole_in_fractions : (b h n : ℕ) → finite eight b ≡ true → units eight b * 2 ^ h ≡ n * 2 ^ 1074 → n < 2 ^ 53
    → in_fractions b h ≡ accepted (signed (negative eight b) n)
unfolding in_fractions countable scaled
whole_in_fractions b h n f e s =
    rw (f, e, mul-mod_left n (2 ^ 1074), mul-div_cancel n (pow_pos 1074), lt-ltb n (2 ^ 53) s)

pub whole_is_read : (r : Real) (n : ℕ) → Reads r n → fractions_of r ≡ accepted (signed (negative eight r.bits) n)
unfolding fractions_of
whole_is_read r n k =
    rw (within_limits 1 8 r (record { hinted = k.hinted; not_below = k.least; not_above = k.most }))
    (whole_in_fractions r.bits r.hint n k.number k.product k.small)

-- Where there is none, the answer is the refusal.
module _ (r : Real) where
  answered : Within 1 8 r → T (countable r.bits r.hint) → Reads r (scaled r.bits r.hint / 2 ^ 1074)
  unfolding countable scaled
  answered g t =
      let b = r.bits in
      let h = r.hint in
      let s = units eight b * 2 ^ h in
      let f = finite eight b in
      let w = eqb (s % 2 ^ 1074) 0 in
      let v = ltb (s / 2 ^ 1074) (2 ^ 53) in
      let z = eqb→eq (s % 2 ^ 1074) 0 (and_r f w (and_l (f && w) v t)) in
      record {
        hinted = g.hinted;
        least = g.not_below;
        most = g.not_above;
        number = is_true f (and_l f w (and_l (f && w) v t));
        product = sym (div-add-mod' s (2 ^ 1074)) ∙ rw z (add-zero (s / 2 ^ 1074 * 2 ^ 1074));
        small = ltb→lt (s / 2 ^ 1074) (2 ^ 53) (and_r (f && w) v t);
      }

  pub others_are_refused : ((n : ℕ) → Reads r n → ⊥) → fractions_of r ≡ refused
  unfolding fractions_of in_fractions
  others_are_refused none = go (hint_within 1 8 r) refl (countable r.bits r.hint) refl
    where
      go : (p : Bool) → hint_within 1 8 r ≡ p → (q : Bool) → countable r.bits r.hint ≡ q → fractions_of r ≡ refused
      go true g true t = absurd (none (scaled r.bits r.hint / 2 ^ 1074) (answered (within 1 8 r g) (subst T (sym t) tt)))
      go true g false t = rw (g, t)
      go false g q t = rw g
