-- What a hint within limits is.
use Rattle.std.proofs.Common.{◌≡◌, ℕ, ◌≤◌, true, ◌&&◌, T, leb, sym, subst, leb→le, le-leb}
use lib.Ieee.Bits.{is_true}
use lib.Ieee.Fits.{and_l, and_r}
use Rattle.tib_real.specs.declared.types.Real.{Real}
use Rattle.tib_real.specs.WholeNumber.{hint_within}

-- The parts of the test.
pub record Within (least most : ℕ) (r : Real) : Type 0 where
  pub hinted : r.hinted ≡ true
  pub not_below : least ≤ r.hint
  pub not_above : r.hint ≤ most

pub within : (least most : ℕ) (r : Real) → hint_within least most r ≡ true → Within least most r
unfolding hint_within
within least most r e =
    let t : T (hint_within least most r) = subst T (sym e) tt in
    let h = r.hinted in
    let a = leb least r.hint in
    let b = leb r.hint most in
    let l = and_l (h && a) b t in
    record {
      hinted = is_true h (and_l h a l);
      not_below = leb→le least r.hint (and_r h a l);
      not_above = leb→le r.hint most (and_r (h && a) b t);
    }

pub within_limits : (least most : ℕ) (r : Real) → Within least most r → hint_within least most r ≡ true
unfolding hint_within
within_limits least most r w = rw (w.hinted, le-leb least r.hint w.not_below, le-leb r.hint most w.not_above)
