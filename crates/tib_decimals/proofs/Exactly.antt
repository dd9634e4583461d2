-- Reading in decimals answers the one number of the rule, or the refusal if there is none.
use Prim.Native.Nat.{ℕ, ◌*◌, ◌-◌, ◌^◌}
use mathlib.Core.Path.{◌≡◌, refl, sym, ap, ◌∙◌, subst}
use mathlib.Core.Bool.{Bool, true, false}
use lib.Dec.{T}
use lib.Pow.{pow_pos}
use Rattle.tib_real.specs.declared.types.Real.{Real}
use Rattle.tib_real.specs.declared.types.WholeNumber.{WholeNumber}
use Rattle.tib_real.specs.Parts.{eight, negative, finite, units}
use Rattle.tib_real.specs.WholeNumber.{hint_within, signed, accepted}
use Rattle.tib_real.proofs.Hints.{within, within_limits}
use Rattle.tib_decimals.specs.InDecimals.{scaled, rounded, in_range, answer, in_decimals, decimals_of}
use Rattle.tib_decimals.specs.Reads.{Reads, Answered, read, not_read}
use Rattle.tib_decimals.proofs.Nearest.{nearest_is, nearest_once}

pub reads_once : (r : Real) (n m : ℕ) → Reads r n → Reads r m → n ≡ m
reads_once r n m a b = nearest_once (pow_pos 1074) a.near b.near

module _ (r : Real) where
  abbrev minus : Bool
  minus = negative eight r.bits

  abbrev size : ℕ
  size = rounded r.bits (r.hint - 16)

  size_is : (n : ℕ) → Reads r n → n ≡ size
  unfolding rounded scaled
  size_is n k = nearest_once (pow_pos 1074) k.near (nearest_is (units eight r.bits * 10 ^ (r.hint - 16)) (2 ^ 1074) (pow_pos 1074))

  reads : hint_within 17 25 r ≡ true → finite eight r.bits ≡ true → in_range minus size ≡ true → Reads r size
  unfolding rounded scaled
  reads h f i =
      let w = within 17 25 r h in
      record {
        hinted = w.hinted;
        least = w.not_below;
        most = w.not_above;
        number = f;
        near = nearest_is (units eight r.bits * 10 ^ (r.hint - 16)) (2 ^ 1074) (pow_pos 1074);
        fits = i;
      }

  -- A test that fails leaves no number.
  fails : {b : Bool} → b ≡ false → b ≡ true → ⊥
  fails e f = subst T (sym f ∙ e) tt

  pub decimals_answered : Answered r (decimals_of r)
  unfolding decimals_of in_decimals answer
  decimals_answered = go (hint_within 17 25 r) refl (finite eight r.bits) refl (in_range minus size) refl
    where
      go : (p : Bool) → hint_within 17 25 r ≡ p → (q : Bool) → finite eight r.bits ≡ q → (s : Bool) → in_range minus size ≡ s → Answered r (decimals_of r)
      go true h true f true i = read size (reads h f i) (rw (h, f, i))
      go true h true f false i = not_read (λ n k. fails i (ap (in_range minus) (sym (size_is n k)) ∙ k.fits)) (rw (h, f, i))
      go true h false f s i = not_read (λ n k. fails f k.number) (rw (h, f))
      go false h q f s i =
          not_read (λ n k. fails h (within_limits 17 25 r (record { hinted = k.hinted; not_below = k.least; not_above = k.most }))) (rw h)

-- No other answer is right.
pub answered_once : (r : Real) (a b : WholeNumber) → Answered r a → Answered r b → a ≡ b
answered_once r a b (read n x e) (read m y f) = e ∙ ap (λ (i : ℕ). accepted (signed (negative eight r.bits) i)) (reads_once r n m x y) ∙ sym f
answered_once r a b (read n x e) (not_read y f) = absurd (y n x)
answered_once r a b (not_read x e) (read m y f) = absurd (x m y)
answered_once r a b (not_read x e) (not_read y f) = e ∙ sym f
