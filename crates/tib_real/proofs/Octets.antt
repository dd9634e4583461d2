-- Reading a real from its octets.
use Rattle.std.proofs.Common.{◌≡◌, ℕ, ◌^◌, ◌<◌, Bool, false, List, length, subst, arith, ne_eqb}
use Rattle.octets.specs.Number.{Octets, big_endian}
use Rattle.octets.specs.internal.Bounded.{unsigned}
use Rattle.octets.proofs.Number.{number_below, unsigned_is}
use Rattle.tib_real.specs.Widened.{widened}
use Rattle.tib_real.specs.FromOctets.{with_bits, real_of}

pub four_octets_lem : (s : List ℕ) → Octets s → length s ≡ 4 → unsigned s < 2 ^ 32
four_octets_lem s o h = rw (unsigned_is s (omega arith)) (subst (λ (n : ℕ). big_endian s < 256 ^ n) h (number_below s o))

pub of_eight : (s : List ℕ) (h : ℕ) (p : Bool) → length s ≡ 8 → with_bits (unsigned s) h p ≡ real_of s h p
unfolding real_of
of_eight s h p e = rw (unsigned_is s (omega arith), e)

pub of_four : (s : List ℕ) (h : ℕ) (p : Bool) → length s ≡ 4 → with_bits (widened (unsigned s)) h p ≡ real_of s h p
unfolding real_of
of_four s h p e = rw (unsigned_is s (omega arith), e)

pub of_others : (s : List ℕ) (h : ℕ) (p : Bool) → (length s ≡ 8 → ⊥) → (length s ≡ 4 → ⊥) → with_bits 0 0 false ≡ real_of s h p
unfolding real_of
of_others s h p e f = rw (ne_eqb (length s) 8 e, ne_eqb (length s) 4 f)
