-- The numbers of refusals: none is 0, which stands for acceptance, and 14 is the outermost message's alone.
use Prim.Native.Nat.{ℕ, ◌<◌}
use native.Mathlib.Omega.{arith}
use mathlib.Core.Path.{◌≡◌, refl, sym, ap, ◌∙◌}
use mathlib.Core.List.{List, ◌++◌}
use lib.ListN.{length, take}
use lib.Seq.{take_at}
use Rattle.octets.specs.Number.{big_endian}
use Rattle.reading.specs.Reading.{refused}
use Rattle.tib_field.proofs.WrongNames.{of_named}
use Rattle.tib_rv_field.specs.Layout.{magic}
use Rattle.tib_rv_field.specs.FirstFault as faults
use Rattle.tib_rv_field.specs.FirstFault.{WrongSize, WrongType, WrongHeader, FaultIn, FirstFault}
use Rattle.tib_rv_field.specs.Reading.{reading}
use Rattle.tib_rv_field.proofs.FirstFault.{holds_counted, refused_exactly}

-- A header is refused with 3, with 13, or with 14 where its size is not the count of the message's octets.
of_header : (P : ℕ → Type 0) → P 3 → P 13 → (s : List ℕ) → ((big_endian (take 4 s) ≡ length s → ⊥) → P 14) → (k : ℕ) → WrongHeader s k → P k
of_header P three mark s size k (faults.cut h) = three
of_header P three mark s size k (faults.other_mark first second rest d w v n) = mark
of_header P three mark s size k (faults.other_size first rest d w n) =
    size (λ c. n (ap big_endian (sym (ap (take 4) d ∙ take_at first (magic ++ rest) 4 w)) ∙ c))

-- A field is refused with 3, 4, 15 or 16; a message that a field holds also with 5 and 13, and not with 14: its size gave its octets.
module _ (P : ℕ → Type 0) (three : P 3) (four : P 4) (name : P 15) (rule : P 16) (deep : P 5) (mark : P 13) where
  of_size : (c k : ℕ) (s : List ℕ) → WrongSize c k s → P k
  of_size c k s (faults.cut r more h o) = three
  of_size c k s (faults.marker m r h) = rule
  of_size c k s (faults.bad size r o h) = rule
  of_size c k s (faults.data_cut n size r a h) = four

  of_type : (k : ℕ) (s : List ℕ) → WrongType k s → P k
  of_type k s faults.missing = three
  of_type k s (faults.later j c r h) = of_size c j r h

  of_fields : (levels : ℕ) (s : List ℕ) (k p : ℕ) → FaultIn levels s k p → P k
  of_fields levels s k p (faults.here l j r h) = of_named WrongType P three name of_type j r h
  of_fields levels s k p (faults.over l j q f r g later) = of_fields l r j q later
  of_fields levels s k p (faults.past l j q n size inside r g h a d later) = of_fields l r j q later
  of_fields levels s k p (faults.too_deep n held r h) = deep
  of_fields levels s k p (faults.header l j n held r d h w) =
      of_header P three mark held (λ other. absurd (other (holds_counted n held h).same)) j w
  of_fields levels s k p (faults.inside l j q n held fields r d g o later) = of_fields l fields j q later

-- A message is never refused with 0.
pub refusal_positive : (s : List ℕ) (k place : ℕ) → reading s ≡ refused k place → 0 < k
refusal_positive s k place e = go k place ((refused_exactly s k place).0 e)
  where
    Positive : ℕ → Type 0
    Positive n = 0 < n

    go : (k p : ℕ) → FirstFault s k p → Positive k
    go k p (faults.too_long h) = omega arith
    go k p (faults.header j h w) = of_header Positive (omega arith) (omega arith) s (λ n. omega arith) j w
    go k p (faults.fields j q rest h o f) =
        of_fields Positive (omega arith) (omega arith) (omega arith) (omega arith) (omega arith) (omega arith) 8 rest j q f

-- Where a message is refused with 14, it is its own size that is not the count of its octets, not that of a message nested in it.
pub size_refused_outermost : (s : List ℕ) (place : ℕ) → reading s ≡ refused 14 place → (big_endian (take 4 s) ≡ length s → ⊥) × (place ≡ 0)
size_refused_outermost s place e = go 14 place ((refused_exactly s 14 place).0 e) refl
  where
    Own : ℕ → Type 0
    Own p = (big_endian (take 4 s) ≡ length s → ⊥) × (p ≡ 0)

    go : (k p : ℕ) → FirstFault s k p → k ≡ 14 → Own p
    go k p (faults.too_long h) f = absurd (omega arith)
    go k p (faults.header j h w) f =
        of_header (λ (n : ℕ). n ≡ 14 → Own 0) (λ x. absurd (omega arith)) (λ x. absurd (omega arith)) s (λ n x. (n, refl)) j w f
    go k p (faults.fields j q rest h o w) f =
        absurd (of_fields (λ (n : ℕ). n ≡ 14 → ⊥) (λ x. omega arith) (λ x. omega arith) (λ x. omega arith) (λ x. omega arith) (λ x. omega arith) (λ x. omega arith) 8 rest j q w f)
