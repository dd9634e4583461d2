-- The traversal to the k-th field of a message, for all entries that the cells note and under which the message is accepted.
use Prim.Native.Nat.{ℕ, ◌+◌, ◌-◌, ◌≤◌, ◌<◌}
use native.Mathlib.Omega.{arith}
use native.Mathlib.Nat.{add-zero}
use mathlib.Core.Path.{◌≡◌, sym, ap, ap₂, ◌∙◌, subst}
use mathlib.Core.List.{List, ◌++◌}
use mathlib.Core.Option as maybe
use Rattle.std.specs.Prelude.{Option, Some, None}
use lib.ListN.{length, get_or, drop, length-drop}
use lib.Seq.{get_or-drop}
use Rattle.octets.specs.Number.{Octets}
use Rattle.reading.specs.internal.Verdicts.{IsAccepted}
use Rattle.tib_field.specs.internal.KthOf.{kth_of}
use Rattle.tib_field.proofs.Kths.{Going as Passing, Look, ends, stands, look}
use Rattle.tib_dictionary.specs.internal.Cells.{CellsOf}
use Rattle.tib_dictionary.specs.declared.Entry.{Entry}
use Rattle.tib_qform_field.specs.Layout.{fid, Parts, octets, fid_of, Allowed}
use Rattle.tib_field.specs.Steps.{Step, Fault, Over}
use Rattle.tib_qform_field.specs.Reading.{next_field, total, reading}
use Rattle.tib_field.specs.internal.Measured.{measured}
use Rattle.tib_qform_field.specs.internal.Octets.{octets_by}
use Rattle.tib_qform_field.proofs.Steps.{step_of_field, length_octets}
use Rattle.tib_qform_field.proofs.Octets.{octets_at}
use Rattle.tib_qform_field.proofs.Accepted.{accepted_tested}
use Rattle.reading.specs.Refusals.{number}
use Rattle.tib_qform.specs.declared.Found.{Found}
use Rattle.tib_qform.specs.CheckAndField.{places}
use Rattle.tib_qform.specs.internal.Found.{found_of}

-- The field that is looked for.
abbrev pub wanted : List Entry → List ℕ → ℕ → maybe.Option (ℕ × Parts)
wanted es s k = kth_of places k (reading es s)

-- The fields that remain begin at i, and the `remaining`-th of them is the one that the caller looks for.
abbrev pub Going : List Entry → List ℕ → ℕ → ℕ → ℕ → Type 0
Going es s k i remaining = Passing octets (Allowed es) s (wanted es s k) i remaining

abbrev pub Seeking : List ℕ → List ℕ → ℕ → ℕ → ℕ → Type 0
Seeking cells s k i remaining = (es : List Entry) → CellsOf es cells → IsAccepted (reading es s) → Going es s k i remaining

pub going : (es : List Entry) (s : List ℕ) (k : ℕ) → IsAccepted (reading es s) → Going es s k 8 k
unfolding IsAccepted kth_of places
going es s k a =
    let t = accepted_tested es s a.0 a.1 in
    record { rest = a.0; fields = t.fields; inside = t.header; same = rw a.1 }

-- The two octets of the FID of a field at an offset.
fid_there : (s : List ℕ) (i : ℕ) (f : Parts) (rest : List ℕ) → drop i s ≡ octets f ++ rest → fid (get_or s i 0) (get_or s (i + 1) 0) ≡ fid_of f
unfolding octets fid_of
fid_there s i f rest d =
    let a : get_or s i 0 ≡ f.high = ap (λ (j : ℕ). get_or s j 0) (sym (add-zero i)) ∙ sym (get_or-drop i s 0 0) ∙ ap (λ (r : List ℕ). get_or r 0 0) d in
    let b : get_or s (i + 1) 0 ≡ f.low = sym (get_or-drop i s 1 0) ∙ ap (λ (r : List ℕ). get_or r 1 0) d in
    ap₂ fid a b

module _ (cells s : List ℕ) (k i remaining : ℕ) (now : Seeking cells s k i remaining) where
  -- After the last field there is no other.
  pub ended : length s ≤ i → (es : List Entry) → CellsOf es cells → IsAccepted (reading es s) → None ≡ found_of (wanted es s k)
  unfolding octets
  ended h es noted a = go (look octets (Allowed es) s (wanted es s k) i remaining (now es noted a))
    where
      go : Look octets (Allowed es) s (wanted es s k) i remaining → None ≡ found_of (wanted es s k)
      go (ends d w) = sym (ap found_of w)
      go (stands f rest p d fits this later) = absurd (omega arith)

  -- The step p at i.
  module _ (o : Octets s) (p : Step ℕ) (e : p ≡ octets_by cells (drop i s)) (more : i < length s) where
    module _ (es : List Entry) (noted : CellsOf es cells) (a : IsAccepted (reading es s)) where
      -- A field stands there, of as many octets.
      record Here : Type 0 where
        field : Parts
        rest : List ℕ
        divides : drop i s ≡ octets field ++ rest
        stepped : p ≡ Over (length (octets field))
        this : remaining ≡ 0 → wanted es s k ≡ maybe.some (i, field)
        later : (remaining ≡ 0 → ⊥) → Going es s k (i + length (octets field)) (remaining - 1)

      here : Here
      unfolding measured
      here = go (look octets (Allowed es) s (wanted es s k) i remaining (now es noted a))
        where
          go : Look octets (Allowed es) s (wanted es s k) i remaining → Here
          go (ends d w) = let l = length-drop i s in let m = ap length d in absurd (omega arith)
          go (stands f rest q d fits this later) =
              record {
                field = f;
                rest = rest;
                divides = d;
                stepped =
                    octets_at es cells noted s o i p e
                    ∙ ap (measured total) (ap (next_field es) d ∙ step_of_field es f rest q)
                    ∙ ap (λ (n : ℕ). Over n) (sym (length_octets es f q));
                this = this;
                later = later;
              }

    -- No field is wrong,
    pub at_fault : (j : ℕ) → p ≡ Fault j → (r : Option Found) → (es : List Entry) → CellsOf es cells → IsAccepted (reading es s) → r ≡ found_of (wanted es s k)
    at_fault j f r es noted a = let t = sym f ∙ (here es noted a).stepped in let z : ◌≡◌ {A = ℕ} 0 1 = cc in absurd (omega arith)

    -- the field is the one,
    pub this_one : remaining ≡ 0 → (number : ℕ) → number ≡ fid (get_or s i 0) (get_or s (i + 1) 0) → (es : List Entry) → CellsOf es cells
        → IsAccepted (reading es s) → Some (record { place = i; fid = number }) ≡ found_of (wanted es s k)
    this_one z number g es noted a =
        let t = here es noted a in
        ap (λ (x : ℕ). Some (record { place = i; fid = x })) (g ∙ fid_there s i t.field t.rest t.divides) ∙ sym (ap found_of (t.this z))

    -- or another is still to come.
    pub later_one : (n : ℕ) → p ≡ Over n → (remaining ≡ 0 → ⊥) → Seeking cells s k (i + n) (remaining - 1)
    later_one n f z es noted a =
        let t = here es noted a in
        let g = sym t.stepped ∙ f in
        let m : length (octets t.field) ≡ n = cc in
        subst (λ (m : ℕ). Going es s k (i + m) (remaining - 1)) m (t.later z)
