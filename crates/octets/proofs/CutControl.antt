-- Just the control parts that end too early are read as such.
use Prim.Native.Nat.{ℕ, ◌+◌, ◌-◌}
use native.Mathlib.Omega.{arith}
use mathlib.Core.Path.{◌≡◌, refl, sym, ap, ◌∙◌}
use mathlib.Core.Bool.{Bool, true, false}
use mathlib.Core.List.{List, [], ◌∷◌, ◌++◌, append_assoc}
use mathlib.Core.Logic.{◌↔◌}
use lib.ListN.{length, take, drop, replicate, length-append, length-replicate, take-append-drop}
use lib.Seq.{length-take-le}
use lib.Dec.{ltb}
use borrow.Author.Tests.{ltb-true, ltb-false}
use Rattle.octets.specs.Number.{Octets}
use Rattle.octets.specs.CutControl.{CutControl}
use Rattle.octets.specs.Control.{control}
use Rattle.octets.specs.declared.Control.{Control}
use Rattle.octets.specs.declared.Control.TheVariants.{Absent, Partial, Whole}
use Rattle.octets.proofs.ControlPart.{tag_width, length_width, tag_read, length_read, control_wide, control_size, part_of_control, part_read, control_exactly, control_absent}

-- What is read at the front of octets is read there whatever follows them.
pub control_before : (s more : List ℕ) (tag len size : ℕ) → control s ≡ Whole tag len size → control (s ++ more) ≡ Whole tag len size
control_before s more tag len size e =
    let k = control_size s tag len size e in
    let l = length-take-le size s k.1 in
    let p = part_read tag len (take size s) (part_of_control s tag len size e) (drop size s ++ more) in
    let q : s ++ more ≡ take size s ++ (drop size s ++ more) =
    ap (λ (x : List ℕ). x ++ more) (sym (take-append-drop size s)) ∙ append_assoc (take size s) (drop size s) more in
    ap control q ∙ p ∙ rw l refl

-- No beginning of a control part that ends too early is a control part.
pub cut_no_part : (s : List ℕ) (tag len size : ℕ) → CutControl s → control s ≡ Whole tag len size → ⊥
cut_no_part s tag len size c e =
    let k = control_size s tag len size e in
    let h = k.1 in
    let f = c.too_few in
    let a = control_before s c.missing tag len size e in
    let b = (control_exactly (s ++ c.missing) c.tag c.len).1 c.part in
    let z : size ≡ length (s ++ c.missing) = cc in
    let l = length-append s c.missing in
    absurd (omega arith)

pub cut_read : (s : List ℕ) → CutControl s → control s ≡ Partial
cut_read s c = go (control s) refl
  where
    go : (r : Control) → control s ≡ r → r ≡ Partial
    go Absent e = let h = c.some in let l = ap length (control_absent s e) in absurd (omega arith)
    go Partial e = refl
    go (Whole tag len size) e = absurd (cut_no_part s tag len size c e)

read_cut : (s : List ℕ) → Octets s → control s ≡ Partial → CutControl s
unfolding control Octets
read_cut [] o e = let z : ◌≡◌ {A = ℕ} 0 1 = cc in absurd (omega arith)
read_cut (x ∷ s) o e = go (ltb (length s) (tag_width x + length_width x)) refl
  where
    go : (t : Bool) → ltb (length s) (tag_width x + length_width x) ≡ t → CutControl (x ∷ s)
    go false t =
        let f = control_wide x s o.0 (ltb-false (length s) (tag_width x + length_width x) t) in
        let z : ◌≡◌ {A = ℕ} 0 1 = cc in absurd (omega arith)
    go true t =
        let w = tag_width x + length_width x in
        let h = ltb-true (length s) w t in
        let more : List ℕ = replicate (w - length s) 0 in
        let r : length more ≡ w - length s = length-replicate (w - length s) 0 in
        let l : length (s ++ more) ≡ w = length-append s more ∙ omega arith in
        let tag = tag_read x (s ++ more) in
        let len = length_read x (s ++ more) in
        let f : control (x ∷ s ++ more) ≡ Whole tag len (length (x ∷ s ++ more)) =
        control_wide x (s ++ more) o.0 (omega arith) ∙ ap (Whole tag len) (omega arith) in
        record { tag = tag; len = len; missing = more; some = omega arith; too_few = omega arith; part = (control_exactly (x ∷ s ++ more) tag len).0 f }

-- Octets are read as a part of a control part exactly where they are a control part that ends too early.
pub cut_exactly : (s : List ℕ) → Octets s → (control s ≡ Partial) ↔ CutControl s
cut_exactly s o = (read_cut s o, cut_read s)
