-- Parts of octets, by their place and their length, and those of a field.
use Prim.Native.Nat.{ℕ, ◌+◌}
use native.Mathlib.Omega.{arith}
use mathlib.Core.Path.{◌≡◌, refl, sym, ap, ◌∙◌}
use mathlib.Core.List.{List, [], ◌∷◌, ◌++◌, append_assoc}
use lib.ListN.{length, take, drop, length-append}
use lib.Seq.{take_at, drop_at}
use Rattle.tib_field.specs.Stands.{Stands}

-- What stands after some octets.
pub stands_after : (s front part back : List ℕ) (place : ℕ) → s ≡ front ++ (part ++ back) → length front ≡ place
    → Stands s part place (length part)
stands_after s front part back place d e =
    let l = ap length d ∙ length-append front (part ++ back) in
    let m = length-append part back in
    record {
      inside = omega arith;
      same =
          ap (λ (r : List ℕ). take (length part) (drop place r)) d
          ∙ ap (take (length part)) (drop_at front (part ++ back) place e)
          ∙ take_at part back (length part) refl;
    }

-- Where the name and the data of a field that begins at a place stand.
module _ (s front name : List ℕ) (octet : ℕ) (size contents back : List ℕ) (at : ℕ)
    (d : s ≡ front ++ (length name ∷ (name ++ (octet ∷ (size ++ (contents ++ back)))))) (e : length front ≡ at) where
  pub name_stands : Stands s name (at + 1) (length name)
  name_stands =
      let n = length name ∷ [] in
      let rest = octet ∷ (size ++ (contents ++ back)) in
      let l = length-append front n in
      stands_after s (front ++ n) name rest (at + 1) (d ∙ sym (append_assoc front n (name ++ rest))) (omega arith)

  pub data_stands : Stands s contents (at + 2 + length name + length size) (length contents)
  data_stands =
      let lead = length name ∷ (name ++ (octet ∷ size)) in
      let l = length-append front lead in
      let m = length-append name (octet ∷ size) in
      let g : lead ++ (contents ++ back) ≡ length name ∷ (name ++ (octet ∷ (size ++ (contents ++ back)))) = simp append_assoc in
      stands_after s (front ++ lead) contents back (at + 2 + length name + length size)
      (d ∙ ap (λ (r : List ℕ). front ++ r) (sym g) ∙ sym (append_assoc front lead (contents ++ back)))
      (omega arith)
