-- The first field of a message with a good cut, as its control part shows it, and the good cut of what follows.
use Prim.Native.Nat.{ℕ, suc, ◌+◌, ◌≤◌}
use native.Mathlib.Omega.{arith}
use mathlib.Core.Path.{◌≡◌, refl, sym, ap, ◌∙◌, subst, subst₃}
use mathlib.Core.List.{List, ◌++◌}
use lib.ListN.{length, take, drop, length-append}
use Rattle.octets.specs.Control.{control}
use Rattle.octets.specs.declared.Control.TheVariants.{Whole}
use Rattle.octets.proofs.ControlPart.{control_nil, part_size}
use Rattle.table.specs.Schema.{Schema}
use Rattle.table.specs.declared.Meaning.{Meaning}
use Rattle.table.specs.declared.Meaning.TheVariants.{Raw, Uint, Int, String, Text, Message}
use Rattle.message.specs.Cut as cuts
use Rattle.message.specs.Cut.{Cut, joined, Contents, LeafField, NestedField, Allowed, Good}
use Rattle.message.proofs.Steps.{field_control, in_three}

-- The first field is no message.
pub record NextLeaf (sc : Schema) (levels n : ℕ) (s : List ℕ) (cut : Cut) (tag len size : ℕ) : Type 0 where
  pub rest : Cut
  pub good : Good sc (suc levels) n (drop (size + len) s) rest
  pub cut_is : cut ≡ Cut.leaf tag (take size s) (take len (drop size s)) rest
  pub contents : Contents (sc.means n tag) (take len (drop size s))
  pub positive : 1 ≤ size
  pub inside : size + len ≤ length s

-- The first field is a message of the number m.
pub record NextNested (sc : Schema) (levels n m : ℕ) (s : List ℕ) (cut : Cut) (tag len size : ℕ) : Type 0 where
  pub inner : Cut
  pub rest : Cut
  pub good_inner : Good sc levels m (take len (drop size s)) inner
  pub good : Good sc (suc levels) n (drop (size + len) s) rest
  pub cut_is : cut ≡ Cut.nested tag (take size s) inner rest
  pub positive : 1 ≤ size
  pub inside : size + len ≤ length s

-- A kind other than message.
unfoldable pub Plain : Meaning → Type 0
Plain Raw = Unit {0}
Plain Uint = Unit {0}
Plain Int = Unit {0}
Plain String = Unit {0}
Plain Text = Unit {0}
Plain (Message m) = ⊥

module _ (sc : Schema) (levels n : ℕ) where
  leaf_at : (tag : ℕ) (c b : List ℕ) (rest : Cut) → LeafField sc n tag c b → Allowed sc n rest → cuts.depth rest ≤ suc levels
      → NextLeaf sc levels n (c ++ b ++ joined rest) (Cut.leaf tag c b rest) tag (length b) (length c)
  leaf_at tag c b rest f a d =
      let p = in_three c b (joined rest) in
      record {
        rest = rest;
        good = record { divides = sym p.third; allowed = a; shallow = d };
        cut_is = rw (p.first, p.second);
        contents = rw p.second f.allowed;
        positive = part_size tag (length b) c f.whole;
        inside = simp length-append (omega arith);
      }

  nested_at : (m tag : ℕ) (c : List ℕ) (inner rest : Cut) → NestedField sc n m tag c (joined inner) → Allowed sc m inner → Allowed sc n rest
      → cuts.depth inner ≤ levels → cuts.depth rest ≤ suc levels
      → NextNested sc levels n m (c ++ joined inner ++ joined rest) (Cut.nested tag c inner rest) tag (length (joined inner)) (length c)
  nested_at m tag c inner rest f i a e d =
      let p = in_three c (joined inner) (joined rest) in
      record {
        inner = inner;
        rest = rest;
        good_inner = record { divides = sym p.second; allowed = i; shallow = e };
        good = record { divides = sym p.third; allowed = a; shallow = d };
        cut_is = rw p.first;
        positive = part_size tag (length (joined inner)) c f.whole;
        inside = simp length-append (omega arith);
      }

  module _ (tag len size : ℕ) where
    leaf_of : (cut : Cut) → Allowed sc n cut → cuts.depth cut ≤ suc levels → Plain (sc.means n tag) → control (joined cut) ≡ Whole tag len size
        → NextLeaf sc levels n (joined cut) cut tag len size
    unfolding joined Allowed cuts.depth Plain
    leaf_of Cut.end a d q e = let h = control_nil in let z : ◌≡◌ {A = ℕ} 0 1 = cc in absurd (omega arith)
    leaf_of (Cut.leaf t c b rest) a d q e =
        let h = field_control t c b (joined rest) a.0.whole in
        subst₃ (λ (x y z : ℕ). NextLeaf sc levels n (c ++ b ++ joined rest) (Cut.leaf t c b rest) x y z) (cc) (cc) (cc)
        (leaf_at t c b rest a.0 a.1 d)
    leaf_of (Cut.nested t c inner rest) a d q e =
        let f = a.0.1 in
        let h = field_control t c (joined inner) (joined rest) f.whole in
        let same : tag ≡ t = cc in
        absurd (subst Plain (ap (sc.means n) same ∙ f.allowed) q)

    nested_of_lem : (m : ℕ) (cut : Cut) → Allowed sc n cut → cuts.depth cut ≤ suc levels → sc.means n tag ≡ Message m
        → control (joined cut) ≡ Whole tag len size → NextNested sc levels n m (joined cut) cut tag len size
    unfolding joined Allowed cuts.depth Contents
    nested_of_lem m Cut.end a d q e = let h = control_nil in let z : ◌≡◌ {A = ℕ} 0 1 = cc in absurd (omega arith)
    nested_of_lem m (Cut.leaf t c b rest) a d q e =
        let f = a.0 in
        let h = field_control t c b (joined rest) f.whole in
        let same : t ≡ tag = cc in
        absurd (subst (λ (k : Meaning). Contents k b) (ap (sc.means n) same ∙ q) f.allowed)
    nested_of_lem m (Cut.nested t c inner rest) a d q e =
        let f = a.0.1 in
        let h = field_control t c (joined inner) (joined rest) f.whole in
        let same : t ≡ tag = cc in
        let x : Message a.0.0 ≡ Message m = sym f.allowed ∙ ap (sc.means n) same ∙ q in
        let y : a.0.0 ≡ m = cc in
        subst (λ (k : ℕ). NextNested sc levels n k (c ++ joined inner ++ joined rest) (Cut.nested t c inner rest) tag len size) y
        (subst₃ (λ (x y z : ℕ). NextNested sc levels n a.0.0 (c ++ joined inner ++ joined rest) (Cut.nested t c inner rest) x y z) (cc) (cc) (cc)
        (nested_at a.0.0 t c inner rest f a.0.2 a.1 (omega arith) (omega arith)))

    module _ (s : List ℕ) (cut : Cut) (g : Good sc (suc levels) n s cut) (e : control s ≡ Whole tag len size) where
      pub next_leaf : Plain (sc.means n tag) → NextLeaf sc levels n s cut tag len size
      next_leaf q =
          subst (λ (x : List ℕ). NextLeaf sc levels n x cut tag len size) g.divides
          (leaf_of cut g.allowed g.shallow q (ap control g.divides ∙ e))

      pub next_nested : (m : ℕ) → sc.means n tag ≡ Message m → NextNested sc levels n m s cut tag len size
      next_nested m q =
          subst (λ (x : List ℕ). NextNested sc levels n m x cut tag len size) g.divides
          (nested_of_lem m cut g.allowed g.shallow q (ap control g.divides ∙ e))

-- Octets with a good cut are at their end, or begin with a whole field.
pub record Fronted (s : List ℕ) : Type 0 where
  pub tag : ℕ
  pub len : ℕ
  pub size : ℕ
  pub control_part : control s ≡ Whole tag len size
  pub inside : size + len ≤ length s

fronted_of : (sc : Schema) (n : ℕ) (cut : Cut) → Allowed sc n cut → 1 ≤ length (joined cut) → Fronted (joined cut)
unfolding joined Allowed
fronted_of sc n Cut.end a h = absurd (omega arith)
fronted_of sc n (Cut.leaf tag c b rest) a h =
    record {
      tag = tag;
      len = length b;
      size = length c;
      control_part = field_control tag c b (joined rest) a.0.whole;
      inside = simp length-append (omega arith);
    }
fronted_of sc n (Cut.nested tag c inner rest) a h =
    record {
      tag = tag;
      len = length (joined inner);
      size = length c;
      control_part = field_control tag c (joined inner) (joined rest) a.0.1.whole;
      inside = simp length-append (omega arith);
    }

pub first_field : (sc : Schema) (levels n : ℕ) (s : List ℕ) (cut : Cut) → Good sc levels n s cut → 1 ≤ length s → Fronted s
first_field sc levels n s cut g h =
    subst Fronted g.divides (fronted_of sc n cut g.allowed (subst (λ (x : List ℕ). 1 ≤ length x) (sym g.divides) h))

-- The only good cut of no octets has no fields.
pub nothing_remaining : (sc : Schema) (levels n : ℕ) (s : List ℕ) (cut : Cut) → Good sc levels n s cut → length s ≡ 0 → cut ≡ Cut.end
unfolding joined Allowed
nothing_remaining sc levels n s cut g h = go cut g.allowed (ap length g.divides ∙ h)
  where
    go : (cut : Cut) → Allowed sc n cut → length (joined cut) ≡ 0 → cut ≡ Cut.end
    go Cut.end a e = refl
    go (Cut.leaf tag c b rest) a e =
        let k = part_size tag (length b) c a.0.whole in
        let l : length (c ++ b ++ joined rest) ≡ length c + length b + length (joined rest) = simp length-append (omega arith) in
        absurd (omega arith)
    go (Cut.nested tag c inner rest) a e =
        let k = part_size tag (length (joined inner)) c a.0.1.whole in
        let l : length (c ++ joined inner ++ joined rest) ≡ length c + length (joined inner) + length (joined rest) =
        simp length-append (omega arith) in
        absurd (omega arith)
