-- The outermost fields of a message with a good cut: the spans by heads are the spans of their contents, and the contents show the fields.
use Prim.Native.Nat.{ℕ, zero, suc, ◌+◌, ◌-◌, ◌^◌, ◌≤◌, ◌<◌}
use native.Mathlib.Omega.{arith}
use mathlib.Core.Path.{◌≡◌, refl, sym, ap, ◌∙◌}
use mathlib.Core.Bool.{cond}
use mathlib.Core.List.{List, ◌∷◌, ◌++◌, map}
use lib.ListN.{length, take, drop, length-append, length-drop}
use lib.Seq.{drop-drop}
use lib.Dec.{eqb}
use Rattle.octets.specs.Number.{Octets}
use Rattle.octets.proofs.Number.{octets_before, octets_after}
use Rattle.octets.proofs.ControlPart.{control_nil, part_size, part_bounds}
use Rattle.table.specs.Entry.{inner_of}
use Rattle.table.specs.Schema.{Schema}
use Rattle.message.specs.Cut as cuts
use Rattle.message.specs.Cut.{Cut, joined, WholeField, Allowed, Good}
use Rattle.message.specs.Tree.{value, tree}
use Rattle.message.specs.Items.{Item, items, item_tag, with_tag}
use Rattle.message.proofs.Steps.{field_control, in_three}
use Rattle.message_calls.specs.Lookup.{ItemSpan, outermost}
use Rattle.message_calls.specs.declared.outermost.Span.{Span}
use Rattle.message_calls.specs.internal.Spans.{after_head, spans_from, spans}
use Rattle.message_field.specs.internal.Heads.{head_from, head_at}
use Rattle.message_field.specs.internal.Heads.{Field}
use Rattle.message_field.proofs.Heads.{head_field}
use Rattle.message_calls.proofs.ChosenElements.{Each, map_with_tag}
use Rattle.message_calls.specs.InTree.{Shows}

-- The field of the tree that an outermost field is.
abbrev pub item_of : ItemSpan → Item
item_of o = o.item

-- The outermost fields of a cut are those of its tree, in the same order.
pub items_are : (sc : Schema) (n at : ℕ) (cut : Cut) → map item_of (outermost sc n at cut) ≡ items (tree sc n cut)
unfolding outermost tree items
items_are sc n at Cut.end = refl
items_are sc n at (Cut.leaf tag c s rest) =
    ap (λ (l : List Item). Item.leaf tag (value (sc.means n tag) s) ∷ l)
    (items_are sc n (at + length c + length s) rest)
items_are sc n at (Cut.nested tag c inside rest) =
    ap (λ (l : List Item). Item.nested tag (tree sc (inner_of (sc.means n tag)) inside) ∷ l)
    (items_are sc n (at + length c + length (joined inside)) rest)

-- The span of an outermost field lies within the message, and the octets there are the field's contents.
pub record InMessage (sc : Schema) (levels n : ℕ) (s : List ℕ) (o : ItemSpan) : Type 0 where
  pub inside : o.start + o.length ≤ length s
  pub shows : Shows sc levels n (take o.length (drop o.start s)) o.item

module _ (c b r : List ℕ) (t : ℕ) (w : WholeField t c b) where
  positive : 1 ≤ length c
  positive = part_size t (length b) c w

  -- The contents of a field at a place, and the octets that follow it.
  record Parts (s : List ℕ) (at : ℕ) : Type 0 where
    pub contents : take (length b) (drop (at + length c) s) ≡ b
    pub inside : at + length c + length b ≤ length s
    pub rest : drop (at + length c + length b) s ≡ r

  parts : (s : List ℕ) (at : ℕ) → drop at s ≡ c ++ b ++ r → Parts s at
  parts s at e =
      let p = in_three c b r in
      let h : at + (length c + length b) ≡ at + length c + length b = omega arith in
      let d : length s - at ≡ length (c ++ b ++ r) = sym (length-drop at s) ∙ ap length e in
      let l : length (c ++ b ++ r) ≡ length c + length b + length r = simp length-append (omega arith) in
      let k = positive in
      record {
        contents = rw (← drop-drop (length c) at s, e) p.second;
        inside = omega arith;
        rest = rw (← h, ← drop-drop (length c + length b) at s, e) p.third;
      }

  -- The head of the field.
  head_is : (at : ℕ) → head_at at (c ++ b ++ r) ≡ Field t (at + length c) (at + length c + length b)
  head_is at =
      let l : length (c ++ b ++ r) ≡ length c + length b + length r = simp length-append (omega arith) in
      sym (head_field at (c ++ b ++ r) t (length b) (length c) (field_control t c b r w) (omega arith))

  pub spans_step : (s : List ℕ) (at : ℕ) → drop at s ≡ c ++ b ++ r → (tag fuel : ℕ)
      → spans_from tag s (suc fuel) at
      ≡ cond (eqb t tag)
      (record { start = at + length c; end = at + length c + length b } ∷ spans_from tag s fuel (at + length c + length b))
      (spans_from tag s fuel (at + length c + length b))
  unfolding spans_from after_head
  spans_step s at e tag fuel = rw (e, head_is at)

module _ (sc : Schema) (levels n : ℕ) (s : List ℕ) where
  pub each_in_message : (cut : Cut) (at : ℕ) → drop at s ≡ joined cut → Allowed sc n cut → cuts.depth cut ≤ suc levels
      → Each (InMessage sc levels n s) (outermost sc n at cut)
  unfolding Each outermost joined Allowed cuts.depth Shows inner_of
  each_in_message Cut.end at e a d = tt
  each_in_message (Cut.leaf tag c b rest) at e a d =
      let f = a.0 in
      let p = parts c b (joined rest) tag f.whole s at e in (
        record { inside = p.inside; shows = rw p.contents (refl, f.allowed) },
        each_in_message rest (at + length c + length b) p.rest a.1 d,
      )
  each_in_message (Cut.nested tag c inner rest) at e a d =
      let f = a.0.1 in
      let m = a.0.0 in
      let p = parts c (joined inner) (joined rest) tag f.whole s at e in
      let g : Good sc levels m (joined inner) inner = record { divides = refl; allowed = a.0.2; shallow = omega arith } in (
        record { inside = p.inside; shows = rw (p.contents, f.allowed) (m, inner, refl, g, refl) },
        each_in_message rest (at + length c + length (joined inner)) p.rest a.1 (omega arith),
      )

-- Where the contents of an outermost field start and end.
abbrev pub span_of : ItemSpan → Span
span_of o = record { start = o.start; end = o.start + o.length }

module _ (sc : Schema) (n t : ℕ) (s : List ℕ) where
  -- The spans of the outermost fields with a tag are the spans by heads.
  found_at : (cut : Cut) (fuel at : ℕ) → drop at s ≡ joined cut → Allowed sc n cut → length (joined cut) < fuel
      → spans_from t s fuel at ≡ map span_of (with_tag item_of t (outermost sc n at cut))
  unfolding spans_from after_head head_at head_from outermost with_tag joined Allowed item_tag
  found_at Cut.end zero at e a h = absurd (omega arith)
  found_at Cut.end (suc fuel) at e a h = rw (e, control_nil)
  found_at (Cut.leaf tag c b rest) zero at e a h = absurd (omega arith)
  found_at (Cut.leaf tag c b rest) (suc fuel) at e a h =
      let f = a.0 in
      let k = positive c b (joined rest) tag f.whole in
      let l : length (c ++ b ++ joined rest) ≡ length c + length b + length (joined rest) = simp length-append (omega arith) in
      let i = found_at rest fuel (at + length c + length b) (parts c b (joined rest) tag f.whole s at e).rest a.1 (omega arith) in
      spans_step c b (joined rest) tag f.whole s at e t fuel ∙ rw i
      (sym (map_with_tag span_of item_of t (record { item = Item.leaf tag (value (sc.means n tag) b); start = at + length c; length = length b })
      (outermost sc n (at + length c + length b) rest)))
  found_at (Cut.nested tag c inner rest) zero at e a h = absurd (omega arith)
  found_at (Cut.nested tag c inner rest) (suc fuel) at e a h =
      let f = a.0.1 in
      let b = joined inner in
      let k = positive c b (joined rest) tag f.whole in
      let l : length (c ++ b ++ joined rest) ≡ length c + length b + length (joined rest) = simp length-append (omega arith) in
      let i = found_at rest fuel (at + length c + length b) (parts c b (joined rest) tag f.whole s at e).rest a.1 (omega arith) in
      spans_step c b (joined rest) tag f.whole s at e t fuel ∙ rw i
      (sym (map_with_tag span_of item_of t
      (record { item = Item.nested tag (tree sc (inner_of (sc.means n tag)) inner); start = at + length c; length = length b })
      (outermost sc n (at + length c + length b) rest)))

  pub spans_are : (levels : ℕ) (cut : Cut) → Good sc levels n s cut → spans t s ≡ map span_of (with_tag item_of t (outermost sc n 0 cut))
  unfolding spans
  spans_are levels cut g = let l = ap length g.divides in found_at cut (suc (length s)) 0 (sym g.divides) g.allowed (omega arith)

-- A tag has at most two octets.
pub small_tags : (sc : Schema) (n : ℕ) (cut : Cut) (at : ℕ) → Allowed sc n cut → Octets (joined cut)
    → Each (λ (o : ItemSpan). item_tag o.item < 256 ^ 2) (outermost sc n at cut)
unfolding Each outermost joined Allowed item_tag
small_tags sc n Cut.end at a o = tt
small_tags sc n (Cut.leaf tag c b rest) at a o =
    let f = a.0 in
    let q : Octets (c ++ b) = octets_before (c ++ b) (joined rest) o in
    let k = (part_bounds c tag (length b) (octets_before c b q) f.whole).0 in (
      k,
      small_tags sc n rest (at + length c + length b) a.1 (octets_after (c ++ b) (joined rest) o),
    )
small_tags sc n (Cut.nested tag c inner rest) at a o =
    let f = a.0.1 in
    let b = joined inner in
    let q : Octets (c ++ b) = octets_before (c ++ b) (joined rest) o in
    let k = (part_bounds c tag (length b) (octets_before c b q) f.whole).0 in (
      k,
      small_tags sc n rest (at + length c + length b) a.1 (octets_after (c ++ b) (joined rest) o),
    )
