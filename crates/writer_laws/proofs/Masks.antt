-- How the masks of a state agree with the fields given.
use Prim.Native.Nat.{ℕ, suc, ◌≤◌, ◌<◌}
use native.Mathlib.Omega.{arith}
use mathlib.Core.Path.{◌≡◌, refl}
use mathlib.Core.Bool.{Bool, true, cond, ◌&&◌}
use mathlib.Core.List.{List, [], ◌∷◌}
use lib.ListN.{length, get_or, set, replicate, length-set}
use lib.Seq.{get_or-set_same, get_or-set_other}
use lib.Dec.{eqb}
use Rattle.octets.proofs.Bools.{and_right}
use Rattle.table.specs.Entry.{entries, marked_single}
use Rattle.table.specs.Mask.{order, has_bit, with_bit}
use Rattle.table.specs.Schema.{schema_of, schema}
use Rattle.table.specs.declared.Table.{Table}
use Rattle.table.proofs.Orders.{order_apart}
use Rattle.message.specs.Single.{repeats}
use Rattle.message.specs.Items.{items, item_tag}
use Rattle.message.specs.Tree.{Tree, end, leaf, nested, Value}
use Rattle.writer_laws.specs.Given.{Given, message, opened, on_fields, tags_of, tags_given, open_fields, innermost}
use Rattle.writer_laws.proofs.Fields.{same_open, same_innermost}
use Rattle.message.specs.internal.Notes.{Notes}
use Rattle.message.proofs.Notes.{notes_none, noted_among, notes_more}

-- The tag of a field given last stands first.
pub tags_leaf : (tag : ℕ) (v : Value) (g : Given) → tags_given (on_fields (leaf tag v) g) ≡ tag ∷ tags_given g
unfolding tags_given tags_of on_fields items item_tag
tags_leaf tag v (message w) = refl
tags_leaf tag v (opened k w around) = refl

pub tags_nested : (tag : ℕ) (inside : Tree) (g : Given) → tags_given (on_fields (nested tag inside) g) ≡ tag ∷ tags_given g
unfolding tags_given tags_of on_fields items item_tag
tags_nested tag inside (message w) = refl
tags_nested tag inside (opened k w around) = refl

module _ (t : Table) (revision number : ℕ) where
  abbrev level : Given → ℕ
  level g = innermost (schema revision t) number g

  -- The mask of the innermost message notes the single ones of some tags.
  unfoldable pub NotedIn : List ℕ → Given → List ℕ → Type 0
  NotedIn masks g tags = Notes ((schema revision t).single (level g)) (order (entries t) (level g)) tags (get_or masks (open_fields g) 0)

  -- In each message around the innermost one, the mask also notes the field that is open from there.
  unfoldable pub NotedAround : List ℕ → Given → Type 0
  NotedAround masks (message w) = Unit {0}
  NotedAround masks (opened tag w around) = NotedIn masks around (tag ∷ tags_given around) × NotedAround masks around

  pub record MasksAgree (masks : List ℕ) (g : Given) : Type 0 where
    pub innermost : NotedIn masks g (tags_given g)
    pub around : NotedAround masks g

  -- ---- one level

  -- Two single tags with the same order are the same tag.
  apart : (n tag other : ℕ) → (schema revision t).single n other ≡ true → order (entries t) n other ≡ order (entries t) n tag → other ≡ tag
  unfolding schema schema_of
  apart n tag other e = order_apart (entries t) n other tag (and_right (eqb revision 2) (marked_single (entries t) n other) e)

  module _ (masks : List ℕ) (g : Given) where
    abbrev mask : ℕ
    mask = get_or masks (open_fields g) 0

    -- Whether the mask of the innermost message notes a single tag, and the mask that notes it.
    abbrev pub noted_tag : ℕ → Bool
    noted_tag tag = (schema revision t).single (level g) tag && has_bit mask (order (entries t) (level g) tag)

    abbrev pub noting_tag : ℕ → ℕ
    noting_tag tag = cond ((schema revision t).single (level g) tag) (with_bit mask (order (entries t) (level g) tag)) mask

    -- A tag is noted exactly if it repeats a field given.
    pub noted_repeats : MasksAgree masks g → (tag : ℕ) → noted_tag tag ≡ repeats (schema revision t) (level g) (tags_given g) tag
    unfolding NotedIn repeats
    noted_repeats a tag = noted_among ((schema revision t).single (level g)) (order (entries t) (level g)) (tags_given g) mask a.innermost tag

    noted_more : (tags : List ℕ) (tag : ℕ) → open_fields g < length masks → NotedIn masks g tags
        → NotedIn (set masks (open_fields g) (noting_tag tag)) g (tag ∷ tags)
    unfolding NotedIn
    noted_more tags tag h a =
        rw (get_or-set_same masks (open_fields g) (noting_tag tag) 0 h)
        (notes_more ((schema revision t).single (level g)) (order (entries t) (level g)) tags mask a tag (λ other e f. apart (level g) tag other e))

    -- The mask of another level.
    noted_other : (tags : List ℕ) (k m : ℕ) → (open_fields g ≡ k → ⊥) → NotedIn masks g tags → NotedIn (set masks k m) g tags
    unfolding NotedIn
    noted_other tags k m ne a = rw (get_or-set_other masks k (open_fields g) m 0 ne) a

    -- One more field changes neither the level nor its number.
    noted_on : (f : Tree → Tree) (tags : List ℕ) → NotedIn masks g tags → NotedIn masks (on_fields f g) tags
    unfolding NotedIn
    noted_on f tags a = rw (same_open f g, same_innermost (schema revision t) number f g) a

  -- A message without fields.
  noted_none : (masks : List ℕ) (g : Given) → tags_given g ≡ [] → get_or masks (open_fields g) 0 ≡ 0 → NotedIn masks g (tags_given g)
  unfolding NotedIn
  noted_none masks g e f = rw (e, f) (notes_none ((schema revision t).single (level g)) (order (entries t) (level g)))

  -- ---- the levels around

  around_other : (masks : List ℕ) (g : Given) (k m : ℕ) → open_fields g ≤ k → NotedAround masks g → NotedAround (set masks k m) g
  unfolding NotedAround open_fields
  around_other masks (message w) k m h a = tt
  around_other masks (opened tag w around) k m h a =
      (noted_other masks around (tag ∷ tags_given around) k m (λ z. omega arith) a.0, around_other masks around k m (omega arith) a.1)

  around_on : (masks : List ℕ) (g : Given) (f : Tree → Tree) → NotedAround masks g → NotedAround masks (on_fields f g)
  unfolding NotedAround on_fields
  around_on masks (message w) f a = tt
  around_on masks (opened tag w around) f a = a

  -- ---- after a call

  pub masks_begun : MasksAgree (replicate 8 0) (message end)
  unfolding NotedAround tags_given tags_of items open_fields
  masks_begun = record { innermost = noted_none (replicate 8 0) (message end) refl refl; around = tt }

  module _ (masks : List ℕ) where
    -- A field is put.
    pub masks_more : (g : Given) (f : Tree → Tree) (tag : ℕ) → tags_given (on_fields f g) ≡ tag ∷ tags_given g → open_fields g < length masks → MasksAgree masks g
        → MasksAgree (set masks (open_fields g) (noting_tag masks g tag)) (on_fields f g)
    masks_more g f tag e h a =
        let k = open_fields g in
        let m = noting_tag masks g tag in
        record {
          innermost = rw e (noted_on (set masks k m) g f (tag ∷ tags_given g) (noted_more masks g (tags_given g) tag h a.innermost));
          around = around_on (set masks k m) g f (around_other masks g k m (omega arith) a.around);
        }

    -- A field is opened. Nothing is noted in the new message.
    pub masks_opened : (g : Given) (tag : ℕ) → suc (open_fields g) < length masks → MasksAgree masks g
        → MasksAgree (set (set masks (open_fields g) (noting_tag masks g tag)) (suc (open_fields g)) 0) (opened tag end g)
    unfolding NotedAround tags_given tags_of items open_fields
    masks_opened g tag h a =
        let k = open_fields g in
        let one = set masks k (noting_tag masks g tag) in
        let l = length-set masks k (noting_tag masks g tag) in
        record {
          innermost = noted_none (set one (suc k) 0) (opened tag end g) refl (get_or-set_same one (suc k) 0 0 (omega arith));
          around = (
            noted_other one g (tag ∷ tags_given g) (suc k) 0 (λ z. omega arith) (noted_more masks g (tags_given g) tag (omega arith) a.innermost),
            around_other one g (suc k) 0 (omega arith) (around_other masks g k (noting_tag masks g tag) (omega arith) a.around),
          );
        }

    -- A field is closed. It was noted when it was opened.
    pub masks_closed : (tag : ℕ) (w : Tree) (around : Given) → MasksAgree masks (opened tag w around) → MasksAgree masks (on_fields (nested tag w) around)
    unfolding NotedAround
    masks_closed tag w around a =
        record {
          innermost = rw (tags_nested tag w around) (noted_on masks around (nested tag w) (tag ∷ tags_given around) a.around.0);
          around = around_on masks around (nested tag w) a.around.1;
        }
