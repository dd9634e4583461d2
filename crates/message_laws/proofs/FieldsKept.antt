-- The fields of a message under a table and under one with fewer entries, path by path.
use Prim.Native.Nat.{ℕ, zero, suc}
use native.Mathlib.Omega.{arith}
use mathlib.Core.Path.{◌≡◌, refl, sym, ap, ap₂, ◌∙◌, subst}
use mathlib.Core.Bool.{Bool, true, false, true≢false}
use mathlib.Core.List.{List, [], ◌∷◌, ◌++◌}
use mathlib.Core.Logic.{◌⊎◌, inl, inr}
use mathlib.Core.Option.{Option, none, some}
use Rattle.table.specs.Entry.{Entry, inner_of}
use Rattle.table.specs.LeftOut.{has_entry}
use Rattle.table.specs.Schema.{Schema}
use Rattle.table.specs.declared.Meaning.{Meaning}
use Rattle.message.specs.Cut.{Cut, end, leaf, nested, joined}
use Rattle.message_laws.specs.Paths.{Field, follow, field_at}
use Rattle.message_laws.specs.OldTables.{as_raw, Remain, RawOnPath, FieldsUnderOld}
use Rattle.message_laws.proofs.Trimmed.{Fewer, divided, trimmed, trimmed_joined}

module _ (es : List Entry) where
  -- The field at a path, or one of its parents, has no entry among `es`. It is raw under the old table.
  record Lost (new_at old_at : List ℕ → Option Field) (path : List ℕ) : Type 0 where
    first : ℕ
    front : List ℕ
    back : List ℕ
    on_the_path : (first ∷ front) ++ back ≡ path
    field : Field
    in_new : new_at (first ∷ front) ≡ some field
    in_old : old_at (first ∷ front) ≡ some (as_raw field)
    unknown : has_entry es field.number field.tag ≡ false

  -- What is at a path under both tables: nothing; the same field, if its own entry and those of its parents remain; or, if one of these entries is
  -- lost, nothing or a raw field under the old table.
  data Compared (new_at old_at : List ℕ → Option Field) (path : List ℕ) : Type 0 where
    absent : new_at path ≡ none → old_at path ≡ none → Compared new_at old_at path
    kept : (f : Field) → new_at path ≡ some f → old_at path ≡ some f → Remain es new_at path → Compared new_at old_at path
    lost : Lost new_at old_at path → (old_at path ≡ none) ⊎ ((f : Field) × (new_at path ≡ some f) × (old_at path ≡ some (as_raw f))) → Compared new_at old_at path

  -- Every path that leads somewhere has a first position.
  abbrev AllCompared : (List ℕ → Option Field) → (List ℕ → Option Field) → Type 0
  AllCompared p q = (i : ℕ) (path : List ℕ) → Compared p q (i ∷ path)

  -- A list of fields under both tables: its first field `f` and `g`, what is inside that field, and what follows it.
  module _ (f g : Field) (inner oldInner after oldAfter : List ℕ → Option Field) where
    abbrev new_at : List ℕ → Option Field
    new_at path = follow path f inner after

    abbrev old_at : List ℕ → Option Field
    old_at path = follow path g oldInner oldAfter

    -- A path into the fields that follow.
    remain_after : (i : ℕ) (path : List ℕ) → Remain es after (i ∷ path) → Remain es new_at (suc i ∷ path)
    unfolding Remain follow
    remain_after i path r [] back h e k = let z : ◌≡◌ {A = ℕ} 0 1 = cc in absurd (omega arith)
    remain_after i path r (zero ∷ front) back h e k = let z : ◌≡◌ {A = ℕ} 0 (suc i) = cc in absurd (omega arith)
    remain_after i path r (suc j ∷ front) back h e k = r (j ∷ front) back h (cc) k

    -- A lost field of the fields that follow, or of those inside the first one, has another path in the whole list.
    moved : (p q : List ℕ → Option Field) (path longer : List ℕ) (l : Lost p q path) (first : ℕ) (front : List ℕ) → (first ∷ front) ++ l.back ≡ longer
        → new_at (first ∷ front) ≡ p (l.first ∷ l.front) → old_at (first ∷ front) ≡ q (l.first ∷ l.front) → Lost new_at old_at longer
    moved p q path longer l first front e at_new at_old =
        record {
          first = first;
          front = front;
          back = l.back;
          on_the_path = e;
          field = l.field;
          in_new = at_new ∙ l.in_new;
          in_old = at_old ∙ l.in_old;
          unknown = l.unknown;
        }

    compared_after : (i : ℕ) (path : List ℕ) → Compared after oldAfter (i ∷ path) → Compared new_at old_at (suc i ∷ path)
    unfolding follow
    compared_after i path (absent e o) = absent e o
    compared_after i path (kept h e o r) = kept h e o (remain_after i path r)
    compared_after i path (lost l o) =
        let e = l.on_the_path in
        lost (moved after oldAfter (i ∷ path) (suc i ∷ path) l (suc l.first) l.front (cc) refl refl) o

    -- A path to the first field or into it, if its entry remains.
    module _ (known : has_entry es f.number f.tag ≡ true) where
      remain_inner : (path : List ℕ)
          → ((j : ℕ) (front back : List ℕ) (h : Field) → (j ∷ front) ++ back ≡ path → inner (j ∷ front) ≡ some h → has_entry es h.number h.tag ≡ true)
          → Remain es new_at (zero ∷ path)
      unfolding Remain follow
      remain_inner path r [] back h e k = let z : ◌≡◌ {A = ℕ} 0 1 = cc in absurd (omega arith)
      remain_inner path r (zero ∷ []) back h e k = let z : f ≡ h = cc in subst (λ (x : Field). has_entry es x.number x.tag ≡ true) z known
      remain_inner path r (zero ∷ j ∷ front) back h e k = r j front back h (cc) k
      remain_inner path r (suc j ∷ front) back h e k = let z : ◌≡◌ {A = ℕ} (suc j) 0 = cc in absurd (omega arith)

      compared_inner : (i : ℕ) (path : List ℕ) → Compared inner oldInner (i ∷ path) → Compared new_at old_at (zero ∷ i ∷ path)
      unfolding follow Remain
      compared_inner i path (absent e o) = absent e o
      compared_inner i path (kept h e o r) = kept h e o (remain_inner (i ∷ path) (λ j front. r (j ∷ front)))
      compared_inner i path (lost l o) =
          let e = l.on_the_path in
          lost (moved inner oldInner (i ∷ path) (zero ∷ i ∷ path) l zero (l.first ∷ l.front) (cc) refl refl) o

      compared_known : g ≡ f → AllCompared inner oldInner → AllCompared after oldAfter → (path : List ℕ) → Compared new_at old_at path
      unfolding follow
      compared_known e in_it behind [] = absent refl refl
      compared_known e in_it behind (zero ∷ []) =
          kept f refl (ap some e) (remain_inner [] (λ j front back h q k. let z : ◌≡◌ {A = ℕ} 0 1 = cc in absurd (omega arith)))
      compared_known e in_it behind (zero ∷ i ∷ path) = compared_inner i path (in_it i path)
      compared_known e in_it behind (suc i ∷ path) = compared_after i path (behind i path)

    -- The same if its entry is lost. Then no path leads into it.
    module _ (unknown : has_entry es f.number f.tag ≡ false) (raw : g ≡ as_raw f) where
      lost_first : (back : List ℕ) → Lost new_at old_at (zero ∷ back)
      unfolding follow
      lost_first back =
          record {
            first = zero;
            front = [];
            back = back;
            on_the_path = refl;
            field = f;
            in_new = refl;
            in_old = ap some raw;
            unknown = unknown;
          }

      compared_unknown : ((path : List ℕ) → oldInner path ≡ none) → AllCompared after oldAfter → (path : List ℕ) → Compared new_at old_at path
      unfolding follow
      compared_unknown nothing behind [] = absent refl refl
      compared_unknown nothing behind (zero ∷ []) = lost (lost_first []) (inr (f, refl, ap some raw))
      compared_unknown nothing behind (zero ∷ i ∷ path) = lost (lost_first (i ∷ path)) (inl (nothing (i ∷ path)))
      compared_unknown nothing behind (suc i ∷ path) = compared_after i path (behind i path)

-- What follows from this for the field at a path.
module _ (es : List Entry) (new_at old_at : List ℕ → Option Field) (path : List ℕ) (f : Field) where
  kept_or_raw : new_at path ≡ some f → Compared es new_at old_at path → (Remain es new_at path × (old_at path ≡ some f)) ⊎ ((Remain es new_at path → ⊥) × RawOnPath new_at old_at path)
  unfolding Remain
  kept_or_raw e (absent a o) = let z : ◌≡◌ {A = ℕ} 0 1 = cc in absurd (omega arith)
  kept_or_raw e (kept g a o r) = inl (r, cc)
  kept_or_raw e (lost l o) =
      inr (
        λ r. true≢false (sym (r (l.first ∷ l.front) l.back l.field l.on_the_path l.in_new) ∙ l.unknown),
        record {
          prefix = l.first ∷ l.front;
          back = l.back;
          on_the_path = l.on_the_path;
          field = l.field;
          in_new = l.in_new;
          in_old = l.in_old;
        },
      )

  no_more : old_at path ≡ some f → Compared es new_at old_at path → (g : Field) × (new_at path ≡ some g) × ((f ≡ g) ⊎ (f ≡ as_raw g))
  no_more e (absent a o) = let z : ◌≡◌ {A = ℕ} 0 1 = cc in absurd (omega arith)
  no_more e (kept g a o r) = (g, a, inl (cc))
  no_more e (lost l (inl o)) = let z : ◌≡◌ {A = ℕ} 0 1 = cc in absurd (omega arith)
  no_more e (lost l (inr o)) = let p = o.2 in (o.0, o.1, inr (cc))

module _ (es : List Entry) (sc fewer : Schema) (less : Fewer sc fewer (has_entry es)) where
  -- A field of a kind.
  abbrev of_kind : ℕ → ℕ → List ℕ → List ℕ → Meaning → Field
  of_kind n tag part contents kind = record { number = n; tag = tag; kind = kind; part = part; contents = contents }

  -- A cut and the trimmed cut.
  abbrev Both : ℕ → Cut → List ℕ → Type 0
  Both n cut path = Compared es (field_at sc n cut) (field_at fewer n (trimmed sc (has_entry es) n cut)) path

  compared_leaf : (n tag : ℕ) (part contents : List ℕ) (rest : Cut) → ((i : ℕ) (path : List ℕ) → Both n rest (i ∷ path))
      → (path : List ℕ) → Both n (leaf tag part contents rest) path
  unfolding field_at trimmed as_raw
  compared_leaf n tag part contents rest behind path = go (has_entry es n tag) refl
    where
      go : (b : Bool) → has_entry es n tag ≡ b → Both n (leaf tag part contents rest) path
      go true e = compared_known es _ _ _ _ _ _ e (ap (of_kind n tag part contents) (less.same n tag e).0) (λ i p. absent refl refl) behind path
      go false e = compared_unknown es _ _ _ _ _ _ e (ap (of_kind n tag part contents) (less.gone n tag e).0) (λ p. refl) behind path

  compared : (cut : Cut) (n : ℕ) (path : List ℕ) → Both n cut path
  unfolding field_at trimmed divided as_raw
  compared end n path = absent refl refl
  compared (leaf tag part contents rest) n path = compared_leaf n tag part contents rest (λ i p. compared rest n (i ∷ p)) path
  compared (nested tag part inside rest) n path =
      go (has_entry es n tag) refl (λ i p. compared inside (inner_of (sc.means n tag)) (i ∷ p)) (λ i p. compared rest n (i ∷ p))
    where
      m : ℕ
      m = inner_of (sc.means n tag)

      go : (b : Bool) → has_entry es n tag ≡ b → ((i : ℕ) (p : List ℕ) → Both m inside (i ∷ p)) → ((i : ℕ) (p : List ℕ) → Both n rest (i ∷ p))
          → Compared es (field_at sc n (nested tag part inside rest))
          (field_at fewer n (divided b tag part inside (trimmed sc (has_entry es) m inside) (trimmed sc (has_entry es) n rest))) path
      go true e in_it behind =
          let kind = (less.same n tag e).0 in
          let inner = trimmed sc (has_entry es) m inside in
          compared_known es _ _ _ _ _ _ e (ap₂ (λ (k : Meaning) (s : List ℕ). of_kind n tag part s k) kind (trimmed_joined sc (has_entry es) m inside))
          (λ i p. subst (λ (k : Meaning). Compared es (field_at sc m inside) (field_at fewer (inner_of k) inner) (i ∷ p)) (sym kind) (in_it i p)) behind path
      go false e in_it behind =
          compared_unknown es _ _ _ _ _ _ e (ap (of_kind n tag part (joined inside)) (less.gone n tag e).0) (λ p. refl) behind path

  pub trimmed_fields : (cut : Cut) (n : ℕ) → FieldsUnderOld es (field_at sc n cut) (field_at fewer n (trimmed sc (has_entry es) n cut))
  trimmed_fields cut n =
      let new_at = field_at sc n cut in
      let old_at = field_at fewer n (trimmed sc (has_entry es) n cut) in
      record {
        kept_or_raw = λ path f e. kept_or_raw es new_at old_at path f e (compared cut n path);
        no_more = λ path f e. no_more es new_at old_at path f e (compared cut n path);
      }
