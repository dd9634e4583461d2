-- One step of the reading takes exactly one whole and allowed field, which repeats no single one before it.
use Prim.Native.Nat.{ℕ, zero, suc, ◌+◌, ◌-◌, ◌≤◌, ◌<◌}
use native.Mathlib.Omega.{arith}
use mathlib.Core.Path.{◌≡◌, refl, sym, ap, ◌∙◌, subst}
use mathlib.Core.Bool.{Bool, true, false, cond, true≢false, false≢true}
use mathlib.Core.List.{List, [], ◌++◌, append_assoc}
use mathlib.Core.Logic.{◌⊎◌, inl, inr}
use lib.ListN.{length, take, drop, length-append, length-drop, take-append-drop}
use lib.Seq.{take_at, drop_at, length-take-le, drop-drop}
use lib.Dec.{leb, eqb}
use borrow.Author.Tests.{leb-true, leb-false, le-leb, eqb-true}
use Rattle.reading.specs.Refusals as refusals
use Rattle.octets.specs.Text.{text}
use Rattle.octets.specs.Utf8.{IsText}
use Rattle.octets.specs.Control.{control}
use Rattle.octets.specs.declared.Control.{Control}
use Rattle.octets.specs.declared.Control.TheVariants.{Absent, Partial, Whole}
use Rattle.octets.specs.ControlPart.{ControlPart}
use Rattle.octets.proofs.Bools.{and_left, and_right}
use Rattle.octets.proofs.ControlPart.{control_size, part_of_control, part_read, control_absent, control_nil}
use Rattle.octets.proofs.Text.{text_exactly}
use Rattle.table.specs.Entry.{kind_number}
use Rattle.table.specs.Schema.{Schema}
use Rattle.table.specs.declared.Meaning.{Meaning}
use Rattle.table.specs.declared.Meaning.TheVariants.{Raw, Uint, Int, String, Text, Message}
use Rattle.message.specs.Cut.{WholeField, Contents, LeafField, NestedField}
use Rattle.message.specs.Single.{repeats}
use Rattle.message.specs.Reading.{Step}
use Rattle.message.specs.Reading.{Done, Fault, Over, Into}
use Rattle.message.specs.Reading.{step_by_kind, too_deep, step_from, step, tag_of, tag_at}

-- Octets in three parts.
pub split_in_three : (k l : ℕ) (s : List ℕ) → take k s ++ take l (drop k s) ++ drop (k + l) s ≡ s
split_in_three k l s =
    append_assoc (take k s) (take l (drop k s)) (drop (k + l) s)
    ∙ rw (← drop-drop l k s, take-append-drop l (drop k s)) (take-append-drop k s)

-- The tag of the field at the front, once its control part is known.
pub tag_is : (s : List ℕ) (tag len size : ℕ) → control s ≡ Whole tag len size → tag_at s ≡ tag
unfolding tag_at tag_of
tag_is s tag len size e = rw e

-- ---- fields that are too deep

-- Only a message is too deep, and only where none may be nested.
pub deep_is : (levels : ℕ) (k : Meaning) → too_deep levels k ≡ true → (levels ≡ 0) × ((m : ℕ) × (k ≡ Message m))
unfolding too_deep kind_number
deep_is levels k e =
    let is = eqb (kind_number k) 5 in
    (eqb-true levels 0 (and_left (eqb levels 0) is e), go k (and_right (eqb levels 0) is e))
  where
    go : (k : Meaning) → eqb (kind_number k) 5 ≡ true → (m : ℕ) × (k ≡ Message m)
    go Raw h = absurd (false≢true h)
    go Uint h = absurd (false≢true h)
    go Int h = absurd (false≢true h)
    go String h = absurd (false≢true h)
    go Text h = absurd (false≢true h)
    go (Message m) h = (m, refl)

-- A message that is not too deep may be nested.
pub message_fits : (levels : ℕ) (k : Meaning) (m : ℕ) → too_deep levels k ≡ false → k ≡ Message m → 1 ≤ levels
unfolding too_deep kind_number
message_fits zero k m e f = absurd (true≢false (rw f at e))
message_fits (suc levels) k m e f = omega arith

-- A field is not too deep where a message may be nested, or where it is none.
pub not_deep : (levels : ℕ) (k : Meaning) → ((m : ℕ) → k ≡ Message m → 1 ≤ levels) → too_deep levels k ≡ false
not_deep levels k h = go (too_deep levels k) refl
  where
    go : (t : Bool) → too_deep levels k ≡ t → t ≡ false
    go true e =
        let d = deep_is levels k e in
        let z = d.0 in
        let p = h d.1.0 d.1.1 in
        absurd (omega arith)
    go false e = refl

-- ---- what holds of every step that a field may have holds of its step

module _ (P : Step → Type 0) where
  -- By a test.
  tested : (t : Bool) (p q : Step) → (t ≡ true → P p) → (t ≡ false → P q) → P (cond t p q)
  tested true p q passed failed = passed refl
  tested false p q passed failed = failed refl

  -- By the length of a number.
  number_tested : (k : ℕ) (b : List ℕ) → (length b ≤ 8 → P (Over k (length b))) → (8 < length b → P (Fault refusals.number_too_wide))
      → P (cond (leb (length b) 8) (Over k (length b)) (Fault refusals.number_too_wide))
  number_tested k b good wide =
      tested (leb (length b) 8) (Over k (length b)) (Fault refusals.number_too_wide) (λ t. good (leb-true (length b) 8 t))
      (λ t. wide (leb-false (length b) 8 t))

  -- By the kind of the field: over it, a refusal of its contents, or into it.
  pub of_kind : (m : Meaning) (k : ℕ) (b : List ℕ) → (Contents m b → P (Over k (length b)))
      → ((m ≡ Uint) ⊎ (m ≡ Int) → 8 < length b → P (Fault refusals.number_too_wide))
      → (m ≡ Text → (IsText b → ⊥) → P (Fault refusals.text))
      → ((i : ℕ) → m ≡ Message i → P (Into i k (length b))) → P (step_by_kind m k b)
  unfolding step_by_kind Contents
  of_kind Raw k b good wide bad into = good tt
  of_kind Uint k b good wide bad into = number_tested k b good (wide (inl refl))
  of_kind Int k b good wide bad into = number_tested k b good (wide (inr refl))
  of_kind String k b good wide bad into = good tt
  of_kind Text k b good wide bad into =
      tested (text b) (Over k (length b)) (Fault refusals.text) (λ t. good ((text_exactly b).0 t))
      (λ t. bad refl (λ h. true≢false (sym ((text_exactly b).1 h) ∙ t)))
  of_kind (Message m) k b good wide bad into = into m refl

  -- By the tests before that: past the end, too deep, and a single field repeated.
  pub of_whole : (sc : Schema) (levels n : ℕ) (before s : List ℕ) (tag len size : ℕ)
      → (length s - size < len → P (Fault refusals.past_the_end))
      → (len ≤ length s - size → too_deep levels (sc.means n tag) ≡ true → P (Fault refusals.too_deep))
      → (len ≤ length s - size → too_deep levels (sc.means n tag) ≡ false → repeats sc n before tag ≡ true → P (Fault refusals.repeated))
      → (len ≤ length s - size → too_deep levels (sc.means n tag) ≡ false → repeats sc n before tag ≡ false
      → P (step_by_kind (sc.means n tag) size (take len (drop size s))))
      → P (step_from sc levels n before s (Whole tag len size))
  unfolding step_from
  of_whole sc levels n before s tag len size short deep again kind =
      let k = sc.means n tag in
      let p = step_by_kind k size (take len (drop size s)) in
      let q = cond (repeats sc n before tag) (Fault refusals.repeated) p in
      tested (leb len (length s - size)) (cond (too_deep levels k) (Fault refusals.too_deep) q) (Fault refusals.past_the_end)
      (λ t.
      let h = leb-true len (length s - size) t in
      tested (too_deep levels k) (Fault refusals.too_deep) q (deep h)
      (λ u. tested (repeats sc n before tag) (Fault refusals.repeated) p (again h u) (kind h u)))
      (λ t. short (leb-false len (length s - size) t))

-- ---- what a step finds is a whole and allowed field

-- What each step means for the octets.
unfoldable pub StepMeans : Schema → ℕ → List ℕ → Step → Type 0
StepMeans sc n s Done = s ≡ []
StepMeans sc n s (Fault reason) = Unit {0}
StepMeans sc n s (Over k l) = LeafField sc n (tag_at s) (take k s) (take l (drop k s)) × (1 ≤ k) × (k + l ≤ length s)
StepMeans sc n s (Into m k l) = NestedField sc n m (tag_at s) (take k s) (take l (drop k s)) × (1 ≤ k) × (k + l ≤ length s)

-- The field of a step over it or into it repeats no single one before, and a message may be nested where there is a step into one.
unfoldable pub Fresh : Schema → ℕ → ℕ → List ℕ → List ℕ → Step → Type 0
Fresh sc levels n before s Done = Unit {0}
Fresh sc levels n before s (Fault reason) = Unit {0}
Fresh sc levels n before s (Over k l) = repeats sc n before (tag_at s) ≡ false
Fresh sc levels n before s (Into m k l) = (repeats sc n before (tag_at s) ≡ false) × (1 ≤ levels)

-- The field at the front, once its control part is known and the octets are long enough.
pub whole_at : (s : List ℕ) (tag len size : ℕ) → control s ≡ Whole tag len size → len ≤ length s - size
    → (length (take len (drop size s)) ≡ len) × WholeField tag (take size s) (take len (drop size s))
whole_at s tag len size e h =
    let d = length-drop size s in
    let b = length-take-le len (drop size s) (omega arith) in
    (b, subst (λ (x : ℕ). ControlPart tag x (take size s)) (sym b) (part_of_control s tag len size e))

module _ (sc : Schema) (levels n : ℕ) (before s : List ℕ) where
  -- By the control part at the front.
  step_from_means : (k : Control) → control s ≡ k → StepMeans sc n s (step_from sc levels n before s k)
  unfolding StepMeans
  step_from_means Absent e = unfold step_from in control_absent s e
  step_from_means Partial e = unfold step_from in tt
  step_from_means (Whole tag len size) e =
      let c = control_size s tag len size e in
      let g = sym (tag_is s tag len size e) in
      of_whole (StepMeans sc n s) sc levels n before s tag len size (λ h. tt) (λ h t. tt) (λ h t u. tt)
      (λ h t u.
      let w = whole_at s tag len size e h in
      let b = take len (drop size s) in
      let x : length b ≡ len = w.0 in
      let f : WholeField (tag_at s) (take size s) b = subst (λ (y : ℕ). WholeField y (take size s) b) g w.1 in
      let p = c.0 in
      let q = c.1 in
      of_kind (StepMeans sc n s) (sc.means n tag) size b
      (λ good. rw x (record { whole = f; allowed = subst (λ (y : ℕ). Contents (sc.means n y) b) g good }, p, omega arith))
      (λ k l. tt) (λ k l. tt)
      (λ i m. rw x (record { whole = f; allowed = ap (sc.means n) (sym g) ∙ m }, p, omega arith)))

  step_from_fresh : (k : Control) → control s ≡ k → Fresh sc levels n before s (step_from sc levels n before s k)
  unfolding Fresh
  step_from_fresh Absent e = unfold step_from in tt
  step_from_fresh Partial e = unfold step_from in tt
  step_from_fresh (Whole tag len size) e =
      let g = tag_is s tag len size e in
      of_whole (Fresh sc levels n before s) sc levels n before s tag len size (λ h. tt) (λ h t. tt) (λ h t u. tt)
      (λ h t u.
      of_kind (Fresh sc levels n before s) (sc.means n tag) size (take len (drop size s)) (λ good. rw g u) (λ k l. tt) (λ k l. tt)
      (λ i m. (rw g u, message_fits levels (sc.means n tag) i t m)))

  -- The step at the front of octets.
  pub step_means : StepMeans sc n s (step sc levels n before s)
  unfolding step
  step_means = step_from_means (control s) refl

  pub step_fresh : Fresh sc levels n before s (step sc levels n before s)
  unfolding step
  step_fresh = step_from_fresh (control s) refl

-- ---- a whole and allowed field is what a step finds

-- The control part and the tag of a whole field at the front.
pub field_control : (tag : ℕ) (c b rest : List ℕ) → WholeField tag c b → control (c ++ b ++ rest) ≡ Whole tag (length b) (length c)
field_control tag c b rest w = rw (append_assoc c b rest) (part_read tag (length b) c w (b ++ rest))

pub field_tag : (tag : ℕ) (c b rest : List ℕ) → WholeField tag c b → tag_at (c ++ b ++ rest) ≡ tag
field_tag tag c b rest w = tag_is (c ++ b ++ rest) tag (length b) (length c) (field_control tag c b rest w)

module _ (sc : Schema) (levels n : ℕ) (before : List ℕ) where
  -- The step at a whole field: too deep, repeated, or by its kind.
  pub found : (tag : ℕ) (c b rest : List ℕ) → WholeField tag c b
      → step sc levels n before (c ++ b ++ rest)
      ≡ cond (too_deep levels (sc.means n tag)) (Fault refusals.too_deep)
      (cond (repeats sc n before tag) (Fault refusals.repeated) (step_by_kind (sc.means n tag) (length c) b))
  unfolding step step_from
  found tag c b rest w =
      let s = c ++ b ++ rest in
      let a = append_assoc c b rest in
      let k = field_control tag c b rest w in
      let l : length s ≡ length c + length b + length rest = simp length-append (omega arith) in
      let d : drop (length c) s ≡ b ++ rest = rw a (drop_at c (b ++ rest) (length c) refl) in
      let f : leb (length b) (length s - length c) ≡ true = le-leb (length b) (length s - length c) (omega arith) in
      rw (k, f, d, take_at b rest (length b) refl)

  -- Where the field is not too deep and no repeat, the step goes by its kind.
  pub found_fresh : (k : Meaning) (tag : ℕ) (c b rest : List ℕ) → WholeField tag c b → sc.means n tag ≡ k
      → too_deep levels k ≡ false → repeats sc n before tag ≡ false → step sc levels n before (c ++ b ++ rest) ≡ step_by_kind k (length c) b
  found_fresh k tag c b rest w e shallow fresh = found tag c b rest w ∙ rw (e, shallow, fresh)

  -- A whole and allowed field is stepped over, or into.
  pub step_of_leaf : (tag : ℕ) (c b rest : List ℕ) → LeafField sc n tag c b → repeats sc n before tag ≡ false
      → step sc levels n before (c ++ b ++ rest) ≡ Over (length c) (length b)
  unfolding step_by_kind Contents
  step_of_leaf tag c b rest f fresh =
      let k = sc.means n tag in
      let shallow = not_deep levels k (λ m e. absurd (subst (λ (x : Meaning). Contents x b) e f.allowed)) in
      found_fresh k tag c b rest f.whole refl shallow fresh ∙ go k f.allowed
    where
      go : (k : Meaning) → Contents k b → step_by_kind k (length c) b ≡ Over (length c) (length b)
      go Raw h = refl
      go Uint h = rw (le-leb (length b) 8 h)
      go Int h = rw (le-leb (length b) 8 h)
      go String h = refl
      go Text h = rw ((text_exactly b).1 h)
      go (Message m) h = absurd h

  pub step_of_nested : (m tag : ℕ) (c b rest : List ℕ) → NestedField sc n m tag c b → 1 ≤ levels → repeats sc n before tag ≡ false
      → step sc levels n before (c ++ b ++ rest) ≡ Into m (length c) (length b)
  unfolding step_by_kind
  step_of_nested m tag c b rest f some fresh =
      found_fresh (Message m) tag c b rest f.whole f.allowed (not_deep levels (Message m) (λ i e. some)) fresh

  -- The step at the end.
  pub step_of_end : step sc levels n before [] ≡ Done
  unfolding step step_from
  step_of_end = rw control_nil

-- The fields before matter to a step only where the field at the front repeats one of them.
pub step_any_before : (sc : Schema) (levels n : ℕ) (before other s : List ℕ) → repeats sc n before (tag_at s) ≡ repeats sc n other (tag_at s)
    → step sc levels n before s ≡ step sc levels n other s
unfolding step step_from tag_at tag_of
step_any_before sc levels n before other s e = go (control s) e
  where
    go : (c : Control) → repeats sc n before (tag_of c) ≡ repeats sc n other (tag_of c) → step_from sc levels n before s c ≡ step_from sc levels n other s c
    go Absent e = refl
    go Partial e = refl
    go (Whole tag len size) e = rw e

-- The parts that a step's sizes name.
pub record InThree (c b rest : List ℕ) : Type 0 where
  pub first : take (length c) (c ++ b ++ rest) ≡ c
  pub second : take (length b) (drop (length c) (c ++ b ++ rest)) ≡ b
  pub third : drop (length c + length b) (c ++ b ++ rest) ≡ rest

pub in_three : (c b rest : List ℕ) → InThree c b rest
in_three c b rest =
    let a = append_assoc c b rest in
    record {
      first = rw a (take_at c (b ++ rest) (length c) refl);
      second = rw (a, drop_at c (b ++ rest) (length c) refl) (take_at b rest (length b) refl);
      third = drop_at (c ++ b) rest (length c + length b) (length-append c b);
    }
