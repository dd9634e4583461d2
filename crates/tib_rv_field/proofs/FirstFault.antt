-- A message is refused exactly with its first fault; it has at most one; and it has one exactly where it is not whole.
use Prim.Native.Nat.{ℕ, zero, suc, ◌+◌, ◌-◌, ◌≤◌, ◌<◌}
use native.Mathlib.Omega.{arith}
use mathlib.Core.Path.{◌≡◌, refl, sym, ap, ap₂, ◌∙◌, subst}
use mathlib.Core.Bool.{Bool, true, false, cond}
use mathlib.Core.List.{List, ◌++◌}
use mathlib.Core.Logic.{◌↔◌}
use lib.ListN.{length, take, drop, length-append, length-drop, take-append-drop}
use lib.Seq.{take_at, drop_at, length-take-le, drop-drop}
use lib.Dec.{eqb, ltb}
use borrow.Author.Tests.{ltb-true, ltb-false, lt-ltb, le-ltb, eqb-true, eqb-false, ne_eqb}
use Rattle.octets.specs.Number.{big_endian}
use Rattle.reading.specs.Reading.{Reading, accepted, refused, on_accepted, in_order, message_limit}
use Rattle.tib_field.specs.Name.{Name}
use Rattle.tib_field.specs.Mark.{begins}
use Rattle.tib_field.proofs.Marks.{mark_begins, begins_mark}
use Rattle.tib_field.proofs.ReadingLaws as reading-laws
use Rattle.tib_rv_field.specs.declared.Sizes.{Sizes}
use Rattle.tib_rv_field.specs.Layout.{Parts, octets, holder, magic, Fields, leaf, message, depth, Header, Whole}
use Rattle.tib_rv_field.specs.FirstFault.{WrongHeader, Opens, Holder, FaultIn, here, over, past, too_deep, header, inside, FirstFault}
use Rattle.tib_rv_field.specs.FirstFault as faults
use Rattle.tib_rv_field.specs.Reading.{Step, Done, Fault, Over, Into, next_field, lead, total, parts_at, Inner, nested_of, after_step, fields_from, header_fault, message_from, reading}
use Rattle.tib_rv_field.specs.internal.Sizes.{sizes}
use Rattle.tib_rv_field.proofs.Steps.{Found, Held, Counted, step_found, step_holder, step_of_leaf, step_of_held, parts_of_field, rest_of_field, length_octets}
use Rattle.tib_rv_field.proofs.Accepted.{GoodMessage, GoodHeader, leaf_parts, held_parts, header_good, good_header, field_size, message_counted, accepted_good, good_accepted, accepted_exactly}
use Rattle.tib_rv_field.proofs.WrongFields.{field_told, wrong_field_lem, header_told, wrong_header}

-- ---- a header that is good

opens_header : (s fields : List ℕ) → Opens s fields → GoodHeader s × (drop 8 s ≡ fields)
opens_header s fields o =
    let e = o.divides in
    let w = o.width in
    let p : drop 4 s ≡ magic ++ fields = ap (drop 4) e ∙ drop_at o.size (magic ++ fields) 4 w in
    let x : length s ≡ length o.size + length (magic ++ fields) = ap length e ∙ length-append o.size (magic ++ fields) in
    let y = length-append magic fields in (
      record {
        whole = omega arith;
        marked = ap (begins magic) p ∙ mark_begins magic fields;
        counted = ap big_endian (ap (take 4) e ∙ take_at o.size (magic ++ fields) 4 w) ∙ o.counted;
      },
      sym (drop-drop 4 4 s) ∙ ap (drop 4) p,
    )

header_opens : (s : List ℕ) → GoodHeader s → Opens s (drop 8 s)
header_opens s h =
    let w = h.whole in
    record {
      size = take 4 s;
      divides =
          sym (take-append-drop 4 s)
          ∙ ap (λ (r : List ℕ). take 4 s ++ r) (begins_mark magic (drop 4 s) h.marked ∙ ap (λ (r : List ℕ). magic ++ r) (drop-drop 4 4 s));
      width = length-take-le 4 s (omega arith);
      counted = h.counted;
    }

-- What a field of type 1 holds, by its first four octets.
pub holds_counted : (name held : List ℕ) → Holder name held → Counted held
holds_counted name held h =
    let e = h.divides in
    let w = h.width in
    let x : length held ≡ length h.size + length h.rest = ap length e ∙ length-append h.size h.rest in
    record { four = omega arith; same = ap big_endian (ap (take 4) e ∙ take_at h.size h.rest 4 w) ∙ h.counted }

counted_holds : (name held : List ℕ) → Name name → Counted held → Holder name held
counted_holds name held good c =
    record {
      good = good;
      size = take 4 held;
      rest = drop 4 held;
      divides = sym (take-append-drop 4 held);
      width = length-take-le 4 held c.four;
      counted = c.same;
    }

opens_counted : (held fields : List ℕ) → Opens held fields → Counted held
opens_counted held fields o =
    let h = (opens_header held fields o).0 in
    let w = h.whole in
    record { four = omega arith; same = h.counted }

-- The place of what a field of type 1 holds.
lead_held : (name held : List ℕ) → lead (sizes (holder name held)) ≡ 3 + length name
unfolding lead sizes
lead_held name held = omega arith

-- A message with a wrong header is refused there; one with a good header as its fields are.
wrong_message : (levels field at : ℕ) (s : List ℕ) (k : ℕ) → WrongHeader s k → message_from (suc levels) field at s ≡ refused k at
unfolding message_from
wrong_message levels field at s k w =
    let h = wrong_header s k w in
    rw (h.0, ne_eqb k 0 h.1)

open_message : (levels field at : ℕ) (s fields : List ℕ) → Opens s fields
    → message_from (suc levels) field at s ≡ fields_from (message_from levels) (suc (length s)) (at + 8) fields
unfolding message_from
open_message levels field at s fields o =
    let h = opens_header s fields o in
    rw (good_header s h.0, h.1)

-- ---- a fault in the fields is refused

module _ (levels fuel at : ℕ) (name held s : List ℕ) (good : Name name) (c : Counted held) where
  -- A step into what a field of type 1 holds.
  into_held : fields_from (message_from levels) (suc fuel) at (octets (holder name held) ++ s)
      ≡ in_order (nested_of (holder name held)) (message_from levels at (at + (3 + length name)) held)
      (fields_from (message_from levels) fuel (at + length (octets (holder name held))) s)
  unfolding fields_from after_step
  into_held =
      let f = holder name held in
      rw (step_of_held name held s good c, parts_of_field f s, rest_of_field f s, lead_held name held, length_octets f)

  into_refused : (k p : ℕ) → message_from levels at (at + (3 + length name)) held ≡ refused k p
      → fields_from (message_from levels) (suc fuel) at (octets (holder name held) ++ s) ≡ refused k p
  unfolding in_order
  into_refused k p e = into_held ∙ rw e

fault_refused : (depth : ℕ) (s : List ℕ) (k p : ℕ) → FaultIn depth s k p → (levels fuel at : ℕ) → depth ≡ suc levels → length s < fuel
    → fields_from (message_from levels) fuel at s ≡ refused k (at + p)
unfolding fields_from after_step on_accepted in_order
fault_refused depth s k p (here d j r w) levels zero at e h = absurd (omega arith)
fault_refused depth s k p (here d j r w) levels (suc fuel) at e h = rw (wrong_field_lem j r w) (ap (refused j) (omega arith))
fault_refused depth s k p (over d j q f r l later) levels zero at e h = absurd (omega arith)
fault_refused depth s k p (over d j q f r l later) levels (suc fuel) at e h =
    let a = field_size f in
    let b = length-append (octets f) r in
    let o = length_octets f in
    let i = fault_refused d r j q later levels fuel (at + total (sizes f)) e (omega arith) in
    rw (step_of_leaf f r l, parts_of_field f r, rest_of_field f r, i) (ap (refused j) (omega arith))
fault_refused depth s k p (past d j q name size inner r good head allowed deep later) levels zero at e h = absurd (omega arith)
fault_refused depth s k p (past d j q name size inner r good head allowed deep later) levels (suc fuel) at e h =
    let m = message size inner in
    let f = holder name m in
    let c = message_counted size inner head in
    let a = field_size f in
    let b = length-append (octets f) r in
    let g : GoodMessage levels m inner =
    record {
      divides = ap (λ (x : List ℕ). message x inner) (sym c.1);
      header = subst (λ (x : List ℕ). Header x inner) (sym c.1) head;
      fields = record { divides = refl; allowed = allowed; shallow = omega arith };
    } in
    let i = fault_refused d r j q later levels fuel (at + length (octets f)) e (omega arith) in
    into_held levels fuel at name m r good c.0
    ∙ rw (good_accepted levels at (at + (3 + length name)) m inner g, i) (ap (refused j) (omega arith))
fault_refused depth s k p (too_deep name held r o) levels zero at e h = absurd (omega arith)
fault_refused depth s k p (too_deep name held r o) zero (suc fuel) at e h =
    into_refused 0 fuel at name held r o.good (holds_counted name held o) 5 (at + 0) (unfold message_from in ap (refused 5) (omega arith))
fault_refused depth s k p (too_deep name held r o) (suc levels) (suc fuel) at e h = absurd (omega arith)
fault_refused depth s k p (header d j name held r l o w) levels zero at e h = absurd (omega arith)
fault_refused depth s k p (header d j name held r l o w) zero (suc fuel) at e h = absurd (omega arith)
fault_refused depth s k p (header d j name held r l o w) (suc levels) (suc fuel) at e h =
    into_refused (suc levels) fuel at name held r o.good (holds_counted name held o) j (at + (3 + length name))
    (wrong_message levels at (at + (3 + length name)) held j w)
fault_refused depth s k p (inside d j q name held fields r l good o inner) levels zero at e h = absurd (omega arith)
fault_refused depth s k p (inside d j q name held fields r l good o inner) zero (suc fuel) at e h = absurd (omega arith)
fault_refused depth s k p (inside d j q name held fields r l good o inner) (suc levels) (suc fuel) at e h =
    let b : length held ≡ 8 + length fields = holder_length in
    let i = fault_refused d fields j q inner levels (suc (length held)) (at + (3 + length name) + 8) (omega arith) (omega arith) in
    into_refused (suc levels) fuel at name held r good (opens_counted held fields o) j (at + (3 + length name + 8 + q))
    (open_message levels at (at + (3 + length name)) held fields o ∙ i ∙ ap (refused j) (omega arith))
  where
    holder_length : length held ≡ 8 + length fields
    holder_length =
        let w = o.width in
        let x : length held ≡ length o.size + length (magic ++ fields) = ap length o.divides ∙ length-append o.size (magic ++ fields) in
        let y = length-append magic fields in
        omega arith

-- ---- what is refused is a fault

-- What a reading of fields at a place, or of the message in a field of type 1 at a place, tells where it refuses.
FieldsTold : ℕ → ℕ → List ℕ → Reading Fields → Type 0
FieldsTold levels at s (accepted fs) = Unit {0}
FieldsTold levels at s (refused k p) = (q : ℕ) × FaultIn levels s k q × (p ≡ at + q)

-- A field more before a fault.
one_leaf : (levels at : ℕ) (s : List ℕ) (z : Sizes) → Found s z → (r : Reading Fields) → FieldsTold levels (at + total z) (drop (total z) s) r
    → FieldsTold levels at s (on_accepted (leaf (parts_at s z)) r)
unfolding FieldsTold on_accepted
one_leaf levels at s z f (accepted fs) h = tt
one_leaf levels at s z f (refused k p) h =
    let g = f.field in
    let l : length (octets g) ≡ total z = length_octets g ∙ ap total f.sized in
    let e = h.2 in
    let b : FaultIn levels f.rest k h.0 = subst (λ (x : List ℕ). FaultIn levels x k h.0) (leaf_parts s z f).1 h.1 in (
      length (octets g) + h.0,
      subst (λ (x : List ℕ). FaultIn levels x k (length (octets g) + h.0)) (sym f.divides) (over levels k h.0 g f.rest f.allowed b),
      omega arith,
    )

-- A field of type 1: its message is refused, or a fault stands after it.
one_held : (levels at : ℕ) (s : List ℕ) (z : Sizes) (f : Held s z) (q : Reading Fields) → ((i : Fields) → q ≡ accepted i → GoodMessage levels f.octets_held i)
    → FieldsTold (suc levels) at s q → (r : Reading Fields) → FieldsTold (suc levels) (at + total z) (drop (total z) s) r
    → FieldsTold (suc levels) at s (in_order (nested_of (parts_at s z)) q r)
unfolding FieldsTold on_accepted in_order
one_held levels at s z f (refused k p) good h r t = h
one_held levels at s z f (accepted i) good h (accepted fs) t = tt
one_held levels at s z f (accepted i) good h (refused k p) t =
    let g = good i refl in
    let m = f.octets_held in
    let o = holder f.name m in
    let l : length (octets o) ≡ total z = length_octets o ∙ ap total f.sized in
    let e = t.2 in
    let d = g.fields.shallow in
    let b : FaultIn (suc levels) f.rest k t.0 = subst (λ (x : List ℕ). FaultIn (suc levels) x k t.0) (held_parts s z f).1 t.1 in
    let a = past (suc levels) k t.0 f.name (take 4 m) i f.rest f.good g.header g.fields.allowed (omega arith) b in
    let c : FaultIn (suc levels) (octets o ++ f.rest) k (length (octets o) + t.0) =
    subst (λ (x : List ℕ). FaultIn (suc levels) (octets (holder f.name x) ++ f.rest) k (length (octets (holder f.name x)) + t.0)) (sym g.divides) a in (
      length (octets o) + t.0,
      subst (λ (x : List ℕ). FaultIn (suc levels) x k (length (octets o) + t.0)) (sym f.divides) c,
      omega arith,
    )

-- Where the messages in fields of type 1 tell, so do the fields of a message.
module _ (levels : ℕ) (inner : Inner) (good : (field at : ℕ) (m : List ℕ) (fs : Fields) → inner field at m ≡ accepted fs → GoodMessage levels m fs)
    (below : (at : ℕ) (name held s : List ℕ) → Name name → Counted held
    → FieldsTold (suc levels) at (octets (holder name held) ++ s) (inner at (at + (3 + length name)) held)) where
  fields_told : (fuel at : ℕ) (s : List ℕ) → length s < fuel → FieldsTold (suc levels) at s (fields_from inner fuel at s)
  unfolding fields_from after_step FieldsTold
  fields_told zero at s h = absurd (omega arith)
  fields_told (suc fuel) at s h = go (next_field s) refl (fields_told fuel)
    where
      shorter : (z : Sizes) (f : Parts) (rest : List ℕ) → s ≡ octets f ++ rest → sizes f ≡ z → length (drop (total z) s) < fuel
      shorter z f rest e q =
          let a = field_size f in
          let b = length_octets f in
          let c = ap total q in
          let d = length-drop (total z) s in
          let l : length s ≡ length (octets f) + length rest = ap length e ∙ length-append (octets f) rest in
          omega arith

      go : (p : Step) → next_field s ≡ p → ((at : ℕ) (r : List ℕ) → length r < fuel → FieldsTold (suc levels) at r (fields_from inner fuel at r))
          → FieldsTold (suc levels) at s (after_step inner (fields_from inner fuel) at s p)
      go Done e later = tt
      go (Fault k) e later = (0, here (suc levels) k s (field_told s k e), omega arith)
      go (Over z) e later =
          let f = step_found s z e in
          one_leaf (suc levels) at s z f (fields_from inner fuel (at + total z) (drop (total z) s))
          (later (at + total z) (drop (total z) s) (shorter z f.field f.rest f.divides f.sized))
      go (Into z) e later =
          let f = step_holder s z e in
          let m = f.octets_held in
          let o = holder f.name m in
          let c : (parts_at s z).contents ≡ m = ap (λ (x : Parts). x.contents) (held_parts s z f).0 in
          let w : lead z ≡ 3 + length f.name = ap lead (sym f.sized) ∙ lead_held f.name m in
          let q = inner at (at + lead z) (parts_at s z).contents in
          let x : inner at (at + (3 + length f.name)) m ≡ q = ap₂ (λ (n : ℕ) (r : List ℕ). inner at (at + n) r) (sym w) (sym c) in
          let b : FieldsTold (suc levels) at (octets o ++ f.rest) q = subst (FieldsTold (suc levels) at (octets o ++ f.rest)) x
          (below at f.name m f.rest f.good f.measured) in
          one_held levels at s z f q (λ i y. good at (at + (3 + length f.name)) m i (x ∙ y))
          (subst (λ (r : List ℕ). FieldsTold (suc levels) at r q) (sym f.divides) b)
          (fields_from inner fuel (at + total z) (drop (total z) s))
          (later (at + total z) (drop (total z) s) (shorter z o f.rest f.divides f.sized))

held_told : (levels at : ℕ) (name held s : List ℕ) → Name name → Counted held
    → FieldsTold (suc levels) at (octets (holder name held) ++ s) (message_from levels at (at + (3 + length name)) held)
unfolding message_from FieldsTold
held_told zero at name held s good c = (0, too_deep name held s (counted_holds name held good c), omega arith)
held_told (suc levels) at name held s good c =
    go (eqb (header_fault held) 0) refl
    (fields_told levels (message_from levels) (accepted_good levels) (held_told levels) (suc (length held)) (at + (3 + length name) + 8) (drop 8 held) shorter)
  where
    shorter : length (drop 8 held) < suc (length held)
    shorter = let d = length-drop 8 held in omega arith

    r : Reading Fields
    r = fields_from (message_from levels) (suc (length held)) (at + (3 + length name) + 8) (drop 8 held)

    within : header_fault held ≡ 0 → (x : Reading Fields) → FieldsTold (suc levels) (at + (3 + length name) + 8) (drop 8 held) x
        → FieldsTold (suc (suc levels)) at (octets (holder name held) ++ s) x
    within e (accepted fs) t = tt
    within e (refused k p) t =
        let f = t.2 in (
          3 + length name + 8 + t.0,
          inside (suc levels) k t.0 name held (drop 8 held) s (omega arith) good (header_opens held (header_good held e)) t.1,
          omega arith,
        )

    go : (b : Bool) → eqb (header_fault held) 0 ≡ b → FieldsTold (suc levels) (at + (3 + length name) + 8) (drop 8 held) r
        → FieldsTold (suc (suc levels)) at (octets (holder name held) ++ s) (cond b r (refused (header_fault held) (at + (3 + length name))))
    go true e t = within (eqb-true (header_fault held) 0 e) r t
    go false e t = (
      3 + length name,
      header (suc levels) (header_fault held) name held s (omega arith) (counted_holds name held good c) (header_told held (eqb-false (header_fault held) 0 e)),
      refl,
    )

-- ---- the whole message

refused_by : (s : List ℕ) (k p : ℕ) → FirstFault s k p → reading s ≡ refused k p
unfolding reading
refused_by s k p (faults.too_long h) = rw (lt-ltb message_limit (length s) h)
refused_by s k p (faults.header j h w) = rw (le-ltb message_limit (length s) h) (wrong_message 7 0 0 s j w)
refused_by s k p (faults.fields j q rest h o f) =
    let d = opens_header s rest o in
    let l : length rest ≡ length s - 8 = sym (ap length d.1) ∙ length-drop 8 s in
    rw (le-ltb message_limit (length s) h)
    (open_message 7 0 0 s rest o ∙ fault_refused 8 rest j q f 7 (suc (length s)) (0 + 8) refl (omega arith))

Told : List ℕ → Reading Fields → Type 0
Told s (accepted fs) = Unit {0}
Told s (refused k p) = FirstFault s k p

reading_told : (s : List ℕ) → Told s (reading s)
unfolding reading message_from Told FieldsTold
reading_told s = long (ltb message_limit (length s)) refl
  where
    r : Reading Fields
    r = fields_from (message_from 7) (suc (length s)) (0 + 8) (drop 8 s)

    within : length s ≤ message_limit → header_fault s ≡ 0 → (x : Reading Fields) → FieldsTold 8 (0 + 8) (drop 8 s) x → Told s x
    within h e (accepted fs) t = tt
    within h e (refused k p) t =
        subst (FirstFault s k) (sym t.2) (faults.fields k t.0 (drop 8 s) h (header_opens s (header_good s e)) t.1)

    opened : length s ≤ message_limit → (b : Bool) → eqb (header_fault s) 0 ≡ b → Told s (cond b r (refused (header_fault s) 0))
    opened h true e =
        let d = length-drop 8 s in
        within h (eqb-true (header_fault s) 0 e) r
        (fields_told 7 (message_from 7) (accepted_good 7) (held_told 7) (suc (length s)) (0 + 8) (drop 8 s) (omega arith))
    opened h false e = faults.header (header_fault s) h (header_told s (eqb-false (header_fault s) 0 e))

    long : (b : Bool) → ltb message_limit (length s) ≡ b → Told s (cond b (refused 1 0) (cond (eqb (header_fault s) 0) r (refused (header_fault s) 0)))
    long true e = faults.too_long (ltb-true message_limit (length s) e)
    long false e = opened (ltb-false message_limit (length s) e) (eqb (header_fault s) 0) refl

-- A message is refused with a number at a place exactly where its first fault has that number and that place.
pub refused_exactly : (s : List ℕ) (k p : ℕ) → (reading s ≡ refused k p) ↔ FirstFault s k p
unfolding Told
refused_exactly s k p = (λ e. subst (Told s) e (reading_told s), refused_by s k p)

-- It has at most one,
pub first_fault_unique : (s : List ℕ) (k p j q : ℕ) → FirstFault s k p → FirstFault s j q → (k ≡ j) × (p ≡ q)
first_fault_unique s = reading-laws.fault_unique (reading s) (FirstFault s) (refused_exactly s)

-- and one exactly where it is not whole.
pub fault_exactly : (s : List ℕ) → ((k : ℕ) × (p : ℕ) × FirstFault s k p) ↔ (((fs : Fields) × Whole s fs) → ⊥)
fault_exactly s = reading-laws.fault_exactly (reading s) (FirstFault s) (refused_exactly s) (Whole s) (accepted_exactly s)
