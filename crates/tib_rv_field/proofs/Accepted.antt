-- A message is accepted by the reading exactly when it is a whole message, with the same division, and it has one division.
use Prim.Native.Nat.{ℕ, zero, suc, ◌+◌, ◌≤◌, ◌<◌}
use native.Mathlib.Omega.{arith}
use mathlib.Core.Path.{◌≡◌, refl, sym, ap, ap₂, ◌∙◌, subst}
use mathlib.Core.Bool.{true, cond, not}
use mathlib.Core.List.{List, ◌∷◌, ◌++◌}
use mathlib.Core.Logic.{◌↔◌}
use lib.ListN.{length, take, drop, length-append, length-drop, take-append-drop}
use lib.Seq.{take_at, drop_at, length-take-le, drop-drop}
use lib.Dec.{eqb, ltb}
use borrow.Author.Tests.{ltb-false, le-ltb, eqb-true, eq-eqb, not-false}
use Rattle.octets.specs.Number.{big_endian}
use Rattle.reading.specs.Reading.{Reading, accepted, refused, on_accepted, in_order, message_limit}
use Rattle.tib_field.specs.Mark.{begins}
use Rattle.tib_field.proofs.Marks.{mark_begins, begins_mark}
use Rattle.tib_field.proofs.Choices.{passes, fails}
use Rattle.tib_field.proofs.ReadingLaws.{not_accepted}
use Rattle.tib_rv_field.specs.declared.Sizes.{Sizes}
use Rattle.tib_rv_field.specs.Layout.{Parts, octets, holder, magic, Fields, end, leaf, nested, joined, message, depth, Header, Allowed, Whole}
use Rattle.tib_rv_field.specs.Reading.{Step, Done, Fault, Over, Into, next_field, lead, total, parts_at, Inner, nested_of, after_step, fields_from, header_fault, message_from, reading}
use Rattle.tib_rv_field.specs.internal.Sizes.{sizes}
use Rattle.tib_rv_field.proofs.Steps.{Found, Held, Counted, step_found, step_holder, step_of_leaf, step_of_held, step_of_end, parts_of_field, rest_of_field}
use Rattle.tib_rv_field.proofs.WrongFields.{step_done}

-- Octets that are allowed fields joined, in a message that may be `levels` messages deep.
pub record Good (levels : ℕ) (s : List ℕ) (fs : Fields) : Type 0 where
  pub divides : s ≡ joined fs
  pub allowed : Allowed fs
  pub shallow : depth fs ≤ levels

-- A message of these fields. Its first four octets are its size.
pub record GoodMessage (levels : ℕ) (s : List ℕ) (fs : Fields) : Type 0 where
  pub divides : s ≡ message (take 4 s) fs
  pub header : Header (take 4 s) fs
  pub fields : Good levels (joined fs) fs

-- The parts and the rest that a step's sizes name.
pub leaf_parts : (s : List ℕ) (z : Sizes) (f : Found s z) → (parts_at s z ≡ f.field) × (drop (total z) s ≡ f.rest)
leaf_parts s z f =
    let p : parts_at (octets f.field ++ f.rest) (sizes f.field) ≡ f.field = parts_of_field f.field f.rest in
    let q : drop (total (sizes f.field)) (octets f.field ++ f.rest) ≡ f.rest = rest_of_field f.field f.rest in (
      ap₂ parts_at f.divides (sym f.sized) ∙ p,
      ap₂ (λ (n : ℕ) (r : List ℕ). drop n r) (ap total (sym f.sized)) f.divides ∙ q,
    )

pub held_parts : (s : List ℕ) (z : Sizes) (f : Held s z) → (parts_at s z ≡ holder f.name f.octets_held) × (drop (total z) s ≡ f.rest)
held_parts s z f =
    let h = holder f.name f.octets_held in (
      ap₂ parts_at f.divides (sym f.sized) ∙ parts_of_field h f.rest,
      ap₂ (λ (n : ℕ) (r : List ℕ). drop n r) (ap total (sym f.sized)) f.divides ∙ rest_of_field h f.rest,
    )

module _ (levels : ℕ) (s : List ℕ) (z : Sizes) (rest : Fields) where
  one_leaf : Found s z → Good (suc levels) (drop (total z) s) rest → Good (suc levels) s (leaf (parts_at s z) rest)
  unfolding joined Allowed depth
  one_leaf f g =
      let p = leaf_parts s z f in
      rw p.0
      (record {
        divides = f.divides ∙ ap (λ (r : List ℕ). octets f.field ++ r) (sym p.1 ∙ g.divides);
        allowed = (f.allowed, g.allowed);
        shallow = g.shallow;
      })

  one_held : (inside : Fields) → Held s z → GoodMessage levels (parts_at s z).contents inside → Good (suc levels) (drop (total z) s) rest
      → Good (suc levels) s (nested_of (parts_at s z) inside rest)
  unfolding joined Allowed depth nested_of message
  one_held inside f i g =
      let p = held_parts s z f in
      let m = f.octets_held in
      let j : GoodMessage levels m inside = subst (λ (x : Parts). GoodMessage levels x.contents inside) p.0 i in
      let a = j.fields.shallow in
      let b = g.shallow in
      rw p.0
      (record {
        divides =
            f.divides
            ∙ ap₂ (λ (x y : List ℕ). octets (holder f.name x) ++ y) j.divides (sym p.1 ∙ g.divides);
        allowed = ((f.good, j.header, j.fields.allowed), g.allowed);
        shallow = omega arith;
      })

-- Where nested messages are accepted only if they are good, so are the fields of a message.
module _ (levels : ℕ) (inner : Inner)
    (below : (field at : ℕ) (m : List ℕ) (fs : Fields) → inner field at m ≡ accepted fs → GoodMessage levels m fs) where
  after_good : (next : ℕ → List ℕ → Reading Fields) → ((at : ℕ) (r : List ℕ) (fs : Fields) → next at r ≡ accepted fs → Good (suc levels) r fs)
      → (at : ℕ) (s : List ℕ) (fs : Fields) (p : Step) → next_field s ≡ p → after_step inner next at s p ≡ accepted fs → Good (suc levels) s fs
  unfolding after_step on_accepted in_order joined Allowed depth
  after_good next later at s fs Done h e =
      let k : end ≡ fs = cc in
      let g : Good (suc levels) s end = record { divides = step_done s h; allowed = tt; shallow = omega arith } in
      subst (Good (suc levels) s) k g
  after_good next later at s fs (Fault number) h e = let z : ◌≡◌ {A = ℕ} 0 1 = cc in absurd (omega arith)
  after_good next later at s fs (Over z) h e = go (next (at + total z) (drop (total z) s)) refl e
    where
      go : (r : Reading Fields) → next (at + total z) (drop (total z) s) ≡ r → on_accepted (leaf (parts_at s z)) r ≡ accepted fs → Good (suc levels) s fs
      go (accepted rest) f g =
          subst (Good (suc levels) s) (cc) (one_leaf levels s z rest (step_found s z h) (later (at + total z) (drop (total z) s) rest f))
      go (refused number place) f g = let y : ◌≡◌ {A = ℕ} 0 1 = cc in absurd (omega arith)
  after_good next later at s fs (Into z) h e =
      go (inner at (at + lead z) (parts_at s z).contents) refl (next (at + total z) (drop (total z) s)) refl e
    where
      go : (q : Reading Fields) → inner at (at + lead z) (parts_at s z).contents ≡ q → (r : Reading Fields) → next (at + total z) (drop (total z) s) ≡ r
          → in_order (nested_of (parts_at s z)) q r ≡ accepted fs → Good (suc levels) s fs
      go (accepted inside) d (accepted rest) f g =
          subst (Good (suc levels) s) (cc)
          (one_held levels s z rest inside (step_holder s z h) (below at (at + lead z) (parts_at s z).contents inside d)
          (later (at + total z) (drop (total z) s) rest f))
      go (accepted inside) d (refused number place) f g = let y : ◌≡◌ {A = ℕ} 0 1 = cc in absurd (omega arith)
      go (refused number place) d r f g = let y : ◌≡◌ {A = ℕ} 0 1 = cc in absurd (omega arith)

  fields_good : (fuel at : ℕ) (s : List ℕ) (fs : Fields) → fields_from inner fuel at s ≡ accepted fs → Good (suc levels) s fs
  unfolding fields_from
  fields_good zero at s fs e = let z : ◌≡◌ {A = ℕ} 0 1 = cc in absurd (omega arith)
  fields_good (suc fuel) at s fs e = after_good (fields_from inner fuel) (fields_good fuel) at s fs (next_field s) refl e

-- What a header without fault has.
pub record GoodHeader (s : List ℕ) : Type 0 where
  pub whole : 8 ≤ length s
  pub marked : begins magic (drop 4 s) ≡ true
  pub counted : big_endian (take 4 s) ≡ length s

pub header_good : (s : List ℕ) → header_fault s ≡ 0 → GoodHeader s
unfolding header_fault
header_good s e =
    let n = length s in
    let m = begins magic (drop 4 s) in
    let c = eqb (big_endian (take 4 s)) n in
    let p = fails 0 (ltb n 8) 3 (cond (not m) 13 (cond (not c) 14 0)) (omega arith) e in
    let q = fails 0 (not m) 13 (cond (not c) 14 0) (omega arith) p.1 in
    let r = fails 0 (not c) 14 0 (omega arith) q.1 in
    record { whole = ltb-false n 8 p.0; marked = not-false m q.0; counted = eqb-true (big_endian (take 4 s)) n (not-false c r.0) }

pub good_header : (s : List ℕ) → GoodHeader s → header_fault s ≡ 0
unfolding header_fault
good_header s g =
    rw (le-ltb (length s) 8 g.whole, g.marked, eq-eqb (big_endian (take 4 s)) (length s) g.counted)

-- A header and the fields after it are a message.
one_message : (levels : ℕ) (s : List ℕ) (fs : Fields) → GoodHeader s → Good levels (drop 8 s) fs → GoodMessage levels s fs
unfolding message
one_message levels s fs h g =
    let w = h.whole in
    let l : length (take 4 s) ≡ 4 = length-take-le 4 s (omega arith) in
    let p : drop 4 s ≡ magic ++ joined fs
    = begins_mark magic (drop 4 s) h.marked ∙ ap (λ (r : List ℕ). magic ++ r) (drop-drop 4 4 s ∙ g.divides) in
    let d : s ≡ take 4 s ++ (magic ++ joined fs) = sym (take-append-drop 4 s) ∙ ap (λ (r : List ℕ). take 4 s ++ r) p in
    record {
      divides = d;
      header = record { width = l; counted = h.counted ∙ ap length d };
      fields = record { divides = refl; allowed = g.allowed; shallow = g.shallow };
    }

pub accepted_good : (levels field at : ℕ) (s : List ℕ) (fs : Fields) → message_from levels field at s ≡ accepted fs → GoodMessage levels s fs
unfolding message_from
accepted_good zero field at s fs e = let z : ◌≡◌ {A = ℕ} 0 1 = cc in absurd (omega arith)
accepted_good (suc levels) field at s fs e =
    let k = header_fault s in
    let p = passes (accepted fs) (eqb k 0) (fields_from (message_from levels) (suc (length s)) (at + 8) (drop 8 s)) (refused k at) (not_accepted k at fs) e in
    one_message (suc levels) s fs (header_good s (eqb-true k 0 p.0))
    (fields_good levels (message_from levels) (accepted_good levels) (suc (length s)) (at + 8) (drop 8 s) fs p.1)

-- A field takes two octets or more.
pub field_size : (f : Parts) → 2 ≤ length (octets f)
unfolding octets
field_size f = let l = length-append f.name (f.octet ∷ (f.size ++ f.contents)) in omega arith

-- The size octets of a message are its first four, and count it.
pub message_counted : (size : List ℕ) (fs : Fields) → Header size fs → Counted (message size fs) × (take 4 (message size fs) ≡ size)
unfolding message
message_counted size fs h =
    let t : take 4 (message size fs) ≡ size = take_at size (magic ++ joined fs) 4 h.width in
    let l : length (message size fs) ≡ 4 + (4 + length (joined fs)) = rw (length-append, h.width) (omega arith) in
    (record { four = omega arith; same = ap big_endian t ∙ h.counted }, t)

-- Where good nested messages are accepted, so is a message of good fields.
module _ (levels : ℕ) (inner : Inner)
    (below : (field at : ℕ) (m : List ℕ) (fs : Fields) → GoodMessage levels m fs → inner field at m ≡ accepted fs) where
  fields_accepted : (fs : Fields) (fuel at : ℕ) → Allowed fs → depth fs ≤ suc levels → length (joined fs) < fuel
      → fields_from inner fuel at (joined fs) ≡ accepted fs
  unfolding fields_from after_step on_accepted in_order nested_of joined message Allowed depth
  fields_accepted end zero at a d h = absurd (omega arith)
  fields_accepted end (suc fuel) at a d h = rw step_of_end
  fields_accepted (leaf f rest) zero at a d h = absurd (omega arith)
  fields_accepted (leaf f rest) (suc fuel) at a d h =
      let k = field_size f in
      let l = length-append (octets f) (joined rest) in
      let r = fields_accepted rest fuel (at + total (sizes f)) a.1 d (omega arith) in
      rw (step_of_leaf f (joined rest) a.0, parts_of_field f (joined rest), rest_of_field f (joined rest), r)
  fields_accepted (nested name size inside rest) zero at a d h = absurd (omega arith)
  fields_accepted (nested name size inside rest) (suc fuel) at a d h =
      let m = message size inside in
      let f = holder name m in
      let c = message_counted size inside a.0.1 in
      let g : GoodMessage levels m inside
      = record {
        divides = ap (λ (x : List ℕ). message x inside) (sym c.1);
        header = subst (λ (x : List ℕ). Header x inside) (sym c.1) a.0.1;
        fields = record { divides = refl; allowed = a.0.2; shallow = omega arith };
      } in
      let k = field_size f in
      let l = length-append (octets f) (joined rest) in
      let r = fields_accepted rest fuel (at + total (sizes f)) a.1 (omega arith) (omega arith) in
      rw (
        step_of_held name m (joined rest) a.0.0 c.0,
        parts_of_field f (joined rest),
        rest_of_field f (joined rest),
        below at (at + lead (sizes f)) m inside g,
        r,
        c.1,
      )

pub depth_positive : (fs : Fields) → 1 ≤ depth fs
unfolding depth
depth_positive end = omega arith
depth_positive (leaf f rest) = depth_positive rest
depth_positive (nested name size inside rest) = omega arith

pub message_parts : (levels : ℕ) (s : List ℕ) (fs : Fields) → GoodMessage levels s fs → GoodHeader s × (drop 8 s ≡ joined fs)
unfolding message
message_parts levels s fs g =
    let w = g.header.width in
    let p : drop 4 s ≡ magic ++ joined fs = ap (drop 4) g.divides ∙ drop_at (take 4 s) (magic ++ joined fs) 4 w in
    let l = ap length p in
    let m = length-drop 4 s in (
      record {
        whole = omega arith;
        marked = ap (begins magic) p ∙ mark_begins magic (joined fs);
        counted = g.header.counted ∙ ap length (sym g.divides);
      },
      sym (drop-drop 4 4 s) ∙ ap (drop 4) p,
    )

pub good_accepted : (levels field at : ℕ) (s : List ℕ) (fs : Fields) → GoodMessage levels s fs → message_from levels field at s ≡ accepted fs
unfolding message_from
good_accepted zero field at s fs g = let h = depth_positive fs in let k = g.fields.shallow in absurd (omega arith)
good_accepted (suc levels) field at s fs g =
    let p = message_parts (suc levels) s fs g in
    let l = length-drop 8 s in
    let m = ap length p.1 in
    let h = p.0.whole in
    rw (good_header s p.0, p.1)
    (fields_accepted levels (message_from levels) (good_accepted levels) fs (suc (length s)) (at + 8) g.fields.allowed g.fields.shallow (omega arith))

whole_good : (s : List ℕ) (fs : Fields) → Whole s fs → GoodMessage 8 s fs
unfolding message
whole_good s fs w =
    let t : take 4 s ≡ w.size = ap (take 4) w.divides ∙ take_at w.size (magic ++ joined fs) 4 w.header.width in
    record {
      divides = w.divides ∙ ap (λ (x : List ℕ). message x fs) (sym t);
      header = subst (λ (x : List ℕ). Header x fs) (sym t) w.header;
      fields = record { divides = refl; allowed = w.allowed; shallow = w.shallow };
    }

pub accepted_message : (s : List ℕ) (fs : Fields) → reading s ≡ accepted fs → (length s ≤ message_limit) × GoodMessage 8 s fs
unfolding reading
accepted_message s fs e =
    let p = fails (accepted fs) (ltb message_limit (length s)) (refused 1 0) (message_from 8 0 0 s) (not_accepted 1 0 fs) e in
    (ltb-false message_limit (length s) p.0, accepted_good 8 0 0 s fs p.1)

pub accepted_whole : (s : List ℕ) (fs : Fields) → reading s ≡ accepted fs → Whole s fs
accepted_whole s fs e =
    let g = accepted_message s fs e in
    record {
      size = take 4 s;
      divides = g.1.divides;
      header = g.1.header;
      allowed = g.1.fields.allowed;
      shallow = g.1.fields.shallow;
      within_limit = g.0;
    }

pub whole_accepted : (s : List ℕ) (fs : Fields) → Whole s fs → reading s ≡ accepted fs
unfolding reading
whole_accepted s fs w = rw (le-ltb (message_limit) (length s) w.within_limit) (good_accepted 8 0 0 s fs (whole_good s fs w))

-- The reading accepts a message with a division exactly where the message is whole and that is its division.
pub accepted_exactly : (s : List ℕ) (fs : Fields) → (reading s ≡ accepted fs) ↔ Whole s fs
accepted_exactly s fs = (accepted_whole s fs, whole_accepted s fs)

-- A message has one division at most.
pub division_unique : (s : List ℕ) (fs gs : Fields) → Whole s fs → Whole s gs → fs ≡ gs
division_unique s fs gs a b =
    let p = whole_accepted s fs a in
    let q = whole_accepted s gs b in
    cc
