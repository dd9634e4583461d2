-- Messages of the formats TibMsg and QForm: accepted exactly if they are whole, with the same division, of which there is one at most; refused
-- exactly with their first fault. A format need only say what one step of its reader does.
use Prim.Native.Nat.{ℕ, suc, ◌+◌, ◌-◌, ◌≤◌, ◌<◌}
use native.Mathlib.Omega.{arith}
use mathlib.Core.Path.{◌≡◌, refl, sym, ap, ◌∙◌, subst}
use mathlib.Core.Bool.{Bool, true, false, cond, not}
use mathlib.Core.List.{List, [], ◌∷◌, ◌++◌}
use mathlib.Core.Logic.{◌↔◌}
use lib.ListN.{length, take, drop, length-append, length-drop, take-append-drop}
use lib.Seq.{take_at, drop_at, length-take-le, drop-drop}
use lib.Dec.{eqb, ltb}
use borrow.Author.Tests.{ltb-true, ltb-false, lt-ltb, le-ltb, eqb-true, eqb-false, ne_eqb}
use Rattle.octets.specs.Number.{big_endian}
use Rattle.reading.specs.Reading.{Reading, accepted, refused, message_limit}
use Rattle.tib_field.specs.Mark.{begins}
use Rattle.tib_field.specs.Header.{header_octets, header_fault, after_header, reading_of}
use Rattle.tib_field.specs.Fields.{Each, EachAfter, joined}
use Rattle.tib_field.specs.Whole.{WholeMessage}
use Rattle.tib_field.specs.FirstFault.{FirstFault, too_long, header_cut, other_magic, other_size, field}
use Rattle.tib_field.proofs.Marks.{mark_begins, begins_mark}
use Rattle.tib_field.proofs.Headers.{header_cut_lem, other_magic_lem, other_size_lem, good_header}
use Rattle.tib_field.proofs.Fields.{Row}
use Rattle.tib_field.proofs.ReadingLaws as reading-laws
use Rattle.tib_field.proofs.Rows.{Steps, accepted_rows, refused_rows}

-- What holds of each field, whichever are before it.
each_after : {A : Type 0} (P : A → Type 0) (before fs : List A) → Each P fs → EachAfter (λ (b : List A). P) before fs
unfolding Each EachAfter
each_after P before [] a = tt
each_after P before (f ∷ fs) a = (a.0, each_after P (before ++ (f ∷ [])) fs a.1)

after_each : {A : Type 0} (P : A → Type 0) (before fs : List A) → EachAfter (λ (b : List A). P) before fs → Each P fs
unfolding Each EachAfter
after_each P before [] a = tt
after_each P before (f ∷ fs) a = (a.0, after_each P (before ++ (f ∷ [])) fs a.1)

-- ---- the header

module _ (magic : List ℕ) where
  -- A good header: the magic number, a size of four octets, and as many octets as it says.
  pub record Headed (s size rest : List ℕ) : Type 0 where
    pub divides : s ≡ magic ++ (size ++ rest)
    pub width : length size ≡ 4
    pub counted : big_endian size ≡ length rest

  -- Its parts, by their places.
  module _ (s size rest : List ℕ) (d : s ≡ magic ++ (size ++ rest)) (w : length size ≡ 4) where
    whole_length : length s ≡ length magic + 4 + length rest
    whole_length = let a = ap length d ∙ length-append magic (size ++ rest) in let b = length-append size rest in omega arith

    after_magic : drop (length magic) s ≡ size ++ rest
    after_magic = ap (drop (length magic)) d ∙ drop_at magic (size ++ rest) (length magic) refl

    size_is : take 4 (drop (length magic) s) ≡ size
    size_is = ap (take 4) after_magic ∙ take_at size rest 4 w

    pub rest_is : drop (header_octets magic) s ≡ rest
    unfolding header_octets
    rest_is =
        sym (drop-drop 4 (length magic) s) ∙ ap (drop 4) after_magic ∙ drop_at size rest 4 w

    begins_so : begins magic s ≡ true
    begins_so = ap (begins magic) d ∙ mark_begins magic (size ++ rest)

  headed_good : (s size rest : List ℕ) → Headed s size rest → header_fault magic s ≡ 0
  headed_good s size rest h =
      let l = whole_length s size rest h.divides h.width in
      let c : big_endian (take 4 (drop (length magic) s)) ≡ length s - (length magic + 4)
      = ap big_endian (size_is s size rest h.divides h.width) ∙ h.counted ∙ omega arith in
      sym (good_header magic s (omega arith) (begins_so s size rest h.divides h.width) c)

  -- What the tests of a header tell of the octets.
  module _ (s : List ℕ) where
    abbrev n : ℕ
    n = length magic

    abbrev size : List ℕ
    size = take 4 (drop n s)

    module _ (inside : n + 4 ≤ length s) where
      wide : length size ≡ 4
      wide = length-take-le 4 (drop n s) (rw length-drop (omega arith))

      rest_length : length (drop (n + 4) s) ≡ length s - (n + 4)
      rest_length = length-drop (n + 4) s

      parted : begins magic s ≡ true → s ≡ magic ++ (size ++ drop (n + 4) s)
      parted marked =
          begins_mark magic s marked
          ∙ ap (λ (r : List ℕ). magic ++ r) (sym (ap (λ (r : List ℕ). size ++ r) (sym (drop-drop 4 n s)) ∙ take-append-drop 4 (drop n s)))

      pub headed : begins magic s ≡ true → big_endian size ≡ length s - (n + 4) → Headed s size (drop (n + 4) s)
      headed marked e = record { divides = parted marked; width = wide; counted = e ∙ sym rest_length }

  -- ---- the message

  module _ {A : Type 0} (octets : A → List ℕ) (Allowed : A → Type 0) (WrongField : ℕ → List ℕ → Type 0) (from : ℕ → ℕ → List ℕ → Reading (List A))
      (steps : Steps octets (λ (b : List A). Allowed) (λ (b : List A). WrongField) (λ (s : List ℕ). Unit {0}) (λ (b : List A). from)) where
    abbrev Faulty : List ℕ → ℕ → ℕ → Type 0
    Faulty s k p = FirstFault magic octets Allowed WrongField s k p

    module _ (s : List ℕ) where
      abbrev pub reading : Reading (List A)
      reading = reading_of magic (from (suc (length s))) s

      -- The fields after the header.
      inside : Reading (List A)
      inside = from (suc (length s)) (n s + 4) (drop (n s + 4) s)

      -- A test of the header, and what it tells.
      data Tests : ℕ → Type 0 where
        good : (size rest : List ℕ) → Headed s size rest → Tests 0
        bad : (k : ℕ) → 0 < k → (length s ≤ message_limit → Faulty s k 0) → Tests k

      tests : Tests (header_fault magic s)
      unfolding header_fault header_octets
      tests = cut (ltb (length s) (n s + 4)) refl
        where
          sized : Bool
          sized = eqb (big_endian (size s)) (length s - (n s + 4))

          counted : n s + 4 ≤ length s → begins magic s ≡ true → (t : Bool) → sized ≡ t → Tests (cond (not t) 14 0)
          counted l m true e = good (size s) (drop (n s + 4) s) (headed s l m (eqb-true (big_endian (size s)) (length s - (n s + 4)) e))
          counted l m false e =
              bad 14 (omega arith)
              (λ h. other_size h (size s) (drop (n s + 4) s) (parted s l m) (wide s l)
              (λ q. eqb-false (big_endian (size s)) (length s - (n s + 4)) e (q ∙ rest_length s l)))

          marked : n s + 4 ≤ length s → (t : Bool) → begins magic s ≡ t → Tests (cond (not t) 13 (cond (not sized) 14 0))
          marked l true e = counted l e sized refl
          marked l false e =
              let d = length-drop (n s) s in
              bad 13 (omega arith)
              (λ h. other_magic h (take (n s) s) (drop (n s) s) (sym (take-append-drop (n s) s)) (length-take-le (n s) s (omega arith)) (omega arith)
              (λ q.
              let x : s ≡ magic ++ drop (n s) s = sym (take-append-drop (n s) s) ∙ ap (λ (r : List ℕ). r ++ drop (n s) s) q in
              let y : begins magic s ≡ true = ap (begins magic) x ∙ mark_begins magic (drop (n s) s) in
              let z : ◌≡◌ {A = ℕ} 0 1 = cc in
              absurd (omega arith)))

          cut : (t : Bool) → ltb (length s) (n s + 4) ≡ t → Tests (cond t 3 (cond (not (begins magic s)) 13 (cond (not sized) 14 0)))
          cut true e = bad 3 (omega arith) (λ h. header_cut h (ltb-true (length s) (n s + 4) e))
          cut false e = marked (ltb-false (length s) (n s + 4) e) (begins magic s) refl

      -- The reading of a message with a good header is that of its fields.
      headed_reading : (size rest : List ℕ) → length s ≤ message_limit → Headed s size rest → reading ≡ from (suc (length s)) (n s + 4) rest
      unfolding reading_of after_header header_octets
      headed_reading size rest h d =
          rw (le-ltb message_limit (length s) h, headed_good s size rest d) (ap (from (suc (length s)) (n s + 4)) (rest_is s size rest d.divides d.width))

      -- A division is whole, or there is a first fault.
      Told : Reading (List A) → Type 0
      Told (accepted fs) = WholeMessage magic octets Allowed s fs
      Told (refused k p) = Faulty s k p

      fields_told : (size rest : List ℕ) → length s ≤ message_limit → Headed s size rest → (r : Reading (List A)) → reading ≡ r → Told r
      unfolding Told
      fields_told size rest h d (accepted fs) e =
          let l = whole_length s size rest d.divides d.width in
          let r = (accepted_rows octets _ _ _ _ steps [] (suc (length s)) (n s + 4) rest fs tt (omega arith)).0 (sym (headed_reading size rest h d) ∙ e) in
          record {
            size = size;
            divides = d.divides ∙ ap (λ (x : List ℕ). magic ++ (size ++ x)) r.divides;
            width = d.width;
            counted = d.counted ∙ ap length r.divides;
            allowed = after_each Allowed [] fs r.each;
            within_limit = h;
          }
      fields_told size rest h d (refused k p) e =
          let l = whole_length s size rest d.divides d.width in
          let r = (refused_rows octets _ _ _ _ steps [] (suc (length s)) (n s + 4) rest k p tt (omega arith)).0 (sym (headed_reading size rest h d) ∙ e) in
          subst (Faulty s k) (sym r.place)
          (field h k size r.fields r.rest (d.divides ∙ ap (λ (x : List ℕ). magic ++ (size ++ x)) r.divides) d.width (d.counted ∙ ap length r.divides) (after_each Allowed [] r.fields r.each) r.wrong)

      told : Told reading
      unfolding Told reading_of after_header
      told = long (ltb message_limit (length s)) refl
        where
          short : length s ≤ message_limit → Told reading
          short h = go (header_fault magic s) refl tests
            where
              go : (k : ℕ) → header_fault magic s ≡ k → Tests k → Told reading
              go k e (good size rest d) = fields_told size rest h d reading refl
              go k e (bad j p f) = rw (le-ltb message_limit (length s) h, e, ne_eqb j 0 (omega arith)) (f h)

          long : (t : Bool) → ltb message_limit (length s) ≡ t → Told reading
          long true e = rw e (too_long (ltb-true message_limit (length s) e))
          long false e = short (ltb-false message_limit (length s) e)

      whole_accepted : (fs : List A) → WholeMessage magic octets Allowed s fs → reading ≡ accepted fs
      whole_accepted fs w =
          let rest = joined octets fs in
          let d : Headed s w.size rest = record { divides = w.divides; width = w.width; counted = w.counted } in
          let l = whole_length s w.size rest w.divides w.width in
          headed_reading w.size rest w.within_limit d
          ∙ (accepted_rows octets _ _ _ _ steps [] (suc (length s)) (n s + 4) rest fs tt (omega arith)).1
          (record { divides = refl; each = each_after Allowed [] fs w.allowed })

      fault_refused : (k p : ℕ) → Faulty s k p → reading ≡ refused k p
      unfolding reading_of after_header header_octets
      fault_refused k p (too_long h) = rw (lt-ltb message_limit (length s) h)
      fault_refused k p (header_cut h l) = rw (le-ltb message_limit (length s) h, ← header_cut_lem magic s l)
      fault_refused k p (other_magic h mark rest e m l d) =
          let x = ap length e ∙ length-append mark rest in
          rw (le-ltb message_limit (length s) h, ← other_magic_lem magic s (omega arith) (differs (begins magic s) refl))
        where
          differs : (t : Bool) → begins magic s ≡ t → begins magic s ≡ false
          differs false f = f
          differs true f =
              absurd (d (sym (take_at mark rest (n s) m) ∙ ap (take (n s)) (sym e ∙ begins_mark magic s f) ∙ take_at magic (drop (n s) s) (n s) refl))
      fault_refused k p (other_size h size rest e m d) =
          let x = whole_length s size rest e m in
          let b = size_is s size rest e m in
          let c : length s - (n s + 4) ≡ length rest = omega arith in
          rw (le-ltb message_limit (length s) h, ← other_size_lem magic s (omega arith) (begins_so s size rest e m) (λ q. d (ap big_endian (sym b) ∙ q ∙ c)))
      fault_refused k p (field h j size fs rest e m c a w) =
          let r = joined octets fs ++ rest in
          let d : Headed s size r = record { divides = e; width = m; counted = c } in
          let x = whole_length s size r e m in
          headed_reading size r h d
          ∙ (refused_rows octets _ _ _ _ steps [] (suc (length s)) (n s + 4) r j p tt (omega arith)).1
          (record { fields = fs; rest = rest; divides = refl; each = each_after Allowed [] fs a; wrong = w; place = refl })

      -- The reading accepts a message with a division exactly if the message is whole and that is its division.
      pub accepted_exactly : (fs : List A) → (reading ≡ accepted fs) ↔ WholeMessage magic octets Allowed s fs
      unfolding Told
      accepted_exactly fs = (λ e. subst Told e told, whole_accepted fs)

      -- A message has one division at most.
      pub division_unique : (fs gs : List A) → WholeMessage magic octets Allowed s fs → WholeMessage magic octets Allowed s gs → fs ≡ gs
      division_unique fs gs a b =
          let p = whole_accepted fs a in
          let q = whole_accepted gs b in
          cc

      -- A message is refused with a number at a place exactly if its first fault has that number and that place.
      pub refused_exactly : (k p : ℕ) → (reading ≡ refused k p) ↔ Faulty s k p
      unfolding Told
      refused_exactly k p = (λ e. subst Told e told, fault_refused k p)

      -- It has at most one,
      pub first_fault_unique : (k p j q : ℕ) → Faulty s k p → Faulty s j q → (k ≡ j) × (p ≡ q)
      first_fault_unique = reading-laws.fault_unique reading (Faulty s) refused_exactly

      -- and one exactly if it is not whole.
      pub fault_exactly : ((k : ℕ) × (p : ℕ) × Faulty s k p) ↔ (((fs : List A) × WholeMessage magic octets Allowed s fs) → ⊥)
      fault_exactly = reading-laws.fault_exactly reading (Faulty s) refused_exactly (WholeMessage magic octets Allowed s) accepted_exactly

      -- A refusal's number is never 0, where that of no wrong field is.
      pub refusal_positive : ((j : ℕ) (r : List ℕ) → WrongField j r → 0 < j) → (k p : ℕ) → reading ≡ refused k p → 0 < k
      refusal_positive positive k p e = go k p ((refused_exactly k p).0 e)
        where
          go : (j q : ℕ) → Faulty s j q → 0 < j
          go j q (too_long h) = omega arith
          go j q (header_cut h l) = omega arith
          go j q (other_magic h mark rest d w l n) = omega arith
          go j q (other_size h size rest d w n) = omega arith
          go j q (field h i size fs rest d w n a f) = positive i rest f

      -- The fields of a message that is accepted stand after its header.
      pub record Tested (fs : List A) : Type 0 where
        pub header : length magic + 4 ≤ length s
        pub fields : Row octets Allowed (drop (length magic + 4) s) fs

      pub accepted_tested : (fs : List A) → reading ≡ accepted fs → Tested fs
      unfolding Told header_octets
      accepted_tested fs e =
          let w : WholeMessage magic octets Allowed s fs = subst Told e told in
          let l = whole_length s w.size (joined octets fs) w.divides w.width in
          record {
            header = omega arith;
            fields = record { divides = rest_is s w.size (joined octets fs) w.divides w.width; each = w.allowed };
          }
