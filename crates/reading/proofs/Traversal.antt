-- The loop invariant of every traversal of a message's fields, and what each turn of the loop does to it.
use Prim.Native.Nat.{ℕ, suc, ◌+◌, ◌-◌, ◌≤◌, ◌<◌, max}
use native.Mathlib.Omega.{arith}
use mathlib.Core.Path.{◌≡◌, sym, ap, ap₂, ◌∙◌, subst}
use mathlib.Core.List.{List}
use lib.ListN.{length, drop, length-drop}
use lib.Seq.{drop-drop}
use Rattle.reading.specs.internal.Verdicts.{Verdict}
use Rattle.reading.specs.internal.Verdicts.{Accepted, Refused}
use Rattle.reading.specs.Reading.{Reading, accepted, refused, on_accepted, in_order}
use Rattle.reading.specs.internal.Verdicts.{verdict_of}
use Rattle.reading.proofs.Adding.{after, after_after, after_none, verdict_over, verdict_into, verdict_refused}

-- A division has a count of fields and a depth. `from` reads the fields at the front of octets. It depends on what is known of the fields before
-- them (of type B), on its fuel, which bounds the fields that it looks at, and on the offset of the octets. The message s begins at offset `at`;
-- its first field begins `first` octets later, and `none` is what is known before it.
module _ {A B : Type 0} (fields depth : A → ℕ) (from : B → ℕ → ℕ → List ℕ → Reading A) (none : B) (at first : ℕ) (s : List ℕ) where
  -- The verdict of the fields after i octets.
  abbrev rest : B → ℕ → ℕ → Verdict
  rest before fuel i = verdict_of fields depth (from before fuel (at + i) (drop i s))

  abbrev pub whole : Verdict
  whole = rest none (suc (length s)) first

  -- The loop invariant: after i octets, with f fields so far of depth d, the verdict of the rest decides.
  pub record Traversal (before : B) (i f d : ℕ) : Type 0 where
    pub fuel : ℕ
    pub inside : i ≤ length s
    pub enough : length s < i + fuel
    pub few : f ≤ i
    pub deep : 1 ≤ d
    pub same : whole ≡ after f d (rest before fuel i)

  pub start : ((x : A) → 1 ≤ depth x) → first ≤ length s → Traversal none first 0 1
  start deep h =
      record {
        fuel = suc (length s);
        inside = h;
        enough = omega arith;
        few = omega arith;
        deep = omega arith;
        same = sym (after_none fields depth deep (from none (suc (length s)) (at + first) (drop first s)));
      }

  module _ (before : B) (i f d : ℕ) (now : Traversal before i f d) where
    -- There is still fuel, so the field after i octets is read.
    abbrev pub here : Reading A
    here = from before (suc (now.fuel - 1)) (at + i) (drop i s)

    looked : whole ≡ after f d (verdict_of fields depth here)
    looked =
        let a = now.inside in
        let b = now.enough in
        let e : now.fuel ≡ suc (now.fuel - 1) = omega arith in
        now.same ∙ ap (λ (fuel : ℕ). after f d (rest before fuel i)) e

    pub at_end : (x : A) → fields x ≡ 0 → depth x ≡ 1 → here ≡ accepted x → Accepted f d ≡ whole
    unfolding verdict_of after
    at_end x none flat e = let h = now.deep in sym (looked ∙ rw e (ap₂ Accepted (omega arith) (omega arith)))

    pub at_fault : (k p : ℕ) → here ≡ refused k p → Refused k p ≡ whole
    unfolding verdict_of after
    at_fault k p e = sym (looked ∙ rw e)

    pub at_nested_fault : (h : A → A → A) (q r : Reading A) (w : Verdict) (k p : ℕ) → here ≡ in_order h q r → w ≡ verdict_of fields depth q
        → w ≡ Refused k p → Refused k p ≡ whole
    unfolding after
    at_nested_fault h q r w k p e v a = sym (looked ∙ rw (e, verdict_refused fields depth h q k p r (sym v ∙ a)))

    -- The field takes t octets, and the next begins after j.
    module _ (t j : ℕ) (takes : 1 ≤ t) (fits : t ≤ length (drop i s)) (place : j ≡ i + t) where
      pub forward : (i < j) × (j ≤ length s)
      forward = let l = length-drop i s in let w = now.inside in (omega arith, omega arith)

      -- The fields that follow it, with what is known before them and their offset as the reader has it.
      module _ (known : B) (offset : ℕ) (moved : offset ≡ at + j) where
        abbrev pub following : Reading A
        following = from known (now.fuel - 1) offset (drop t (drop i s))

        -- The field adds g fields of depth e.
        stepped : (g e : ℕ) → g ≤ t → verdict_of fields depth here ≡ after g e (verdict_of fields depth following) → Traversal known j (f + g) (max d e)
        stepped g e b same =
            let u = now.enough in
            let v = now.few in
            let x = now.deep in
            let l = forward.1 in
            record {
              fuel = now.fuel - 1;
              inside = l;
              enough = omega arith;
              few = omega arith;
              deep = omega arith;
              same =
                  looked
                  ∙ ap (after f d) same
                  ∙ after_after f d g e (verdict_of fields depth following)
                  ∙ rw (moved, drop-drop t i s, place);
            }

        -- The field holds no message.
        pub over : (h : A → A) → ((x : A) → fields (h x) ≡ 1 + fields x) → ((x : A) → depth (h x) ≡ depth x)
            → here ≡ on_accepted h following → Traversal known j (f + 1) d
        over h counted flat e =
            let m : max d 0 ≡ d = omega arith in
            subst (Traversal known j (f + 1)) m
            (stepped 1 0 takes (ap (verdict_of fields depth) e ∙ verdict_over fields depth h counted flat following))

        -- The field holds a message with g fields, of depth e.
        pub into : (h : A → A → A) → ((x y : A) → fields (h x y) ≡ 1 + fields x + fields y)
            → ((x y : A) → depth (h x y) ≡ max (suc (depth x)) (depth y)) → (q : Reading A) (w : Verdict) (g e m : ℕ)
            → here ≡ in_order h q following → w ≡ verdict_of fields depth q → w ≡ Accepted g e → 1 + g ≤ t → m ≡ max d (e + 1)
            → Traversal known j (f + (1 + g)) m
        into h counted deeper q w g e m k v a b n =
            let c : max d (suc e) ≡ m = sym (n ∙ omega arith) in
            subst (Traversal known j (f + (1 + g))) c
            (stepped (1 + g) (suc e) b (ap (verdict_of fields depth) k ∙ verdict_into fields depth h counted deeper q g e following (sym v ∙ a)))
