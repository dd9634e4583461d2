-- The loader accepts exactly dictionaries, with their entries, and refuses exactly faulty ones, at their first faulty record. There is at most one
-- such place, and octets are a dictionary or a faulty one, never both.
use Prim.Native.Nat.{ℕ, suc, ◌+◌, ◌≤◌}
use native.Mathlib.Omega.{arith}
use mathlib.Core.Path.{◌≡◌, refl, sym, ap, subst, ◌∙◌}
use mathlib.Core.Logic.{◌↔◌, ◌⊎◌, inl, inr}
use mathlib.Core.Bool.{Bool, true, false, not, ◌&&◌, true≢false}
use mathlib.Core.List.{List, [], ◌∷◌, ◌++◌}
use lib.ListN.{length, drop}
use lib.Dec.{eqb, ltb}
use borrow.Author.Tests.{eqb-true, eqb-false, ltb-true, lt-ltb, not-true}
use Rattle.octets.specs.Number.{Octets}
use Rattle.octets.proofs.Bools.{and_left, and_right}
use Rattle.octets.proofs.Number.{octets_after}
use Rattle.octets.proofs.Slices.{length_zero}
use Rattle.reading.specs.Reading.{Reading, accepted, refused, on_accepted}
use Rattle.reading.specs.Refusals as refusals
use Rattle.tib_field.specs.Fields.{joined}
use Rattle.tib_field.proofs.ReadingLaws.{not_accepted}
use Rattle.tib_field.proofs.Rows as rows
use Rattle.tib_dictionary.specs.Entry.{in_range, has}
use Rattle.tib_dictionary.specs.Load.{formed, entry_of, continues, load_from, loading}
use Rattle.tib_dictionary.specs.Records.{record_of, Continues, IsDictionary, FaultyDictionary}
use Rattle.tib_dictionary.specs.declared.Entry.{Entry}
use Rattle.tib_dictionary.proofs.LoadSteps.{load_end, load_fault, load_over}
use Rattle.tib_dictionary.proofs.EntryRecords.{record_length, record_rest, record_formed, record_entry, formed_record}

-- ---- one record

module _ (es : List Entry) (e : Entry) where
  continues_is : Continues es e → continues es e ≡ true
  unfolding continues
  continues_is c = rw (c.in_range, c.new, lt-ltb (length es) 512 c.few) refl

  is_continues : continues es e ≡ true → Continues es e
  unfolding continues
  is_continues h =
      let front = and_left (in_range e && not (has es e.fid)) (ltb (length es) 512) h in
      record {
        in_range = and_left (in_range e) (not (has es e.fid)) front;
        new = not-true (has es e.fid) (and_right (in_range e) (not (has es e.fid)) front);
        few = ltb-true (length es) 512 (and_right (in_range e && not (has es e.fid)) (ltb (length es) 512) h);
      }

-- Whether octets begin with the record of an entry that is allowed after these.
abbrev goes : List Entry → List ℕ → Bool
goes es s = formed s && continues es (entry_of s)

goes_on : (es : List Entry) (e : Entry) (rest : List ℕ) → Continues es e → goes es (record_of e ++ rest) ≡ true
goes_on es e rest c = rw (record_formed e rest, record_entry e rest c.in_range) (continues_is es e c)

-- They do not.
abbrev Wrong : List Entry → ℕ → List ℕ → Type 0
Wrong es k s = (k ≡ refusals.table) × (1 ≤ length s) × (goes es s ≡ false)

steps : rows.Steps record_of Continues Wrong Octets load_from
steps =
    record {
      sized = λ e. omega (arith, record_length e);
      rest_fits = λ e rest o. octets_after (record_of e) rest o;
      front = λ es s o. front es s o (eqb (length s) 0) refl (goes es s) refl;
      at_end = λ es fuel at. load_end es fuel at [] refl;
      over = over;
      fault = λ es fuel at k s w. load_fault es fuel at s w.1 w.2 ∙ ap (λ (n : ℕ). refused n at) (sym w.0);
    }
  where
    front : (es : List Entry) (s : List ℕ) → Octets s → (b : Bool) → eqb (length s) 0 ≡ b → (t : Bool) → goes es s ≡ t → rows.Front record_of Continues Wrong Octets load_from es s
    front es s o true p t q = rows.ended (length_zero s (eqb-true (length s) 0 p))
    front es s o false p true q =
        rows.item (entry_of s) (drop 8 s) (is_continues es (entry_of s) (and_right (formed s) (continues es (entry_of s)) q)) (formed_record s o (and_left (formed s) (continues es (entry_of s)) q))
    front es s o false p false q = rows.wrong refusals.table (refl, omega (arith, eqb-false (length s) 0 p), q)

    over : (es : List Entry) (fuel at : ℕ) (e : Entry) (rest : List ℕ) → Continues es e
        → load_from es (suc fuel) at (record_of e ++ rest) ≡ on_accepted (λ (later : List Entry). e ∷ later) (load_from (es ++ (e ∷ [])) fuel (at + length (record_of e)) rest)
    over es fuel at e rest c =
        load_over es fuel at (record_of e ++ rest) (goes_on es e rest c) ∙ rw (record_entry e rest c.in_range, record_rest e rest, record_length e) refl

-- ---- the laws

module _ (s : List ℕ) (o : Octets s) where
  pub load_exactly : (es : List Entry) → (loading s ≡ accepted es) ↔ IsDictionary s es
  unfolding loading
  load_exactly es =
      let k = rows.accepted_rows record_of Continues Wrong Octets load_from steps [] (suc (length s)) 0 s es o (omega arith) in
      (λ e. let r = k.0 e in record { divides = r.divides; each = r.each }, λ d. k.1 (record { divides = d.divides; each = d.each }))

  refused_rows : (k p : ℕ) → (loading s ≡ refused k p) ↔ rows.RowFault record_of Continues Wrong Octets load_from [] 0 s k p
  unfolding loading
  refused_rows k p = rows.refused_rows record_of Continues Wrong Octets load_from steps [] (suc (length s)) 0 s k p o (omega arith)

  pub refused_always_2 : (k p : ℕ) → loading s ≡ refused k p → k ≡ 2
  refused_always_2 k p e = ((refused_rows k p).0 e).wrong.0

  pub refused_exactly : (p : ℕ) → (loading s ≡ refused 2 p) ↔ FaultyDictionary s p
  refused_exactly p = (λ e. faulty ((refused_rows 2 p).0 e), λ f. (refused_rows 2 p).1 (fault f))
    where
      faulty : rows.RowFault record_of Continues Wrong Octets load_from [] 0 s 2 p → FaultyDictionary s p
      faulty r =
          record {
            es = r.fields;
            rest = r.rest;
            divides = r.divides;
            each = r.each;
            more = r.wrong.1;
            next_faulty = λ e later c d. true≢false (sym (goes_on r.fields e later c) ∙ ap (goes r.fields) (sym d) ∙ r.wrong.2);
            at = r.place ∙ omega arith;
          }

      stops : (f : FaultyDictionary s p) (t : Bool) → goes f.es f.rest ≡ t → goes f.es f.rest ≡ false
      stops f false q = q
      stops f true q =
          let rest = f.rest in
          let fit = octets_after (joined record_of f.es) rest (subst Octets f.divides o) in
          absurd
          (f.next_faulty (entry_of rest) (drop 8 rest) (is_continues f.es (entry_of rest) (and_right (formed rest) (continues f.es (entry_of rest)) q))
          (formed_record rest fit (and_left (formed rest) (continues f.es (entry_of rest)) q)))

      fault : FaultyDictionary s p → rows.RowFault record_of Continues Wrong Octets load_from [] 0 s 2 p
      fault f =
          record {
            fields = f.es;
            rest = f.rest;
            divides = f.divides;
            each = f.each;
            wrong = (refl, f.more, stops f (goes f.es f.rest) refl);
            place = f.at ∙ omega arith;
          }

  -- There is at most one place,
  pub faulty_place_unique : (p q : ℕ) → FaultyDictionary s p → FaultyDictionary s q → p ≡ q
  faulty_place_unique p q a b =
      let e = (refused_exactly p).1 a in
      let f = (refused_exactly q).1 b in
      cc

  -- and one exactly where the octets are not a dictionary.
  pub dictionary_or_faulty : ((es : List Entry) × IsDictionary s es) ⊎ ((p : ℕ) × FaultyDictionary s p)
  dictionary_or_faulty = go (loading s) refl
    where
      go : (r : Reading (List Entry)) → loading s ≡ r → ((es : List Entry) × IsDictionary s es) ⊎ ((p : ℕ) × FaultyDictionary s p)
      go (accepted es) e = inl (es, (load_exactly es).0 e)
      go (refused k p) e = inr (p, (refused_exactly p).0 (e ∙ ap (λ (n : ℕ). refused n p) (refused_always_2 k p e)))

  pub dictionary_not_faulty : (es : List Entry) (p : ℕ) → IsDictionary s es → FaultyDictionary s p → ⊥
  dictionary_not_faulty es p d f = not_accepted 2 p es (sym ((refused_exactly p).1 f) ∙ (load_exactly es).1 d)
