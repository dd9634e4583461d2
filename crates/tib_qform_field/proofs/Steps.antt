-- One step of the reading takes exactly one field that the layout allows, or finds what is wrong with it.
use Prim.Native.Nat.{ℕ, ◌+◌, ◌%◌, ◌≤◌}
use native.Mathlib.Omega.{arith}
use mathlib.Core.Path.{◌≡◌, refl, sym, ap, ap₂, ◌∙◌, subst}
use mathlib.Core.Bool.{Bool, true, false, cond}
use mathlib.Core.List.{List, [], ◌∷◌, ◌++◌, append_assoc}
use mathlib.Core.Option.{Option, none, some}
use lib.ListN.{length, take, drop, length-append, length-drop, take-append-drop}
use lib.Seq.{take_at, drop_at, length-take-le}
use lib.Dec.{ltb}
use borrow.Author.Tests.{ltb-true, ltb-false, lt-ltb, le-ltb}
use Rattle.tib_field.proofs.Rows as rows
use Rattle.tib_field.proofs.Steps as reads
use Rattle.tib_dictionary.specs.Entry.{find}
use Rattle.tib_dictionary.specs.declared.Entry.{Entry}
use Rattle.tib_qform_field.specs.Layout.{flagged, fid, Parts, octets, fid_of, Allowed}
use Rattle.tib_field.specs.Steps.{Step, Done, Fault, Over}
use Rattle.tib_qform_field.specs.Reading.{data_octets, from_data, next_field, total, parts_at, fields_from}
use Rattle.tib_qform_field.specs.FirstFault.{WrongField, cut, unflagged, unknown, data_cut}

-- An allowed field of an entry at the front of octets.
pub record Found (es : List Entry) (s : List ℕ) (e : Entry) : Type 0 where
  pub field : Parts
  pub rest : List ℕ
  pub allowed : Allowed es field
  pub divides : s ≡ octets field ++ rest
  pub entered : allowed.entry ≡ e

-- What a step tells of the octets.
Told : List Entry → List ℕ → Step Entry → Type 0
Told es s Done = s ≡ []
Told es s (Fault k) = WrongField es k s
Told es s (Over e) = Found es s e

module _ (es : List Entry) (high low : ℕ) (s : List ℕ) (f : flagged high ≡ true) where
  -- The data and the padding of a field that is long enough.
  found : (e : Entry) → find es (fid high low) ≡ some e → data_octets e ≤ length s → Found es (high ∷ low ∷ s) e
  unfolding octets fid_of data_octets
  found e k h =
      let n = e.size in
      let m = e.size % 2 in
      let l = length-drop n s in
      let p : length (take n s) ≡ n = length-take-le n s (omega arith) in
      let q : length (take m (drop n s)) ≡ m = length-take-le m (drop n s) (omega arith) in
      let d : take n s ++ (take m (drop n s) ++ drop m (drop n s)) ≡ s = rw (take-append-drop m (drop n s)) (take-append-drop n s) in
      record {
        field = record { high = high; low = low; contents = take n s; padding = take m (drop n s) };
        rest = drop m (drop n s);
        allowed = record { flags = f; entry = e; known = k; size = p; padded = omega arith };
        divides = sym (simp append_assoc (ap (λ (r : List ℕ). high ∷ low ∷ r) d));
        entered = refl;
      }

  from_data_lem : (o : Option Entry) → find es (fid high low) ≡ o → Told es (high ∷ low ∷ s) (from_data o s)
  unfolding Told from_data data_octets
  from_data_lem none k = unknown high low s f k
  from_data_lem (some e) k = go (ltb (length s) (data_octets e)) refl
    where
      go : (t : Bool) → ltb (length s) (data_octets e) ≡ t → Told es (high ∷ low ∷ s) (cond t (Fault 4) (Over e))
      go true t = data_cut high low s e f k (ltb-true (length s) (data_octets e) t)
      go false t = found e k (ltb-false (length s) (data_octets e) t)

-- Every step tells what stands at the front of the octets.
step_told : (es : List Entry) (s : List ℕ) → Told es s (next_field es s)
unfolding Told next_field
step_told es [] = refl
step_told es (high ∷ []) = cut high
step_told es (high ∷ low ∷ s) = go (flagged high) refl
  where
    go : (t : Bool) → flagged high ≡ t → Told es (high ∷ low ∷ s) (cond t (from_data (find es (fid high low)) s) (Fault 16))
    go true f = from_data_lem es high low s f (find es (fid high low)) refl
    go false f = unflagged high low s f

module _ (es : List Entry) where
  -- A step over an entry finds an allowed field of that entry,
  pub step_found : (s : List ℕ) (e : Entry) → next_field es s ≡ Over e → Found es s e
  unfolding Told
  step_found s e h = subst (Told es s) h (step_told es s)

  -- a fault is that of a wrong field,
  pub step_wrong : (s : List ℕ) (k : ℕ) → next_field es s ≡ Fault k → WrongField es k s
  unfolding Told
  step_wrong s k h = subst (Told es s) h (step_told es s)

  -- and only the end is the end.
  pub step_done : (s : List ℕ) → next_field es s ≡ Done → s ≡ []
  unfolding Told
  step_done s h = subst (Told es s) h (step_told es s)

  pub step_of_end : next_field es [] ≡ Done
  unfolding next_field
  step_of_end = refl

  -- An allowed field at the front of octets is what the step finds,
  pub step_of_field : (f : Parts) (rest : List ℕ) (a : Allowed es f) → next_field es (octets f ++ rest) ≡ Over a.entry
  unfolding next_field from_data octets fid_of data_octets
  step_of_field f rest a =
      let l = length-append (f.contents ++ f.padding) rest in
      let m = length-append f.contents f.padding in
      let n = a.size in
      let p = a.padded in
      rw (a.flags, a.known, le-ltb (length (f.contents ++ f.padding ++ rest)) (a.entry.size + a.entry.size % 2) (omega arith))

  -- and so is the refusal of a wrong one.
  pub step_of_wrong : (k : ℕ) (s : List ℕ) → WrongField es k s → next_field es s ≡ Fault k
  unfolding next_field from_data data_octets
  step_of_wrong k s (cut high) = refl
  step_of_wrong k s (unflagged high low r f) = rw f
  step_of_wrong k s (unknown high low r f n) = rw (f, n)
  step_of_wrong k s (data_cut high low r e f n h) = rw (f, n, lt-ltb (length r) (e.size + e.size % 2) h)

  module _ (f : Parts) (a : Allowed es f) where
    pub length_octets : length (octets f) ≡ total a.entry
    unfolding octets total data_octets
    length_octets = let m = length-append f.contents f.padding in let n = a.size in let p = a.padded in omega arith

    pub parts_of_field : (rest : List ℕ) → parts_at (octets f ++ rest) a.entry ≡ f
    unfolding parts_at octets
    parts_of_field rest =
        let r = f.padding ++ rest in
        rw (
          append_assoc f.contents f.padding rest,
          take_at f.contents r a.entry.size a.size,
          drop_at f.contents r a.entry.size a.size,
          take_at f.padding rest (a.entry.size % 2) a.padded,
        )

  found_parts : (s : List ℕ) (e : Entry) → next_field es s ≡ Over e → reads.Found octets (Allowed es) (WrongField es) (next_field es) total parts_at s e
  found_parts s e h =
      let f = step_found s e h in
      record {
        field = f.field;
        rest = f.rest;
        divides = f.divides;
        allowed = f.allowed;
        measured = length_octets f.field f.allowed ∙ ap total f.entered;
        parts = ap₂ parts_at f.divides (sym f.entered) ∙ parts_of_field f.field f.allowed f.rest;
      }

  -- A step finds just the fields that the layout allows, and what is wrong with others.
  pub exact : reads.Exact octets (Allowed es) (WrongField es) (next_field es) total parts_at
  unfolding octets
  exact =
      record {
        sized = λ f. omega arith;
        at_end = step_of_end;
        done = step_done;
        found = found_parts;
        of_field = λ f rest a. (a.entry, step_of_field f rest a, parts_of_field f a rest, sym (length_octets f a));
        told = step_wrong;
        of_wrong = step_of_wrong;
      }

  -- What one step of the reading does, as the laws of rows ask for it.
  pub steps : rows.Steps octets (λ (b : List Parts). Allowed es) (λ (b : List Parts). WrongField es) (λ (s : List ℕ). Unit {0}) (λ (b : List Parts). fields_from es)
  steps = reads.steps octets (Allowed es) (WrongField es) (next_field es) total parts_at exact
