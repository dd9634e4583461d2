-- Every tree that can be written and fits the lent buffer is written by a run of any writer that meets Demand2Holds: its last field first,
-- at every level.
use Prim.Native.Nat.{ℕ, suc, ◌+◌, ◌≤◌}
use native.Mathlib.Omega.{arith}
use mathlib.Core.Path.{◌≡◌, refl, sym, ap, ◌∙◌, subst}
use mathlib.Core.Bool.{false}
use mathlib.Core.List.{List, [], ◌∷◌, ◌++◌, append_assoc, append-nil}
use lib.ListN.{length, length-append}
use borrow.Author.Tests.{le-leb}
use Rattle.octets.specs.Control.{least_control}
use Rattle.octets.proofs.Text.{text_exactly}
use Rattle.table.specs.Entry.{kind_number}
use Rattle.table.specs.Schema.{schema}
use Rattle.table.specs.declared.Meaning.{Meaning}
use Rattle.table.specs.declared.Meaning.TheVariants.{Uint, Int, String, Text, Message}
use Rattle.table.specs.declared.Table.{Table}
use Rattle.reading.specs.declared.Checked.{Checked}
use Rattle.message.specs.Items.{items, item_tag}
use Rattle.message.specs.Single.{repeats}
use Rattle.message.specs.Tree.{Tree, end, leaf, nested, Value, raw, uint, int, string, text, depth}
use Rattle.message.specs.Shortest.{least_contents, field, shortest}
use Rattle.writer_state.specs.declared.State.{State}
use Rattle.message.proofs.Fields.{field_length}
use Rattle.writer_laws.specs.Given.{Given, message, opened, on_fields, closed, tags_of, tags_given, open_fields, innermost}
use Rattle.writer_laws.specs.Written.{written}
use Rattle.writer_laws.specs.Run.{InRange, octets_as, kind_in, giving, Run, start, next}
use Rattle.writer_state.specs.Call.{Call, put_uint, put_int, put_octets, open_field, close_field, Writer}
use Rattle.writer_laws.specs.Refusal.{refusal_for_repeat, refusal_for_room, refusal_of_close, refusal_of_call, refusal_of_finish}
use Rattle.writer_laws.specs.Demand2.{Demand2Holds}
use Rattle.writer_laws.specs.Writable.{OfKind, Writable, Writes}
use Rattle.writer_laws.proofs.Fields.{same_open, same_innermost, opened_innermost, written_before}

-- ---- fields put before others

-- The fields of a tree before those of another.
unfoldable before : Tree → Tree → Tree
before end u = u
before (leaf tag v rest) u = leaf tag v (before rest u)
before (nested tag inside rest) u = nested tag inside (before rest u)

before_end : (w : Tree) → before w end ≡ w
unfolding before
before_end end = refl
before_end (leaf tag v rest) = ap (leaf tag v) (before_end rest)
before_end (nested tag inside rest) = ap (nested tag inside) (before_end rest)

shortest_before : (w u : Tree) → shortest (before w u) ≡ shortest w ++ shortest u
unfolding before shortest
shortest_before end u = refl
shortest_before (leaf tag v rest) u =
    let x = field tag (least_contents v) in
    ap (λ (r : List ℕ). x ++ r) (shortest_before rest u) ∙ sym (append_assoc x (shortest rest) (shortest u))
shortest_before (nested tag inside rest) u =
    let x = field tag (shortest inside) in
    ap (λ (r : List ℕ). x ++ r) (shortest_before rest u) ∙ sym (append_assoc x (shortest rest) (shortest u))

tags_before : (w u : Tree) → tags_of (before w u) ≡ tags_of w ++ tags_of u
unfolding before tags_of items item_tag
tags_before end u = refl
tags_before (leaf tag v rest) u = ap (λ (ts : List ℕ). tag ∷ ts) (tags_before rest u)
tags_before (nested tag inside rest) u = ap (λ (ts : List ℕ). tag ∷ ts) (tags_before rest u)

-- The tags of a tree given where nothing is given yet.
only_these : (w : Tree) (g : Given) → tags_given g ≡ [] → tags_given (on_fields (before w) g) ≡ tags_of w
unfolding tags_given on_fields
only_these w (message u) e = tags_before w u ∙ rw e (append-nil (tags_of w))
only_these w (opened tag u around) e = tags_before w u ∙ rw e (append-nil (tags_of w))

on_end : (g : Given) → on_fields (before end) g ≡ g
unfolding before on_fields
on_end (message w) = refl
on_end (opened tag w around) = refl

on_leaf : (tag : ℕ) (v : Value) (rest : Tree) (g : Given) → on_fields (leaf tag v) (on_fields (before rest) g) ≡ on_fields (before (leaf tag v rest)) g
unfolding before on_fields
on_leaf tag v rest (message w) = refl
on_leaf tag v rest (opened k w around) = refl

on_nested : (tag : ℕ) (inside rest : Tree) (g : Given)
    → on_fields (nested tag inside) (on_fields (before rest) g) ≡ on_fields (before (nested tag inside rest)) g
unfolding before on_fields
on_nested tag inside rest (message w) = refl
on_nested tag inside rest (opened k w around) = refl

depth_positive : (w : Tree) → 1 ≤ depth w
unfolding depth
depth_positive end = omega arith
depth_positive (leaf tag v rest) = depth_positive rest
depth_positive (nested tag inside rest) = omega arith

-- ---- one more call

module _ (check : Table → ℕ → ℕ → List ℕ → Checked) (w : Writer) (holds : Demand2Holds check w) (t : Table) (revision number : ℕ) (lent : List ℕ) where
  -- A run that gave these fields.
  record RunTo (g : Given) : Type 0 where
    state : State
    after : List ℕ
    run : Run w t revision number lent state after g

  one_more : (g : Given) → RunTo g → (c : Call) → InRange c → refusal_of_call t revision number (length lent) g c ≡ 0 → RunTo (giving t revision number c g)
  one_more g r c h e =
      record { state = _; after = _; run = next r.state r.after g r.run c h ((holds.runs t revision number lent r.state r.after g r.run).refusals.calls c ∙ e) }

  module _ (g : Given) where
    has_room : (size : ℕ) → length (written g) + size ≤ length lent → refusal_for_room (length lent) g size ≡ 0
    unfolding refusal_for_room
    has_room size h = rw (le-leb (length (written g) + size) (length lent) h) refl

    -- A field with this tag repeats none of those given in the innermost message.
    abbrev Once : ℕ → Type 0
    Once tag = repeats (schema revision t) (innermost (schema revision t) number g) (tags_given g) tag ≡ false

    no_repeat : (tag later : ℕ) → Once tag → later ≡ 0 → refusal_for_repeat t revision number g tag later ≡ 0
    unfolding refusal_for_repeat
    no_repeat tag later o e = rw o e

    of_kind : (tag : ℕ) (k : Meaning) → (schema revision t).means (innermost (schema revision t) number g) tag ≡ k → kind_in t revision number g tag ≡ kind_number k
    unfolding kind_in
    of_kind tag k e = ap kind_number e

    more_leaf : RunTo g → (tag : ℕ) (v : Value) → OfKind ((schema revision t).means (innermost (schema revision t) number g) tag) v → Once tag
        → length (written g) + length (field tag (least_contents v)) ≤ length lent → RunTo (on_fields (leaf tag v) g)
    unfolding OfKind least_contents InRange refusal_of_call giving kind_number octets_as
    more_leaf r tag (raw xs) h o l = absurd h
    more_leaf r tag (uint v) h o l =
        let size = length (field tag (least_contents (uint v))) in
        one_more g r (put_uint tag v) h.1 (rw (of_kind tag Uint h.0) (no_repeat tag (refusal_for_room (length lent) g size) o (has_room size l)))
    more_leaf r tag (int z) h o l =
        let size = length (field tag (least_contents (int z))) in
        one_more g r (put_int tag z) h.1 (rw (of_kind tag Int h.0) (no_repeat tag (refusal_for_room (length lent) g size) o (has_room size l)))
    more_leaf r tag (string xs) h o l =
        let e = of_kind tag String h in
        let room = refusal_for_room (length lent) g (length (field tag xs)) in
        subst RunTo (rw e refl) (one_more g r (put_octets tag xs) tt (rw e (no_repeat tag room o (has_room (length (field tag xs)) l))))
    more_leaf r tag (text xs) h o l =
        let e = of_kind tag Text h.0 in
        let room = refusal_for_room (length lent) g (length (field tag xs)) in
        subst RunTo (rw e refl)
        (one_more g r (put_octets tag xs) tt (rw (e, (text_exactly xs).1 h.1) (no_repeat tag room o (has_room (length (field tag xs)) l))))

    more_open : RunTo g → (tag m : ℕ) → (schema revision t).means (innermost (schema revision t) number g) tag ≡ Message m → Once tag → open_fields g ≤ 6
        → RunTo (opened tag end g)
    unfolding InRange refusal_of_call giving kind_number
    more_open r tag m e o h =
        one_more g r (open_field tag) tt (rw (of_kind tag (Message m) e, le-leb (open_fields g) 6 h) (no_repeat tag 0 o refl))

  more_close : (tag : ℕ) (w : Tree) (g : Given) → RunTo (opened tag w g)
      → length (written (opened tag w g)) + length (least_control tag (length (shortest w))) ≤ length lent → RunTo (on_fields (nested tag w) g)
  unfolding InRange refusal_of_call refusal_of_close giving closed
  more_close tag w g r h = one_more (opened tag w g) r close_field tt (has_room (opened tag w g) (length (least_control tag (length (shortest w)))) h)

  -- ---- a whole tree

  -- A tag that repeats none of the fields of a tree repeats none after these are given.
  once_more : (rest : Tree) (g : Given) → tags_given g ≡ [] → (tag : ℕ)
      → repeats (schema revision t) (innermost (schema revision t) number g) (tags_of rest) tag ≡ false → Once (on_fields (before rest) g) tag
  once_more rest g x tag o = rw (only_these rest g x, same_innermost (schema revision t) number (before rest) g) o

  more_fields : (w : Tree) (g : Given) → tags_given g ≡ [] → Writable (schema revision t) (innermost (schema revision t) number g) w
      → depth w + open_fields g ≤ 8 → length (written g) + length (shortest w) ≤ length lent → RunTo g → RunTo (on_fields (before w) g)
  unfolding Writable depth shortest
  more_fields end g x h d l r = subst RunTo (sym (on_end g)) r
  more_fields (leaf tag v rest) g x h d l r =
      let one = on_fields (before rest) g in
      let a = length-append (field tag (least_contents v)) (shortest rest) in
      let b = ap length (written_before (shortest rest) (before rest) (shortest_before rest) g) in
      let c = length-append (shortest rest) (written g) in
      let n = same_innermost (schema revision t) number (before rest) g in
      let k = subst (λ (i : ℕ). OfKind ((schema revision t).means i tag) v) (sym n) h.0 in
      subst RunTo (on_leaf tag v rest g) (more_leaf one (more_fields rest g x h.1 d (omega arith) r) tag v k (once_more rest g x tag h.2) (omega arith))
  more_fields (nested tag inside rest) g x h d l r =
      let one = on_fields (before rest) g in
      let two = opened tag end one in
      let m = h.0.0 in
      let a = length-append (field tag (shortest inside)) (shortest rest) in
      let f = field_length tag (shortest inside) in
      let b = ap length (written_before (shortest rest) (before rest) (shortest_before rest) g) in
      let c = length-append (shortest rest) (written g) in
      let o = same_open (before rest) g in
      let n = same_innermost (schema revision t) number (before rest) g in
      let p = depth_positive inside in
      let e : (schema revision t).means (innermost (schema revision t) number one) tag ≡ Message m = subst (λ (i : ℕ). (schema revision t).means i tag ≡ Message m) (sym n) h.0.1 in
      let i = opened_innermost (schema revision t) number tag m end one e in
      let u : length (written two) ≡ length (written one) = unfold written shortest in refl in
      let q : open_fields two ≡ suc (open_fields one) = unfold open_fields in refl in
      let opens = more_open one (more_fields rest g x h.1 (omega arith) (omega arith) r) tag m e (once_more rest g x tag h.2) (omega arith) in
      let fills = more_fields inside two (unfold tags_given tags_of items in refl) (subst (λ (x : ℕ). Writable (schema revision t) x inside) (sym i) h.0.2) (omega arith) (omega arith) opens in
      let three : on_fields (before inside) two ≡ opened tag inside one = unfold on_fields in ap (λ (x : Tree). opened tag x one) (before_end inside) in
      let s : length (written (opened tag inside one)) ≡ length (shortest inside) + length (written one) =
      unfold written in length-append (shortest inside) (written one) in
      subst RunTo (on_nested tag inside rest g) (more_close tag inside one (subst RunTo three fills) (omega arith))

  -- Where start is accepted, a run writes each tree that can be written, is at most 8 deep and fits the lent buffer in its shortest form.
  pub all_written : (w.start t revision number (length lent)).refusal ≡ 0
      → (u : Tree) → Writable (schema revision t) number u → depth u ≤ 8 → length (shortest u) ≤ length lent → Writes w t revision number lent u
  unfolding innermost open_fields written on_fields refusal_of_finish shortest
  all_written e u h d l =
      let r : RunTo (message end) = record { state = _; after = _; run = start e } in
      let full = more_fields u (message end) (unfold tags_given tags_of items in refl) h (omega arith) (omega arith) r in
      let all : RunTo (message u) = subst (λ (x : Tree). RunTo (message x)) (before_end u) full in
      record {
        state = all.state;
        after = all.after;
        run = all.run;
        finish = (holds.runs t revision number lent all.state all.after (message u) all.run).refusals.finish;
      }
