-- The answer of a lookup, case by case.
use Prim.Native.Nat.{ℕ, ◌+◌, ◌-◌, ◌≤◌, ◌<◌}
use native.Mathlib.Omega.{arith}
use mathlib.Core.Path.{◌≡◌, refl, sym, ap, ◌∙◌}
use mathlib.Core.Bool.{true, false, ◌&&◌}
use mathlib.Core.List.{List}
use Rattle.std.specs.Prelude as std
use mathlib.Core.Option.{Option, none, some, map}
use lib.ListN.{length, take, drop, length-drop}
use lib.Seq.{length-take-le}
use lib.Dec.{eqb}
use borrow.Author.Tests.{le-leb, eq-eqb, ne_eqb}
use Rattle.reading.specs.Refusals as refusals
use Rattle.octets.specs.internal.Bounded.{unsigned, signed}
use Rattle.table.specs.Entry.{kind_number}
use Rattle.table.specs.Schema.{Schema, is_revision, schema}
use Rattle.table.specs.declared.Meaning.{Meaning}
use Rattle.table.specs.declared.Meaning.TheVariants.{Raw, Uint, Int, String, Text, Message}
use Rattle.table.specs.Valid.{valid}
use Rattle.table.specs.declared.Table.{Table}
use Rattle.message.specs.Cut.{Cut, Contents, Good}
use Rattle.message.specs.Tree.{value}
use Rattle.message.specs.Items.{Item, item_tag, with_tag, kind_of, item_kind, uint_of, int_of}
use Rattle.reading.specs.Reading.{accepted, message_limit}
use Rattle.message.specs.Reading.{reading}
use Rattle.message.proofs.Accepted.{accepted_good}
use Rattle.message_calls.specs.Check.{check, check_under}
use Rattle.reading.specs.Checks as answers
use Rattle.reading.specs.declared.Checked.{Checked}
use Rattle.message_calls.specs.Lookup.{ItemSpan, outermost, chosen, refusal, found, found_in, answer}
use Rattle.message_calls.specs.internal.LookupUnder.{look_under}
use Rattle.message_calls.specs.internal.Spans.{spans, optional_span, nth_span, last_span, chosen_span, uint_in, int_in, read}
use Rattle.message_calls.specs.declared.outermost.Occurrence.{Occurrence}
use Rattle.message_calls.specs.declared.outermost.Occurrence.TheVariants.{Nth, Last}
use Rattle.message_calls.specs.declared.outermost.Span.{Span}
use Rattle.message_calls.proofs.ChosenElements.{Of, chosen_map, chosen_each, with_tag_each}
use Rattle.message_calls.proofs.OutermostSpans.{item_of, InMessage, each_in_message, span_of, spans_are}
use Rattle.message_calls.specs.InTree.{Shows}
use Rattle.message_calls.proofs.AcceptedByCheck.{under_passed}
use Rattle.message_calls.proofs.CheckAnswers.{too_long, bad_table, under-valid}

-- The answer for contents that their kind allows has the kind's number and their value.
read_leaf : (k : Meaning) (t start : ℕ) (b : List ℕ) → Contents k b
    → read (kind_number k) start b ≡ found (some (record { item = Item.leaf t (value k b); start = start; length = length b }))
unfolding read kind_number uint_in int_in unsigned signed found item_kind kind_of uint_of int_of value Contents
read_leaf Raw t start b h = refl
read_leaf Uint t start b h = rw (le-leb (length b) 8 h)
read_leaf Int t start b h = rw (le-leb (length b) 8 h)
read_leaf String t start b h = refl
read_leaf Text t start b h = refl
read_leaf (Message m) t start b h = absurd h

read-item : (sc : Schema) (levels n : ℕ) (i : Item) (start : ℕ) (b : List ℕ) → Shows sc levels n b i
    → read (kind_number (sc.means n (item_tag i))) start b ≡ found (some (record { item = i; start = start; length = length b }))
unfolding Shows item_tag read kind_number uint_in int_in found item_kind uint_of int_of
read-item sc levels n (Item.leaf t v) start b h = rw h.0 (read_leaf (sc.means n t) t start b h.1)
read-item sc levels n (Item.nested t inside) start b h = rw h.2

-- The answer for an outermost field is read from the octets in its span.
read-span : (sc : Schema) (levels n : ℕ) (s : List ℕ) (o : ItemSpan) (t : ℕ) → InMessage sc levels n s o → item_tag o.item ≡ t
    → read (kind_number (sc.means n t)) o.start (take o.length (drop o.start s)) ≡ found (some o)
unfolding found
read-span sc levels n s o t h e =
    let k = h.inside in
    let l = length-take-le o.length (drop o.start s) (simp length-drop (omega arith)) in
    let r = read-item sc levels n o.item o.start (take o.length (drop o.start s)) h.shows in
    rw (← e) (r ∙ rw l)

chosen-span : (t : ℕ) (w : Occurrence) (s : List ℕ) → chosen_span t w s ≡ optional_span (chosen w (spans t s))
unfolding chosen_span nth_span last_span chosen
chosen-span t (Nth k) s = refl
chosen-span t Last s = refl

-- Under the schema of a table that the loader can return, a lookup has the same answer as under the table and the revision.
module _ (t : Table) (revision : ℕ) (sc : Schema) (same : sc ≡ schema revision t) (n : ℕ) (s : List ℕ) (h : length s ≤ message_limit)
    (v : valid t && is_revision revision ≡ true) (tag : ℕ) where
  pub answer-under : (which : Occurrence) → look_under sc n s tag which ≡ answer t revision n s tag which
  unfolding look_under answer
  answer-under which = rw (under-valid t revision n s h v sc same, same) refl

module _ (sc : Schema) (n : ℕ) (s : List ℕ) (tag : ℕ) (which : Occurrence) where
  pub refused-under : (c : Checked) → c ≡ check_under sc n s → (c.refusal ≡ 0 → ⊥) → refusal c.refusal c.place ≡ look_under sc n s tag which
  unfolding look_under
  refused-under c e ne =
      let f : eqb (check_under sc n s).refusal 0 ≡ false = ap (λ (x : Checked). eqb x.refusal 0) (sym e) ∙ ne_eqb c.refusal 0 ne in
      rw (f, ← e)

  -- The outermost field that is wanted.
  unfoldable pub wanted : Cut → Option ItemSpan
  wanted cut = chosen which (with_tag item_of tag (outermost sc n 0 cut))

  pub under-found : (check_under sc n s).refusal ≡ 0 → (cut : Cut) → reading sc n s ≡ accepted cut → look_under sc n s tag which ≡ found (wanted cut)
  unfolding look_under found_in wanted
  under-found e cut f = rw (eq-eqb (check_under sc n s).refusal 0 e, f)

  -- Its contents lie in the message.
  pub wanted-in-message : (cut : Cut) → Good sc 8 n s cut
      → Of (λ (o : ItemSpan). InMessage sc 7 n s o × (item_tag o.item ≡ tag)) (wanted cut)
  unfolding wanted
  wanted-in-message cut g =
      chosen_each (λ (o : ItemSpan). InMessage sc 7 n s o × (item_tag o.item ≡ tag)) which (with_tag item_of tag (outermost sc n 0 cut))
      (with_tag_each (InMessage sc 7 n s) item_of tag (outermost sc n 0 cut)
      (each_in_message sc 7 n s cut 0 (sym g.divides) g.allowed g.shallow))

  -- The spans by heads have its span.
  span_is : (cut : Cut) → Good sc 8 n s cut → chosen_span tag which s ≡ optional_span (map span_of (wanted cut))
  unfolding wanted
  span_is cut g =
      chosen-span tag which s
      ∙ rw (spans_are sc n tag s 8 cut g, chosen_map span_of which (with_tag item_of tag (outermost sc n 0 cut)))

  module _ (e : (check_under sc n s).refusal ≡ 0) where
    cut : Cut
    cut = (under_passed sc n s e).1.0

    is-good : Good sc 8 n s cut
    unfolding reading cut
    is-good = accepted_good sc 8 n 0 0 s (under_passed sc n s e).1.0 (under_passed sc n s e).1.1

    answer-is : look_under sc n s tag which ≡ found (wanted cut)
    unfolding cut
    answer-is = under-found e (under_passed sc n s e).1.0 (under_passed sc n s e).1.1

    pub absent : (p : std.Option Span) → p ≡ chosen_span tag which s → p ≡ std.None → refusal refusals.absent 0 ≡ look_under sc n s tag which
    unfolding optional_span found
    absent p f a = sym (answer-is ∙ go (wanted cut) (sym (span_is cut is-good) ∙ sym f ∙ a))
      where
        go : (o : Option ItemSpan) → optional_span (map span_of o) ≡ std.None → found o ≡ refusal refusals.absent 0
        go none h = refl
        go (some o) h = let z : ◌≡◌ {A = ℕ} 0 1 = cc in absurd (omega arith)

    -- The span of the wanted field, and the answer that is read there.
    pub record Present (start end : ℕ) : Type 0 where
      pub ordered : start ≤ end
      pub inside : end ≤ length s
      pub answers : read (kind_number (sc.means n tag)) start (take (end - start) (drop start s)) ≡ look_under sc n s tag which

    pub present : (x : Span) (p : std.Option Span) → p ≡ chosen_span tag which s → p ≡ std.Some x → Present x.start x.end
    unfolding optional_span Of
    present x p f a = go (wanted cut) refl (wanted-in-message cut is-good) (sym (span_is cut is-good) ∙ sym f ∙ a)
      where
        go : (o : Option ItemSpan) → wanted cut ≡ o → Of (λ (o : ItemSpan). InMessage sc 7 n s o × (item_tag o.item ≡ tag)) o
            → optional_span (map span_of o) ≡ std.Some x → Present x.start x.end
        go none w h d = let z : ◌≡◌ {A = ℕ} 0 1 = cc in absurd (omega arith)
        go (some o) w h d =
            let same : span_of o ≡ x = cc in
            let begins : o.start ≡ x.start = ap (λ (y : Span). y.start) same in
            let ends : o.start + o.length ≡ x.end = ap (λ (y : Span). y.end) same in
            let k = h.0.inside in
            let l : x.end - x.start ≡ o.length = omega arith in
            let r = read-span sc 7 n s o tag h.0 h.1 in
            record {
              ordered = omega arith;
              inside = omega arith;
              answers = rw (l, ← begins) (r ∙ sym (answer-is ∙ ap found w));
            }

module _ (t : Table) (revision n : ℕ) (s : List ℕ) (tag : ℕ) (which : Occurrence) where
  pub refused-first : (c : Checked) → c ≡ check t revision n s → (c.refusal ≡ 0 → ⊥) → refusal c.refusal c.place ≡ answer t revision n s tag which
  unfolding answer
  refused-first c e ne =
      let f : eqb (check t revision n s).refusal 0 ≡ false = ap (λ (x : Checked). eqb x.refusal 0) (sym e) ∙ ne_eqb c.refusal 0 ne in
      rw (f, ← e)

  -- A message that is too long, and a table that the loader cannot return or a number that is no revision.
  pub too-long-refused : message_limit < length s → refusal refusals.too_long 0 ≡ answer t revision n s tag which
  unfolding answers.refusal
  too-long-refused h = refused-first (answers.refusal refusals.too_long 0) (too_long t revision n s h) (λ z. omega arith)

  pub bad-table-refused : length s ≤ message_limit → valid t && is_revision revision ≡ false → refusal refusals.table 0 ≡ answer t revision n s tag which
  unfolding answers.refusal
  bad-table-refused h v = refused-first (answers.refusal refusals.table 0) (bad_table t revision n s h v) (λ z. omega arith)

  pub answer-found : (check t revision n s).refusal ≡ 0 → (cut : Cut) → reading (schema revision t) n s ≡ accepted cut
      → answer t revision n s tag which ≡ found (wanted (schema revision t) n s tag which cut)
  unfolding answer found_in wanted
  answer-found e cut f = rw (eq-eqb (check t revision n s).refusal 0 e, f)
