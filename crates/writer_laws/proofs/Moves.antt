-- The state after a start is reached; if a state is reached, so is the state after a stored field, an open or a close.
use Prim.Native.Nat.{ℕ, suc, ◌+◌, ◌-◌, ◌≤◌, ◌<◌}
use native.Mathlib.Omega.{arith}
use native.Mathlib.Numerals.{add-one}
use mathlib.Core.Path.{◌≡◌, refl, sym, ap, ◌∙◌, subst}
use mathlib.Core.Bool.{true, false}
use mathlib.Core.List.{List, ◌++◌, append_assoc}
use lib.ListN.{length, get_or, set, length-append, length-set}
use Rattle.octets.specs.Control.{least_control}
use Rattle.table.specs.Schema.{is_revision, schema}
use Rattle.table.specs.Valid.{valid}
use Rattle.table.specs.declared.Meaning.TheVariants.{Message}
use Rattle.table.specs.declared.Table.{Table}
use Rattle.reading.specs.Reading.{message_limit}
use Rattle.octets_store.specs.Store.{stored}
use Rattle.message.specs.Single.{repeats}
use Rattle.message.specs.Tree.{Tree, end, leaf, nested, Value}
use Rattle.message.specs.Shortest.{field, shortest}
use Rattle.writer_state.specs.Calls.{mask_with, back, masked, begun, deeper, outer, closing_part}
use Rattle.writer_state.specs.declared.State.{State}
use Rattle.writer_laws.specs.Given.{Given, message, opened, on_fields, tags_of, tags_given, open_fields, innermost}
use Rattle.writer_laws.specs.Written.{written}
use Rattle.writer_laws.proofs.ReadsBack.{ReadsBack, reads_end, reads_nested}
use Rattle.writer_laws.proofs.Fields.{AllRead, same_open, opened_innermost, written_before, read_more, read_opened}
use Rattle.writer_laws.proofs.Levels.{LevelsAgree, levels_more, levels_opened}
use Rattle.writer_laws.proofs.Masks.{tags_leaf, masks_begun, masks_more, masks_opened, masks_closed}
use Rattle.writer_laws.proofs.Buffer.{Filled, not_filled, filled_before}
use Rattle.writer_laws.proofs.Reached.{Reached, reached_noting}

pub reached_begun : (t : Table) (revision number : ℕ) (lent : List ℕ) → valid t ≡ true → is_revision revision ≡ true → number ≤ 15 → length lent ≤ message_limit
    → Reached t revision number lent (begun (length lent) revision number) lent (message end)
unfolding begun written open_fields LevelsAgree AllRead shortest
reached_begun t revision number lent v p k h =
    record {
      good_table = v;
      good_revision = p;
      good_number = k;
      limit = h;
      size = refl;
      profile = refl;
      slots = record { number_slots = refl; mask_slots = refl; mark_slots = refl; tag_slots = refl };
      count = refl;
      few = omega arith;
      filled = not_filled lent;
      levels = refl;
      masks = masks_begun t revision number;
      reads = reads_end (schema revision t) 8 number (omega arith);
    }

module _ (t : Table) (revision number : ℕ) (lent : List ℕ) (s : State) (d : List ℕ) where
  -- A field is stored just before the others, and noted.
  pub reached_stored : (g : Given) → Reached t revision number lent s d g → (xs : List ℕ) (tag : ℕ) (v : Value) → length xs ≤ s.start
      → ((w : Tree) → shortest (leaf tag v w) ≡ xs ++ shortest w) → AllRead (schema revision t) number (on_fields (leaf tag v) g)
      → Reached t revision number lent (masked (back s (length xs)) (mask_with t s tag)) (stored d (s.start - length xs) xs) (on_fields (leaf tag v) g)
  unfolding masked back
  reached_stored g r xs tag v h e reads =
      let f : Tree → Tree = leaf tag v in
      let k = r.few in
      let o = same_open f g in
      let b = r.slots.mask_slots in
      record {
        good_table = r.good_table;
        good_revision = r.good_revision;
        good_number = r.good_number;
        limit = r.limit;
        size = r.size;
        profile = r.profile;
        slots =
            record {
              number_slots = r.slots.number_slots;
              mask_slots = length-set s.masks s.opened (mask_with t s tag) ∙ b;
              mark_slots = r.slots.mark_slots;
              tag_slots = r.slots.tag_slots;
            };
        count = r.count ∙ sym o;
        few = omega arith;
        filled =
            subst (Filled lent (stored d (s.start - length xs) xs) (s.start - length xs)) (sym (written_before xs f e g))
            (filled_before lent d s.start (written g) xs r.filled h);
        levels = levels_more t revision number (length lent) s.numbers s.marks s.tags f g r.levels;
        masks =
            rw (reached_noting t revision number lent s d g r tag, r.count)
            (masks_more t revision number s.masks g f tag (tags_leaf tag v g) (omega arith) r.masks);
        reads = reads;
      }

  pub reached_deeper : (g : Given) → Reached t revision number lent s d g → (tag m : ℕ) → tag < 65536
      → (schema revision t).means (innermost (schema revision t) number g) tag ≡ Message m
      → repeats (schema revision t) (innermost (schema revision t) number g) (tags_given g) tag ≡ false → open_fields g ≤ 6
      → Reached t revision number lent (deeper (masked s (mask_with t s tag)) tag m) d (opened tag end g)
  unfolding deeper masked
  reached_deeper g r tag m h e once k =
      let o = r.count in
      let a = r.slots.number_slots in
      let b = r.slots.mark_slots in
      let c = r.slots.tag_slots in
      let f = r.slots.mask_slots in
      let i = opened_innermost (schema revision t) number tag m end g e in
      let noting = set s.masks s.opened (mask_with t s tag) in
      record {
        good_table = r.good_table;
        good_revision = r.good_revision;
        good_number = r.good_number;
        limit = r.limit;
        size = r.size;
        profile = r.profile;
        slots =
            record {
              number_slots = length-set s.numbers (s.opened + 1) m ∙ a;
              mask_slots = length-set noting (s.opened + 1) 0 ∙ length-set s.masks s.opened (mask_with t s tag) ∙ f;
              mark_slots = length-set s.marks s.opened s.start ∙ b;
              tag_slots = length-set s.tags s.opened tag ∙ c;
            };
        count = unfold open_fields in omega arith;
        few = unfold open_fields in omega arith;
        filled = unfold written shortest in r.filled;
        levels =
            rw (o, add-one (open_fields g), ← i)
            (levels_opened t revision number (length lent) s.numbers s.marks s.tags tag s.start g (omega arith) (omega arith) (omega arith)
            r.filled.place r.levels);
        masks =
            rw (reached_noting t revision number lent s d g r tag, o, add-one (open_fields g))
            (masks_opened t revision number s.masks g tag (omega arith) r.masks);
        reads = read_opened (schema revision t) number tag g h m e once k r.reads;
      }

  module _ (tag : ℕ) (w : Tree) (around : Given) (r : Reached t revision number lent s d (opened tag w around)) where
    -- The control part that a close stores is that of the innermost open field.
    pub closing_part_lem : closing_part s ≡ least_control tag (length (shortest w))
    unfolding closing_part written open_fields LevelsAgree
    closing_part_lem =
        let k = open_fields around in
        let o = r.count in
        let i : s.opened - 1 ≡ k = omega arith in
        let n = r.levels.0 in
        let p = r.filled.place in
        let q = n.mark_agrees in
        let l = length-append (shortest w) (written around) in
        let e : get_or s.marks k 0 - s.start ≡ length (shortest w) = omega arith in
        rw (i, n.tag_agrees, e) refl

    pub reached_outer : (part : List ℕ) → part ≡ least_control tag (length (shortest w)) → length part ≤ s.start
        → Reached t revision number lent (outer (back s (length part))) (stored d (s.start - length part) part) (on_fields (nested tag w) around)
    unfolding outer back written open_fields LevelsAgree AllRead
    reached_outer part e h =
        let sc = schema revision t in
        let f : Tree → Tree = nested tag w in
        let k = r.few in
        let c = r.count in
        let o = same_open f around in
        let p = r.filled.place in
        let l = length-append (shortest w) (written around) in
        let limit = r.limit in
        let n = innermost sc number around in
        let m = innermost sc number (opened tag w around) in
        let in_one : 8 - open_fields around ≡ suc (8 - suc (open_fields around)) = omega arith in
        let all : part ++ (shortest w ++ written around) ≡ written (on_fields f around) =
        unfold field in rw e (sym (append_assoc (least_control tag (length (shortest w))) (shortest w) (written around))
        ∙ sym (written_before (field tag (shortest w)) f (λ (u : Tree). unfold shortest in refl) around)) in
        record {
          good_table = r.good_table;
          good_revision = r.good_revision;
          good_number = r.good_number;
          limit = limit;
          size = r.size;
          profile = r.profile;
          slots =
              record {
                number_slots = r.slots.number_slots;
                mask_slots = r.slots.mask_slots;
                mark_slots = r.slots.mark_slots;
                tag_slots = r.slots.tag_slots;
              };
          count = omega arith;
          few = omega arith;
          filled =
              subst (Filled lent (stored d (s.start - length part) part) (s.start - length part)) all
              (filled_before lent d s.start (shortest w ++ written around) part r.filled h);
          levels = levels_more t revision number (length lent) s.numbers s.marks s.tags f around r.levels.1;
          masks = masks_closed t revision number s.masks tag w around r.masks;
          reads =
              read_more sc number f around
              (λ (u : Tree) (same : tags_of u ≡ tags_given around) (later : ReadsBack sc (8 - open_fields around) n u).
              subst (λ (x : ℕ). ReadsBack sc x n (f u)) (sym in_one)
              (reads_nested sc n tag r.reads.0.narrow u (ap (λ (ts : List ℕ). repeats sc n ts tag) same ∙ r.reads.0.once) (8 - suc (open_fields around)) m w (omega arith) r.reads.0.kind
              r.reads.0.reads (subst (λ (x : ℕ). ReadsBack sc x n u) in_one later)))
              r.reads.1;
        }
