-- The state after every run is reached (proofs/Reached.antt): each accepted call keeps this invariant.
use Prim.Native.Nat.{ℕ, ◌-◌}
use native.Mathlib.Omega.{arith}
use mathlib.Core.Path.{◌≡◌, refl, sym, ap, ◌∙◌}
use mathlib.Core.Bool.{Bool, true, false}
use mathlib.Core.List.{List}
use lib.ListN.{length}
use lib.Dec.{eqb}
use Rattle.octets.specs.Number.{least_uint}
use Rattle.octets.specs.Signed.{least_int}
use Rattle.table.specs.Entry.{kind_number, inner_of}
use Rattle.table.specs.Schema.{schema}
use Rattle.table.specs.declared.Meaning.{Meaning}
use Rattle.table.specs.declared.Table.{Table}
use Rattle.message.specs.Single.{repeats}
use Rattle.message.specs.Tree.{Tree, end, leaf, Value, uint, int}
use Rattle.message.specs.Shortest.{field, shortest}
use Rattle.writer_state.specs.Calls.{call_result, buffer_after, meant, noted, of_octets, readable, started, put, put_buffer, put_refusal, opening, closing, close_buffer, closing_part}
use Rattle.writer_state.specs.declared.State.{State}
use Rattle.writer_state.proofs.Conditions.{start_met, put_met, open_met, close_room}
use Rattle.message.proofs.Fields.{field_length}
use Rattle.writer_state.proofs.Tags.{narrow}
use Rattle.writer_laws.specs.Given.{Given, message, opened, on_fields, closed, tags_of, tags_given, open_fields, innermost}
use Rattle.writer_laws.specs.Run.{InRange, octets_as, kind_in, giving, Run, start, next}
use Rattle.writer_state.specs.Call.{Call, put_uint, put_int, put_octets, open_field, close_field}
use Rattle.writer_state.specs.Answer.{answer, buffer, writer}
use Rattle.writer_laws.proofs.ReadsBack.{reads_leaf}
use Rattle.writer_laws.proofs.Fields.{read_more}
use Rattle.writer_laws.proofs.Suits.{Suits, is_message, suits_uint, suits_int, suits_octets}
use Rattle.writer_laws.proofs.Masks.{MasksAgree}
use Rattle.writer_laws.proofs.Reached.{Reached, reached_meant, reached_noted}
use Rattle.writer_laws.proofs.Moves.{reached_begun, reached_stored, reached_deeper, closing_part_lem, reached_outer}

reached_start : (t : Table) (revision number : ℕ) (lent : List ℕ) → (started t revision number (length lent)).refusal ≡ 0
    → Reached t revision number lent (started t revision number (length lent)).state lent (message end)
unfolding started call_result
reached_start t revision number lent e =
    let m = start_met t revision number (length lent) e in
    rw e (reached_begun t revision number lent m.table m.profile m.small m.within_limit)

module _ (t : Table) (revision number : ℕ) (lent : List ℕ) (s : State) (d : List ℕ) where
  module _ (g : Given) (r : Reached t revision number lent s d g) (tag : ℕ) where
    abbrev means : Meaning
    means = (schema revision t).means (innermost (schema revision t) number g) tag

    -- A tag that is not noted repeats no field given.
    once : noted t s tag ≡ false → repeats (schema revision t) (innermost (schema revision t) number g) (tags_given g) tag ≡ false
    once e = sym (reached_noted t revision number lent s d g r tag) ∙ e

    reached_put : (agrees reads : Bool) (xs : List ℕ) (v : Value) → Suits means v xs → put_refusal t s tag (length d) agrees reads (length (field tag xs)) ≡ 0
        → Reached t revision number lent (put t s tag agrees reads xs (length d)).state (put_buffer t s tag agrees reads xs d) (on_fields (leaf tag v) g)
    unfolding put put_buffer call_result buffer_after
    reached_put agrees reads xs v f e =
        let m = put_met t s tag (length d) agrees reads (length (field tag xs)) e in
        let sc = schema revision t in
        let l = field_length tag xs in
        let p = r.filled.place in
        let limit = r.limit in
        let n = ap length f.least in
        let k = narrow t s tag (λ z. f.some_kind (sym (ap kind_number (reached_meant t revision number lent s d g r tag)) ∙ z)) in
        rw e
        (reached_stored t revision number lent s d g r (field tag xs) tag v m.room (λ (w : Tree). unfold shortest in rw f.least refl)
        (read_more sc number (leaf tag v) g
        (λ (w : Tree) (same : tags_of w ≡ tags_given g).
        reads_leaf sc (innermost sc number g) tag k w (ap (λ (ts : List ℕ). repeats sc (innermost sc number g) ts tag) same ∙ once m.once) (8 - open_fields g) v
        (omega arith) f.allowed f.same)
        r.reads))

    -- What the state says of a tag is what the fields given say of it.
    by_given : (test : Meaning → Bool) → test (meant t s tag) ≡ true → test means ≡ true
    by_given test e = sym (ap test (reached_meant t revision number lent s d g r tag)) ∙ e

    reached_open : (opening t s tag).refusal ≡ 0 → Reached t revision number lent (opening t s tag).state d (opened tag end g)
    unfolding opening call_result
    reached_open e =
        let agrees = eqb (kind_number (meant t s tag)) 5 in
        let x = open_met t s tag agrees e in
        let i = is_message means (by_given (λ (k : Meaning). eqb (kind_number k) 5) x.agreed) in
        let m = reached_meant t revision number lent s d g r tag in
        let k = x.shallow in
        let c = r.count in
        let five : kind_number (meant t s tag) ≡ 5 = ap kind_number (m ∙ i.1) ∙ (unfold kind_number in refl) in
        let h = narrow t s tag (λ z. omega arith) in
        let in_it : inner_of (meant t s tag) ≡ i.0 = ap inner_of (m ∙ i.1) ∙ (unfold inner_of in refl) in
        rw (e, in_it) (reached_deeper t revision number lent s d g r tag i.0 h i.1 (once x.once) (omega arith))

  reached_close : (g : Given) → Reached t revision number lent s d g → (closing t s (length d)).refusal ≡ 0
      → Reached t revision number lent (closing t s (length d)).state (close_buffer t s d) (closed g)
  unfolding closing close_buffer call_result buffer_after closed open_fields
  reached_close (message w) r e =
      let h = (close_room t s (length d) e).0.some_open in
      let c = r.count in
      absurd (omega arith)
  reached_close (opened tag w around) r e =
      rw e (reached_outer t revision number lent s d tag w around r (closing_part s) (closing_part_lem t revision number lent s d tag w around r) (close_room t s (length d) e).1)

  -- An accepted call keeps what holds of the state and the buffer.
  reached_next : (g : Given) → Reached t revision number lent s d g → (c : Call) → InRange c → (answer t s d c).refusal ≡ 0
      → Reached t revision number lent (answer t s d c).state (buffer t s d c) (giving t revision number c g)
  unfolding InRange answer buffer kind_in giving put call_result
  reached_next g r (put_uint tag v) h e =
      let agrees = eqb (kind_number (meant t s tag)) 1 in
      let m = put_met t s tag (length d) agrees true (length (field tag (least_uint v))) e in
      reached_put g r tag agrees true (least_uint v) (uint v)
      (suits_uint (means g r tag) v h (by_given g r tag (λ (k : Meaning). eqb (kind_number k) 1) m.agreed)) e
  reached_next g r (put_int tag z) h e =
      let agrees = eqb (kind_number (meant t s tag)) 2 in
      let m = put_met t s tag (length d) agrees true (length (field tag (least_int z))) e in
      reached_put g r tag agrees true (least_int z) (int z)
      (suits_int (means g r tag) z h (by_given g r tag (λ (k : Meaning). eqb (kind_number k) 2) m.agreed)) e
  reached_next g r (put_octets tag xs) h e =
      let agrees = of_octets (kind_number (meant t s tag)) in
      let reads = readable (kind_number (meant t s tag)) xs in
      let m = put_met t s tag (length d) agrees reads (length (field tag xs)) e in
      reached_put g r tag agrees reads xs (octets_as (kind_number (means g r tag)) xs)
      (suits_octets (means g r tag) xs (by_given g r tag (λ (k : Meaning). of_octets (kind_number k)) m.agreed)
      (by_given g r tag (λ (k : Meaning). readable (kind_number k) xs) m.read)) e
  reached_next g r (open_field tag) h e = reached_open g r tag e
  reached_next g r close_field h e = reached_close g r e

pub run_reached : (t : Table) (revision number : ℕ) (lent : List ℕ) (s : State) (d : List ℕ) (g : Given) → Run writer t revision number lent s d g → Reached t revision number lent s d g
run_reached t revision number lent s d g (start e) = reached_start t revision number lent e
run_reached t revision number lent s d g (next before b f run c h e) = reached_next t revision number lent before b f (run_reached t revision number lent before b f run) c h e

-- After a run the mask of each level notes just the single fields given there, by their order in the table.
pub run_masks : (t : Table) (revision number : ℕ) (lent : List ℕ) (s : State) (d : List ℕ) (g : Given) → Run writer t revision number lent s d g → MasksAgree t revision number s.masks g
run_masks t revision number lent s d g run = (run_reached t revision number lent s d g run).masks
