-- The refusals of start and of the calls after a run are those of specs/Refusal.antt.
use Prim.Native.Nat.{ℕ, ◌-◌}
use native.Mathlib.Omega.{arith}
use mathlib.Core.Path.{◌≡◌, refl, ap, ◌∙◌}
use mathlib.Core.Bool.{Bool, true, false, cond, not, ◌&&◌, ◌||◌}
use mathlib.Core.List.{List}
use lib.ListN.{length}
use lib.Dec.{leb, eqb}
use borrow.Author.Tests.{le-leb, ne_eqb}
use Rattle.octets.specs.Number.{least_uint}
use Rattle.octets.specs.Signed.{least_int}
use Rattle.octets.specs.Text.{text}
use Rattle.octets.specs.Control.{least_control}
use Rattle.reading.specs.Reading.{message_limit}
use Rattle.table.specs.Schema.{is_revision, schema}
use Rattle.table.specs.Valid.{valid}
use Rattle.table.specs.declared.Table.{Table}
use Rattle.message.specs.Shortest.{field, shortest}
use Rattle.message.specs.Single.{repeats}
use Rattle.octets_store.proofs.Room.{fits_after}
use Rattle.writer_state.specs.Calls.{or_refuse, call_result, meant, noted, of_octets, readable, put, put_refusal, opening, closing, close_refusal, start_refusal, started, finished}
use Rattle.writer_state.specs.declared.State.{State}
use Rattle.writer_laws.specs.Given.{Given, message, opened, tags_given, open_fields, innermost}
use Rattle.writer_laws.specs.Written.{written}
use Rattle.writer_laws.specs.Run.{kind_in, Run}
use Rattle.writer_state.specs.Call.{Call, put_uint, put_int, put_octets, open_field, close_field}
use Rattle.writer_state.specs.Answer.{answer, writer}
use Rattle.writer_laws.specs.Refusal.{refusal_of_start, refusal_for_repeat, refusal_for_room, refusal_of_close, refusal_of_call, refusal_of_finish, Refusals}
use Rattle.writer_laws.proofs.Reached.{Reached, reached_meant, reached_noted}
use Rattle.writer_laws.proofs.Moves.{closing_part_lem}
use Rattle.writer_laws.proofs.Decided.{put_decided, open_decided, close_decided, finish_decided}
use Rattle.writer_laws.proofs.Accepted.{run_reached}
use Rattle.table.specs.Entry.{kind_number}

pub start_refused : (t : Table) (revision number len : ℕ) → (started t revision number len).refusal ≡ refusal_of_start t revision number len
unfolding started call_result start_refusal or_refuse refusal_of_start
start_refused t revision number len = go (valid t) (is_revision revision)
  where
    go : (b v : Bool)
        → ◌≡◌ {A = ℕ} (cond (leb len message_limit) (cond b (cond v (cond (leb number 15) 0 2) 2) 2) 1)
        (cond (leb len message_limit) (cond (b && v && leb number 15) 0 2) 1)
    go true true = refl
    go true false = refl
    go false v = refl

-- Octets of any kind: the tests of the kind, and of text, as the definition has them.
octets_refused : (kind : ℕ) (xs : List ℕ) (repeat : ℕ → ℕ) (room : ℕ)
    → or_refuse (of_octets kind) 8 (repeat (or_refuse (readable kind xs) 7 room))
    ≡ cond (eqb kind 4) (repeat (cond (text xs) room 7)) (cond (eqb kind 3) (repeat room) 8)
unfolding or_refuse of_octets readable
octets_refused kind xs repeat room = go (eqb kind 3) (eqb kind 4)
  where
    go : (a b : Bool) → cond (a || b) (repeat (cond (cond b (text xs) true) room 7)) 8 ≡ cond b (repeat (cond (text xs) room 7)) (cond a (repeat room) 8)
    go true true = refl
    go true false = refl
    go false true = refl
    go false false = refl

module _ (t : Table) (revision number : ℕ) (lent : List ℕ) (s : State) (d : List ℕ) where
  module _ (g : Given) (r : Reached t revision number lent s d g) where
    -- The free octets are those of the lent buffer beside what is written.
    room_decided : (size : ℕ) → or_refuse (leb size s.start) 9 0 ≡ refusal_for_room (length lent) g size
    unfolding refusal_for_room or_refuse
    room_decided size =
        let p = r.filled.place in
        let e : s.start ≡ length lent - length (written g) = omega arith in
        ap (λ (b : Bool). cond b 0 9) (ap (leb size) e ∙ fits_after (length lent) (length (written g)) size (omega arith))

    kind_decided : (tag : ℕ) → kind_number (meant t s tag) ≡ kind_in t revision number g tag
    unfolding kind_in
    kind_decided tag = ap kind_number (reached_meant t revision number lent s d g r tag)

    repeat_decided : (tag next : ℕ) → or_refuse (not (noted t s tag)) 20 next ≡ refusal_for_repeat t revision number g tag next
    unfolding refusal_for_repeat or_refuse
    repeat_decided tag next = rw (reached_noted t revision number lent s d g r tag) (go (repeats (schema revision t) (innermost (schema revision t) number g) (tags_given g) tag))
      where
        go : (b : Bool) → cond (not b) next 20 ≡ cond b 20 next
        go true = refl
        go false = refl

    put_refused : (tag : ℕ) (agrees reads : Bool) (size : ℕ)
        → put_refusal t s tag (length d) agrees reads size
        ≡ or_refuse agrees 8 (refusal_for_repeat t revision number g tag (or_refuse reads 7 (refusal_for_room (length lent) g size)))
    put_refused tag agrees reads size =
        put_decided t revision number lent s d g r tag agrees reads size
        ∙ rw (room_decided size, repeat_decided tag (or_refuse reads 7 (refusal_for_room (length lent) g size))) refl

  close_refused : (g : Given) → Reached t revision number lent s d g → close_refusal t s (length d) ≡ refusal_of_close (length lent) g
  unfolding refusal_of_close or_refuse open_fields
  close_refused (message w) r =
      close_decided t revision number lent s d (message w) r ∙ rw r.count refl
  close_refused (opened tag w around) r =
      let c = r.count in
      close_decided t revision number lent s d (opened tag w around) r
      ∙ rw (le-leb 1 s.opened (omega arith), closing_part_lem t revision number lent s d tag w around r)
      (room_decided (opened tag w around) r (length (least_control tag (length (shortest w)))))

  call_refused : (g : Given) → Reached t revision number lent s d g → (c : Call) → (answer t s d c).refusal ≡ refusal_of_call t revision number (length lent) g c
  unfolding answer refusal_of_call put opening closing call_result or_refuse
  call_refused g r (put_uint tag v) =
      put_refused g r tag (eqb (kind_number (meant t s tag)) 1) true (length (field tag (least_uint v))) ∙ rw (kind_decided g r tag) refl
  call_refused g r (put_int tag z) =
      put_refused g r tag (eqb (kind_number (meant t s tag)) 2) true (length (field tag (least_int z))) ∙ rw (kind_decided g r tag) refl
  call_refused g r (put_octets tag xs) =
      put_refused g r tag (of_octets (kind_number (meant t s tag))) (readable (kind_number (meant t s tag)) xs) (length (field tag xs))
      ∙ rw (kind_decided g r tag)
      (octets_refused (kind_in t revision number g tag) xs (refusal_for_repeat t revision number g tag) (refusal_for_room (length lent) g (length (field tag xs))))
  call_refused g r (open_field tag) =
      open_decided t revision number lent s d g r tag (eqb (kind_number (meant t s tag)) 5)
      ∙ rw (repeat_decided g r tag (or_refuse (leb s.opened 6) 5 0), kind_decided g r tag, r.count) refl
  call_refused g r close_field = close_refused g r

  finish_refused : (g : Given) → Reached t revision number lent s d g → (finished s).refusal ≡ refusal_of_finish g
  unfolding finished refusal_of_finish or_refuse open_fields
  finish_refused (message w) r = finish_decided t revision number lent s d (message w) r ∙ rw r.count refl
  finish_refused (opened tag w around) r =
      let c = r.count in
      finish_decided t revision number lent s d (opened tag w around) r ∙ rw (ne_eqb s.opened 0 (λ z. omega arith)) refl

-- For every run.
pub refusals : (t : Table) (revision number : ℕ) (lent : List ℕ) (s : State) (d : List ℕ) (g : Given) → Run writer t revision number lent s d g
    → Refusals writer t revision number lent s d g
refusals t revision number lent s d g run =
    let r = run_reached t revision number lent s d g run in
    record { calls = call_refused t revision number lent s d g r; finish = finish_refused t revision number lent s d g r }
