-- `shorten` copies a message that is in its shortest form, and writes any other if there is room.
use Prim.Native.Nat.{ℕ, ◌≤◌}
use native.Mathlib.Omega.{arith}
use mathlib.Core.Path.{◌≡◌, sym, ◌∙◌}
use mathlib.Core.List.{List}
use mathlib.Core.Bool.{Bool, true}
use lib.Dec.{leb}
use lib.ListN.{length}
use borrow.Author.Tests.{leb-true, leb-false, not-true, not-false}
use Rattle.std.specs.Prelude.{Err}
use Rattle.std.proofs.lemmas.Result.{err_from_is_err_and}
use Rattle.reading.specs.Checks as answers
use Rattle.table.specs.Schema.{Schema}
use Rattle.table_index.specs.internal.Cells.{indexed}
use Rattle.message_calls.specs.Check.{check_under}
use Rattle.message_calls.specs.Results.{checked_numbers}
use Rattle.message_calls.specs.internal.Stores.{shortest_within}
use Rattle.message_calls.specs.Shorten.{refusal, shortest_under}
use Rattle.message_calls.specs.internal.ShortenUnder.{shorten_under, buffer_under}
use Rattle.octets.proofs.Number.{octets_of_slice}
use Rattle.message_calls.proofs.Numbers.{fault_refuses, summary_passes}
use Rattle.message_calls.proofs.ShortAnswers.{short_is}
use Rattle.message_calls.proofs.ShortenAnswers.{passed-accepts, shortestUnder-is, refused-first, no_room, shortened, copied}
use Rattle.message_calls.proofs.shortest.shorten.Goals as goal
use Rattle.message_calls.proofs.shortest.shorten.Goals.{In_ok-c}

pub returns-in_err-c : goal.returns-in_err-c
unfolding refusal answers.refusal shorten_under buffer_under
returns-in_err-c c =
    let a = c.args in
    let sc = indexed a.index.now.cells in
    let m = a.message.now in
    let q = err_from_is_err_and c.from_residual.result c.from_residual.ensures.1 in
    let f = c.in_err-c.field-0.0 in
    let r = refused-first (check_under sc a.number m) (shortest_under sc a.number m) a.out.now (checked_numbers (Err f)) c.in_err-c.ensures.checked_value (fault_refuses f) in
    record { value = rw (q.1, q.2) r.result_is; out_after = r.buffer-is }

-- The check accepts the message.
module _ (d : In_ok-c) where
  abbrev n : ℕ
  n = d.args.number

  abbrev sc : Schema
  sc = indexed d.args.index.now.cells

  abbrev m : List ℕ
  m = d.args.message.now

  abbrev out : List ℕ
  out = d.args.out.now

  passed : (check_under sc n m).refusal ≡ 0
  passed = summary_passes (check_under sc n m) d.in_ok-c.c d.in_ok-c.ensures.checked_value

  abbrev form : List ℕ
  form = shortest_within sc 8 n m

pub returns-then-c : goal.returns-then-c
unfolding shorten_under buffer_under
returns-then-c c =
    let d = (goal.at.returns-then-c c).In_ok-c in
    let e = short_is (sc d) (n d) (m d) (sym c.in_ok-c.ensures.shortest_value ∙ c.if-c.true) in
    let r = copied (check_under (sc d) (n d) (m d)) (shortest_under (sc d) (n d) (m d)) (out d) (passed d) (m d) e in
    let w = c.copied.ensures in
    record { value = w.value ∙ r.result_is; out_after = w.out_after ∙ r.buffer-is }

pub has_room-requires : goal.has_room-requires
has_room-requires c =
    let d = (goal.at.has_room-requires c).In_ok-c in
    let h = passed-accepts (sc d) (n d) (m d) (passed d) in
    record { message_len_bound = h.0; octets = octets_of_slice (m d) (λ i. (c.type_inv.message i).fits); accepts = h.1 }

pub returns-then-not-has_room : goal.returns-then-not-has_room
unfolding refusal shorten_under buffer_under
returns-then-not-has_room c =
    let h = c.has_room in
    let d = (goal.at.returns-then-not-has_room c).In_ok-c in
    let k = leb-false (length (form d)) (length (out d)) (sym h.ensures ∙ not-true h.result c.if-not-has_room.true-raw) in
    let r = no_room (check_under (sc d) (n d) (m d)) (shortest_under (sc d) (n d) (m d)) (out d) (passed d) (rw (shortestUnder-is (sc d) (n d) (m d)) k) in
    record { value = rw c.at.ensures r.result_is; out_after = r.buffer-is }

-- There is room.
fits : (d : In_ok-c) (r : Bool) → r ≡ leb (length (form d)) (length (out d)) → r ≡ true → length (form d) ≤ length (out d)
fits d r e k = leb-true (length (form d)) (length (out d)) (sym e ∙ k)

pub write-end-requires : goal.write-end-requires
write-end-requires c =
    let d = (goal.at.write-end-requires c).In_ok-c in
    let p = passed-accepts (sc d) (n d) (m d) (passed d) in
    let k = fits d c.has_room.result c.has_room.ensures (not-false c.has_room.result c.if-not-has_room.false-raw) in
    record { octets = octets_of_slice (m d) (λ i. (c.type_inv.message i).fits); accepts = p.1; s_in_bounds = omega arith }

pub returns : goal.returns
unfolding shorten_under buffer_under
returns c =
    let w = c.write-end in
    let d = (goal.at.returns c).In_ok-c in
    let e = shortestUnder-is (sc d) (n d) (m d) in
    let k = fits d c.has_room.result c.has_room.ensures (not-false c.has_room.result c.if-not-has_room.false-raw) in
    let r = shortened (check_under (sc d) (n d) (m d)) (shortest_under (sc d) (n d) (m d)) (out d) (passed d) w.result w.new.out (rw e k) (rw e w.ensures.place) (rw e w.ensures.buffer) in
    record { value = r.result_is; out_after = r.buffer-is }
