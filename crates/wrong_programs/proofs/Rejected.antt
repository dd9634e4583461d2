-- Programs that change what a rejected call has to leave: a lent buffer, or the writer's state. One such call is enough.
use Prim.Native.Nat.{ℕ}
use mathlib.Core.Path.{◌≡◌, refl}
use mathlib.Core.Bool.{Bool, true, false, cond}
use mathlib.Core.List.{List, []}
use lib.ListN.{length}
use lib.Dec.{ltb, eqb}
use Rattle.reading.specs.Reading.{message_limit}
use Rattle.table.specs.Load.{load}
use Rattle.message_calls.specs.Shorten as shortens
use Rattle.message_calls.specs.declared.Shortened.{Shortened}
use Rattle.message_calls.proofs.ShortenAnswers.{refused-leaves}
use Rattle.message_frame.specs.declared.FrameWritten.{FrameWritten}
use Rattle.message_frame.proofs.FrameWriteAnswers.{frame-refused-leaves}
use Rattle.message_calls.specs.Calls.{shorten_octets, shorten_buffer, with_table}
use Rattle.writer_state.specs.Call.{open_field, close_field}
use Rattle.writer_state.specs.declared.State.{State}
use Rattle.writer_state.specs.declared.Written.{Written}
use Rattle.writer_laws.proofs.Unchanged.{refused_unchanged}
use Rattle.wrong_programs.specs.Kinds.{RuledOut, Changes, rejected_by}
use Rattle.wrong_programs.specs.Shorten as shortener
use Rattle.wrong_programs.specs.FrameWrite as framer
use Rattle.wrong_programs.specs.Writer as writer
use Rattle.wrong_programs.proofs.RulingOut.{changes}

-- The shortener, with a table as its octets.
shorten_leaves : (table : List ℕ) (revision n : ℕ) (s out : List ℕ) → ((shorten_octets table revision n s out).refusal ≡ 0 → ⊥)
    → shorten_buffer table revision n s out ≡ out
unfolding shorten_octets shorten_buffer with_table shortens.refusal
shorten_leaves table revision n s out ne = go (ltb message_limit (length s)) (eqb (load table).refusal 0) ne
  where
    go : (a b : Bool)
        → ((cond a (shortens.refusal 1 0)
        (cond b (shortens.answer (load table).table revision n s out) (shortens.refusal (load table).refusal (load table).place))).refusal ≡ 0 → ⊥)
        → cond a out (cond b (shortens.buffer (load table).table revision n s out) out) ≡ out
    go true b k = refl
    go false true k = refused-leaves (load table).table revision n s out k
    go false false k = refl

pub shorten_stores : RuledOut (Changes (λ (a : Shortened × List ℕ). a.1) (λ (x : shortener.ShortenCall). x.value.out)
    (rejected_by shortener.shorten (λ (a : Shortened × List ℕ). a.0.refusal))) shortener.shorten
unfolding shortener.shorten
shorten_stores = changes (λ (a : Shortened × List ℕ). a.1) (λ (x : shortener.ShortenCall). x.value.out)
    (rejected_by shortener.shorten (λ (a : Shortened × List ℕ). a.0.refusal))
    (λ x ne.
    let c = x.value.within in
    shorten_leaves c.table c.revision c.number c.message x.value.out ne)

-- The frame writer.
pub frame_write_stores : RuledOut (Changes (λ (a : FrameWritten × List ℕ). a.1) (λ (x : framer.FrameWriteCall). x.value.out)
    (rejected_by framer.frame_write (λ (a : FrameWritten × List ℕ). a.0.refusal))) framer.frame_write
unfolding framer.frame_write
frame_write_stores = changes (λ (a : FrameWritten × List ℕ). a.1) (λ (x : framer.FrameWriteCall). x.value.out)
    (rejected_by framer.frame_write (λ (a : FrameWritten × List ℕ). a.0.refusal))
    (λ x ne. frame-refused-leaves x.value.message x.value.out ne)

-- The writer's calls: the buffer, and the state that they hand back.
abbrev refusal : writer.Outcome → ℕ
refusal r = r.answer.refusal

abbrev state_after : writer.Outcome → State
state_after r = r.answer.state

module _ (p : writer.Put) where
  pub put_stores : RuledOut (Changes (λ (r : writer.Outcome). r.buffer) (λ (x : writer.PutCall p). x.value.buffer) (rejected_by (writer.put p) refusal))
      (writer.put p)
  unfolding writer.put
  put_stores =
      changes (λ (r : writer.Outcome). r.buffer) (λ (x : writer.PutCall p). x.value.buffer) (rejected_by (writer.put p) refusal)
      (λ x ne. (refused_unchanged x.value.table x.value.state x.value.buffer (writer.call_of p x.value.tag x.value.value) ne).same_buffer)

  pub put_changes_state : RuledOut (Changes state_after (λ (x : writer.PutCall p). x.value.state) (rejected_by (writer.put p) refusal)) (writer.put p)
  unfolding writer.put
  put_changes_state =
      changes state_after (λ (x : writer.PutCall p). x.value.state) (rejected_by (writer.put p) refusal)
      (λ x ne. (refused_unchanged x.value.table x.value.state x.value.buffer (writer.call_of p x.value.tag x.value.value) ne).same_state)

pub open_changes_state : RuledOut (Changes (λ (r : Written). r.state) (λ (x : writer.OpenCall). x.value.state)
    (rejected_by writer.open_field (λ (r : Written). r.refusal))) writer.open_field
unfolding writer.open_field
open_changes_state = changes (λ (r : Written). r.state) (λ (x : writer.OpenCall). x.value.state)
    (rejected_by writer.open_field (λ (r : Written). r.refusal))
    (λ x ne. (refused_unchanged x.value.table x.value.state [] (open_field x.value.tag) ne).same_state)

pub close_stores : RuledOut (Changes (λ (r : writer.Outcome). r.buffer) (λ (x : writer.CloseCall). x.value.buffer) (rejected_by writer.close_field refusal))
    writer.close_field
unfolding writer.close_field
close_stores = changes (λ (r : writer.Outcome). r.buffer) (λ (x : writer.CloseCall). x.value.buffer) (rejected_by writer.close_field refusal)
    (λ x ne. (refused_unchanged x.value.table x.value.state x.value.buffer close_field ne).same_buffer)

pub close_changes_state : RuledOut (Changes state_after (λ (x : writer.CloseCall). x.value.state) (rejected_by writer.close_field refusal)) writer.close_field
unfolding writer.close_field
close_changes_state = changes state_after (λ (x : writer.CloseCall). x.value.state) (rejected_by writer.close_field refusal)
    (λ x ne. (refused_unchanged x.value.table x.value.state x.value.buffer close_field ne).same_state)
