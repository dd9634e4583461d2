-- Demand 2 of the order, its part about the writer, holds. specs/Demand2.antt states it.
use Prim.Native.Nat.{ℕ}
use native.Mathlib.Omega.{arith}
use mathlib.Core.Path.{◌≡◌, refl, sym, ap, ◌∙◌, subst}
use mathlib.Core.List.{List}
use Rattle.table.specs.Schema.{is_revision, schema}
use Rattle.table.specs.Valid.{valid}
use Rattle.table.specs.declared.Table.{Table}
use Rattle.octets.proofs.Bools.{and_both}
use Rattle.message.specs.Tree.{Tree, tree}
use Rattle.message.specs.Shortest.{shortest}
use Rattle.message.proofs.Accepted.{accepted_exactly}
use Rattle.message.proofs.Shortened.{others_more}
use Rattle.reading.specs.Checks.{counts}
use Rattle.message_calls.specs.Check.{tree_counts, check}
use Rattle.message_calls.proofs.CheckAnswers.{read_through}
use Rattle.writer_state.specs.Answer.{writer}
use Rattle.writer_state.specs.Calls.{finished}
use Rattle.writer_state.specs.declared.State.{State}
use Rattle.writer_laws.specs.Given.{Given, message, opened}
use Rattle.writer_laws.specs.Written.{written}
use Rattle.writer_laws.specs.Run.{Run}
use Rattle.writer_laws.specs.Refusal.{refusal_of_finish}
use Rattle.writer_laws.specs.Demand2.{Demand2, AfterRun, Demand2Holds}
use Rattle.writer_laws.proofs.Fields.{AllRead}
use Rattle.writer_laws.proofs.Buffer.{filled_end}
use Rattle.writer_laws.proofs.Reached.{Reached}
use Rattle.writer_laws.proofs.Accepted.{run_reached}
use Rattle.writer_laws.proofs.Refused.{start_refused, refusals}
use Rattle.writer_laws.proofs.Unchanged.{refused_unchanged, finish_unchanged}
use Rattle.writer_laws.proofs.Zeros.{zeros}

module _ (t : Table) (revision number : ℕ) (lent : List ℕ) (s : State) (d : List ℕ) where
  whole_reads : (w : Tree) → Reached t revision number lent s d (message w) → Demand2 check t revision number lent s.start d (message w)
  unfolding written AllRead tree_counts counts
  whole_reads w r =
      let sc = schema revision t in
      let back = r.reads in
      let p = r.filled.place in
      let limit = r.limit in
      let read = (accepted_exactly sc number (shortest w) back.cut).1 back.good in
      record {
        whole = w;
        all_given = refl;
        octets = shortest w;
        stand = filled_end lent d s.start (shortest w) r.filled;
        accepted =
            read_through t revision number (shortest w) (omega arith) (and_both (valid t) (is_revision revision) r.good_table r.good_revision) r.good_number ∙ ap (tree_counts sc number) read
            ∙ rw back.is refl;
        cut = back.cut;
        good = back.good;
        reads_back = back.is;
        is_shortest = rw (← back.is) (others_more sc number (shortest (tree sc number back.cut)) back.cut (rw back.is back.good));
      }

  finished_whole : (g : Given) → refusal_of_finish g ≡ 0 → Reached t revision number lent s d g → Demand2 check t revision number lent s.start d g
  unfolding refusal_of_finish
  finished_whole (message w) e r = whole_reads w r
  finished_whole (opened tag w around) e r = absurd (omega arith)

  finish_place : (finished s).refusal ≡ 0 → (finished s).start ≡ s.start
  unfolding finished
  finish_place e = rw e refl

  after_run : (g : Given) → Run writer t revision number lent s d g → AfterRun check writer t revision number lent s d g
  after_run g run =
      let r = run_reached t revision number lent s d g run in
      let next = refusals t revision number lent s d g run in
      record {
        refusals = next;
        stand = filled_end lent d s.start (written g) r.filled;
        finished =
            λ e. subst (λ (from : ℕ). Demand2 check t revision number lent from d g) (sym (finish_place e)) (finished_whole g (sym next.finish ∙ e) r);
      }

pub demand_2 : Demand2Holds check writer
demand_2 = record { starts = start_refused; runs = after_run; refused = refused_unchanged; finish_keeps = finish_unchanged; zeros = zeros }
