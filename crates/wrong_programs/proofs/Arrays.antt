-- Wrong programs in the place of the writer's calls that C programs make.
use Prim.Native.Nat.{ℕ}
use native.Mathlib.Omega.{arith}
use mathlib.Core.Path.{◌≡◌, sym, ◌∙◌}
use mathlib.Core.List.{List}
use lib.ListN.{length, replicate}
use Rattle.writer_words.specs.Words.{CallAnswer, FinishAnswer, state_words}
use Rattle.writer_laws.proofs.Arrays.{array_demand_2}
use Rattle.wrong_programs.specs.Kinds.{RuledOut, AcceptsSome, Changes, rejected_by}
use Rattle.wrong_programs.specs.Arrays.{ArrayInput, ArrayOutcome, array_call, ArrayStart, array_start, array_finish}
use Rattle.wrong_programs.proofs.RulingOut.{accepts_some, changes}

abbrev refusal : ArrayOutcome → ℕ
refusal r = r.answer.refusal

abbrev array_after : ArrayOutcome → List ℕ
array_after r = r.answer.array

abbrev buffer_after : ArrayOutcome → List ℕ
buffer_after r = r.buffer

-- It accepts an array of another length.
pub accepts_other_array : RuledOut (AcceptsSome refusal (λ (x : ArrayInput). length x.array ≡ state_words → ⊥)) array_call
unfolding array_call
accepts_other_array =
    accepts_some refusal _ (λ x w e.
    let k = sym (array_demand_2.other_length x.table x.array x.buffer x.call w) ∙ e in
    omega arith)

-- It changes the array, or the buffer, in a call that is refused.
pub changes_array : RuledOut (Changes array_after (λ (x : ArrayInput). x.array) (rejected_by array_call refusal)) array_call
unfolding array_call
changes_array = changes array_after _ _ (λ x w. (array_demand_2.refused x.table x.array x.buffer x.call w).0)

pub changes_buffer : RuledOut (Changes buffer_after (λ (x : ArrayInput). x.buffer) (rejected_by array_call refusal)) array_call
unfolding array_call
changes_buffer = changes buffer_after _ _ (λ x w. (array_demand_2.refused x.table x.array x.buffer x.call w).1)

-- ---- start and finish

abbrev start_refusal : CallAnswer → ℕ
start_refusal r = r.refusal

pub start_accepts_other_array : RuledOut (AcceptsSome start_refusal (λ (x : ArrayStart). length x.array ≡ state_words → ⊥)) array_start
unfolding array_start
start_accepts_other_array =
    accepts_some start_refusal _ (λ x w e.
    let k = sym (array_demand_2.start_other x.table x.revision x.number x.length x.array w) ∙ e in
    omega arith)

-- It leaves something in the array although it refuses.
pub refused_start_leaves : RuledOut (Changes (λ (r : CallAnswer). r.array) (λ (x : ArrayStart). replicate (length x.array) 0) (rejected_by array_start start_refusal)) array_start
unfolding array_start
refused_start_leaves = changes _ _ _ (λ x w. array_demand_2.start_refused x.table x.revision x.number x.length x.array w)

abbrev finish_refusal : FinishAnswer → ℕ
finish_refusal r = r.refusal

pub finish_accepts_other_array : RuledOut (AcceptsSome finish_refusal (λ (ws : List ℕ). length ws ≡ state_words → ⊥)) array_finish
unfolding array_finish
finish_accepts_other_array =
    accepts_some finish_refusal _ (λ ws w e.
    let k = sym (array_demand_2.finish_other ws w) ∙ e in
    omega arith)
