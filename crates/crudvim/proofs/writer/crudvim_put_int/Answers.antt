-- `crudvim_put_int` meets its contract: the call on the state in the array.
use mir.ValLaws.{to_z-of_z}
use mir.Syntax.{w64}
use mathlib.Core.Path.{ap, ◌∙◌}
use lib.IntN.{ℤ}
use Rattle.writer_state.specs.ByOctets.{answer_octets, buffer_octets}
use Rattle.writer_state.specs.Call.{put_int}
use Rattle.writer_words.proofs.Answers.{called, called_buffer}
use Rattle.crudvim.proofs.writer.crudvim_put_int.Goals as goal

pub returns : goal.returns
returns c =
    let a = c.args in
    let e = c.state_of-given.ensures in
    let s = c.state_of-given.result in
    let p = c.put_int_by_octets-put_int.ensures in
    let w = c.answered.ensures in
    let v = to_z-of_z w64 a.value c.ranges.value in
    let answer = p.value ∙ ap (λ (z : ℤ). answer_octets a.table.now s a.buffer.now (put_int a.tag z)) v in
    let stored = p.out_after ∙ ap (λ (z : ℤ). buffer_octets a.table.now s a.buffer.now (put_int a.tag z)) v in
    record {
      value_value = called a.table.now a.state.now a.buffer.now (put_int a.tag a.value) e answer w.refusal w.place_after w.state_after;
      buffer_after = called_buffer a.table.now a.state.now a.buffer.now (put_int a.tag a.value) e stored;
    }
