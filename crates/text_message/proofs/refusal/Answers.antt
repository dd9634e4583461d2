-- `text_message::refusal` meets its contract.
use Rattle.std.proofs.Common.{rules, refl, ◌∙◌}
use Rattle.text_window.specs.Ascii.{ascii}
use Rattle.text_message.specs.Text.{refusal_text}
use Rattle.text_window.proofs.Prints.{and_then, whole}
use Rattle.text_message.proofs.Lengths.{refusal_fits}
use Rattle.text_message.proofs.refusal.Goals as goal

pub returns : goal.returns
unfolding refusal_text ascii
returns c =
    let a = c.args in
    let p = and_then (and_then (and_then (and_then c.octets.ensures c.decimal.ensures) c.octets-2.ensures) c.decimal-2.ensures) c.put.ensures in
    let name = p.same_buffer in
    let all = whole (refusal_text a.refusal a.place) (refusal_fits a.refusal a.place) refl p in
    record { value = all.0; out_after = ◌∙◌ {b = c.put.new.self.out.now} (search rules) all.1 }
