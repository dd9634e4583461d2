-- `tib_msg::shown` meets its contract.
use mathlib.Core.Path.{sym, ◌∙◌}
use Rattle.tib_msg.proofs.Shows.{shown_is, no_hint, hint_told}
use Rattle.tib_msg.proofs.shown.Goals as goal

pub returns : goal.returns
returns c =
    let m = c.args.message.now in
    let h = hint_told c.hinted-present.result (record { kind = c.first.result; value = c.hint_value-value.result })
    (λ e. no_hint m c.args.at c.args.z c.requires.0 c.kind-k.result _ _ (c.requires.2 (sym c.hinted-present.ensures ∙ e)) c.hint_value-value.ensures c.first.ensures) in
    rw (c.then_some.ensures, h.0, h.1)
    (shown_is m c.args.at c.args.z c.requires.0 c.kind-k.result c.hint_value-value.result c.first.result
    c.hinted-present.result c.real_shown.result c.kind-k.ensures c.hinted-present.ensures c.hint_value-value.ensures
    c.first.ensures c.real_shown.ensures)
