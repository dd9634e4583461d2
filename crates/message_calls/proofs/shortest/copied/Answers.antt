-- `copied` stores the message where there is room for it.
use Rattle.message_calls.proofs.ShortenAnswers.{copy-no-room, copy-fits}
use Rattle.message_calls.proofs.shortest.copied.Goals as goal

pub returns-then-out-n : goal.returns-then-out-n
returns-then-out-n c =
    let a = c.args in
    let k = copy-no-room a.message.now a.out.now c.if-out-n.true in record { value = rw c.at.ensures k.0; out_after = k.1 }

pub returns : goal.returns
returns c =
    let a = c.args in
    let all = copy-fits a.message.now a.out.now c.if-out-n.false c.put_octets.new.out c.put_octets.ensures in record { value = all.0; out_after = all.1 }
