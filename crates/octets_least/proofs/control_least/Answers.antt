-- `octets_least::control_least` meets its contract.
use Rattle.octets_least.proofs.Forms.{control_is}
use Rattle.octets_least.proofs.control_least.Goals as goal

pub returns : goal.returns
returns c = control_is _ _ _ _ _ _ c.tag_lead-t.ensures c.length_lead-l.ensures
