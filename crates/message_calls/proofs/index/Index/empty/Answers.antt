-- An empty index has no single tags.
use Rattle.message_calls.proofs.IndexOrders.{empty_order}
use Rattle.message_calls.proofs.index.Index.empty.Goals as goal

pub invariant_of-result : goal.invariant_of-result
invariant_of-result c = record { one_order = empty_order }
