-- The contract is what `RunningOrder` proves.
use Rattle.schedule.proofs.RunningOrder.{order_is_sorted_lem}
use Rattle.schedule.proofs.laws.order_is_sorted.Goals as goal

pub returns : goal.returns
returns c = order_is_sorted_lem
