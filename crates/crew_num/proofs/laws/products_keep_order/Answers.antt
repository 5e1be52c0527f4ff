use Rattle.crew_num.specs.Ring.{cancel_up_to, times_up_to}
use Rattle.crew_num.proofs.laws.products_keep_order.Goals as goal

pub returns : goal.returns
returns c = record { kept = times_up_to; shown = cancel_up_to }
