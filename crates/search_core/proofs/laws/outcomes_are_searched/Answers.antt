use Rattle.search_core.proofs.HandingOut.{handed}
use Rattle.search_core.proofs.laws.outcomes_are_searched.Goals as goal

pub returns : goal.returns
returns x = λ i budget kept pool s o t run outcome priced. record { run = run; plan = outcome.plan; tree = handed s t priced }
