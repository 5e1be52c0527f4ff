use Rattle.closing_tests.proofs.splits.prices_of.Goals as goal

pub loop-j-init : goal.loop-j-init
loop-j-init c = c.in_ok-prices.ensures.prices
