use Rattle.pricing_tests.proofs.priced.prices_of.Goals as goal

pub loop-j-init : goal.loop-j-init
loop-j-init c = record { prices = c.in_ok-prices.ensures.prices; required = c.in_ok-prices.ensures.on_required }
