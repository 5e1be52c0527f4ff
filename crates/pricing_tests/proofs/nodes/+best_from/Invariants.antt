use Rattle.pricing_tests.proofs.nodes.+best_from.Given as goal

abbrev pub decreases-best_from : goal.decreases-best_from
decreases-best_from l = l.visits
