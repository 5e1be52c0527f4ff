use Rattle.search_terms.specs.Inside.{IsNode}
use Rattle.closing_tests.proofs.closings.node.Given as goal

abbrev pub invariant-loop-k : goal.invariant-loop-k
invariant-loop-k g l = IsNode l.limits.limits

abbrev pub invariant-loop-k-2 : goal.invariant-loop-k-2
invariant-loop-k-2 g l = IsNode l.limits.limits
