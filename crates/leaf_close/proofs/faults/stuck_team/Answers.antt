use Rattle.std.proofs.Common.{ap, length, arith, below_more}
use Rattle.search_terms.specs.Closing.{IsStuck}
use Rattle.leaf_close.proofs.faults.stuck_team.Goals as goal

pub returns-then-is_stuck : goal.returns-then-is_stuck
returns-then-is_stuck c = record {
  team = let a = ap (λ i. length i.teams) c.instance.ensures.instance in omega arith;
  stuck = c.if-is_stuck.ensures;
  earlier = c.loop-k.invariant;
}

pub loop-k-preserved : goal.loop-k-preserved
loop-k-preserved c = below_more (λ h. IsStuck c.args.limits.now.limits h → ⊥) _ c.loop-k.invariant c.if-is_stuck.ensures

pub returns : goal.returns
returns c = λ k l. c.loop-k.invariant k (let a = ap (λ i. length i.teams) c.instance.ensures.instance in let b = c.loop-k-test.false in omega arith)
