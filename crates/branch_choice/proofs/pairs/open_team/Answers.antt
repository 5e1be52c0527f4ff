use Rattle.std.proofs.Common.{below_more}
use Rattle.branch_choice.specs.Rules.{IsOpenPair}
use Rattle.branch_choice.proofs.Cuts.{lowest_of}
use Rattle.branch_choice.proofs.pairs.open_team.Goals as goal

pub returns-then-is_open : goal.returns-then-is_open
returns-then-is_open c =
    lowest_of (λ k. IsOpenPair c.args.limits.now.limits k c.args.j) c.loop-k.k (c.is_open.ensures.0 c.if-is_open.true) c.loop-k.invariant

pub loop-k-preserved : goal.loop-k-preserved
loop-k-preserved c =
    below_more (λ g. IsOpenPair c.args.limits.now.limits g c.args.j → ⊥) _ c.loop-k.invariant (λ is. let e = c.is_open.ensures.1 is in let f = c.if-is_open.false in absurd (cc))
