use Rattle.std.proofs.lemmas.Result.{IfOk-weaker}
use Rattle.price_ascent.specs.declared.ascent.Ascended.{Ascended}
use Rattle.search_terms.specs.Proven.{ProveAsMuch}
use Rattle.node_solver.proofs.rising.rise.Goals as goal

pub returns-clause-as_much : goal.returns-clause-as_much
returns-clause-as_much c =
    let n = c.args.limits.now.limits in
    IfOk-weaker c.ascend-2.result (λ (a : Ascended). ProveAsMuch n a.prices c.in_ok-first.first.prices) (λ (a : Ascended). ProveAsMuch n a.prices c.args.start)
    (λ a more l known proved. more l known (c.in_ok-first.ensures.as_much l known proved)) c.ascend-2.ensures.as_much
