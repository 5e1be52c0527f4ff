use Rattle.std.proofs.Common.{◌≡◌, ap, subst, sym, arith}
use Rattle.crew_terms.specs.Legal.{IsLegal}
use Rattle.crew_terms.specs.Limits.{IsWithin}
use Rattle.crew_terms.specs.Plan.{unassigned_count}
use Rattle.search_terms.specs.Closing.{HasOnePlan, required_plan}
use Rattle.search_terms.specs.Proven.{PricesProve}
use Rattle.leaf_close.proofs.Closed.{fault_excludes, fault_prices, is_fault, no_plan}
use Rattle.leaf_close.proofs.closings.close_decided.Goals as goal

pub returns-in-Some-clause-prices : goal.returns-in-Some-clause-prices
returns-in-Some-clause-prices c = fault_prices c.args.limits.now.limits c.in-Some.fault c.in_ok-prices.prices c.in-Some.ensures c.in_ok-prices.ensures.prices

pub returns-in-Some-clause-no_plan : goal.returns-in-Some-clause-no_plan
returns-in-Some-clause-no_plan c = λ fault.
    no_plan c.args.limits.now.limits c.in-Some.fault c.in_ok-prices.prices
    (record { stuck = c.decided_cases.ensures.stuck; crowded = c.decided_cases.ensures.crowded; short = c.decided_cases.ensures.short })
    c.instance.ensures.is_instance c.requires.node.limits c.requires.decided c.in_ok-prices.ensures.range c.in-Some.ensures c.in_ok-prices.ensures.prices

pub returns-in-Some-clause-one_plan : goal.returns-in-Some-clause-one_plan
returns-in-Some-clause-one_plan c = λ none. absurd (fault_excludes c.args.limits.now.limits (is_fault c.args.limits.now.limits c.in-Some.fault c.in-Some.ensures) none)

pub returns-in-Some-clause-plan : goal.returns-in-Some-clause-plan
returns-in-Some-clause-plan c = λ better. fault_excludes c.args.limits.now.limits (is_fault c.args.limits.now.limits c.in-Some.fault c.in-Some.ensures) better.none

pub returns-in-Some-clause-closed : goal.returns-in-Some-clause-closed
returns-in-Some-clause-closed c =
    (no_plan c.args.limits.now.limits c.in-Some.fault c.in_ok-prices.prices
    (record { stuck = c.decided_cases.ensures.stuck; crowded = c.decided_cases.ensures.crowded; short = c.decided_cases.ensures.short })
    c.instance.ensures.is_instance c.requires.node.limits c.requires.decided c.in_ok-prices.ensures.range c.in-Some.ensures c.in_ok-prices.ensures.prices).proved c.args.best c.requires.best

pub returns-then-unassigned-best-clause-no_plan : goal.returns-then-unassigned-best-clause-no_plan
returns-then-unassigned-best-clause-no_plan c = λ fault. absurd (fault_excludes c.args.limits.now.limits fault c.in_default.ensures)

pub returns-then-unassigned-best-clause-one_plan :
    goal.returns-then-unassigned-best-clause-one_plan
returns-then-unassigned-best-clause-one_plan c = λ none.
    c.decided_cases.ensures.one c.args.limits.now.limits c.in_ok-prices-2.prices c.instance.ensures.is_instance c.requires.node c.requires.decided c.in_ok-prices-2.ensures.range none.teams none.tasks c.in_ok-prices-2.ensures.prices

pub returns-then-unassigned-best-clause-closed : goal.returns-then-unassigned-best-clause-closed
returns-then-unassigned-best-clause-closed c =
    let n = c.args.limits.now.limits in
    let none = c.in_default.ensures in
    let one : HasOnePlan c.args.limits.now.limits c.in_ok-prices-2.prices (required_plan c.args.limits.now.limits) =
    c.decided_cases.ensures.one n c.in_ok-prices-2.prices c.instance.ensures.is_instance c.requires.node c.requires.decided c.in_ok-prices-2.ensures.range none.teams none.tasks c.in_ok-prices-2.ensures.prices in
    let is : c.in_ok-plan.plan ≡ required_plan c.args.limits.now.limits = c.in_ok-plan.ensures in
    record {
      legal = subst (IsLegal n.instance) (sym is) one.legal;
      within = subst (IsWithin n) (sym is) one.within;
      fewer = (let e = c.unassigned.ensures in let l = c.if-unassigned-best.true in omega arith);
      proved = subst (λ q. PricesProve n c.in_ok-prices-2.prices (unassigned_count q)) (sym is) one.proved;
    }

pub returns-else-unassigned-best-clause-no_plan : goal.returns-else-unassigned-best-clause-no_plan
returns-else-unassigned-best-clause-no_plan c = λ fault. absurd (fault_excludes c.args.limits.now.limits fault c.in_default.ensures)

pub returns-else-unassigned-best-clause-one_plan :
    goal.returns-else-unassigned-best-clause-one_plan
returns-else-unassigned-best-clause-one_plan c = λ none.
    c.decided_cases.ensures.one c.args.limits.now.limits c.in_ok-prices-2.prices c.instance.ensures.is_instance c.requires.node c.requires.decided c.in_ok-prices-2.ensures.range none.teams none.tasks c.in_ok-prices-2.ensures.prices

pub returns-else-unassigned-best-clause-closed : goal.returns-else-unassigned-best-clause-closed
returns-else-unassigned-best-clause-closed c =
    let n = c.args.limits.now.limits in
    let none = c.in_default.ensures in
    let one : HasOnePlan c.args.limits.now.limits c.in_ok-prices-2.prices (required_plan c.args.limits.now.limits) =
    c.decided_cases.ensures.one n c.in_ok-prices-2.prices c.instance.ensures.is_instance c.requires.node c.requires.decided c.in_ok-prices-2.ensures.range none.teams none.tasks c.in_ok-prices-2.ensures.prices in
    let is = ap unassigned_count c.in_ok-plan.ensures in
    let count = c.unassigned.ensures in
    let most = c.if-unassigned-best.false in
    c.less_is_proved.ensures n c.in_ok-prices-2.prices (unassigned_count (required_plan n)) c.args.best (omega arith) one.proved
