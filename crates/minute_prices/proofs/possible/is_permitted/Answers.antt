use Rattle.std.proofs.Common.{◌≡◌, ◌≤◌, arith, leb}
use Rattle.std.proofs.lemmas.Bool.{le-leb, leb-true}
use Rattle.node_limits.specs.Minutes.{AreMinutes}
use Rattle.minute_prices.proofs.possible.is_permitted.Goals as goal

pub returns-then-first-t : goal.returns-then-first-t
returns-then-first-t c =
    let are : AreMinutes c.args.limits.now.limits c.args.k c.args.j c.in-Some.first c.in-Some.last = c.in-Some.ensures.exact in (
      (λ e. (are.each c.args.t).1 (c.if-first-t.true, leb-true c.args.t c.in-Some.last e)),
      (λ visit. le-leb c.args.t c.in-Some.last ((are.each c.args.t).0 visit).1),
    )

pub returns-else-first-t : goal.returns-else-first-t
returns-else-first-t c =
    let are : AreMinutes c.args.limits.now.limits c.args.k c.args.j c.in-Some.first c.in-Some.last = c.in-Some.ensures.exact in (
      (λ e. let a = leb-true c.in-Some.first c.args.t e in let b = c.if-first-t.false in absurd (omega arith)),
      (λ visit. le-leb c.in-Some.first c.args.t ((are.each c.args.t).0 visit).0),
    )
