use Rattle.std.proofs.Common.{ap}
use Rattle.node_limits.specs.Trail.{Trail}
use Rattle.cert_checker.proofs.PoolRows.{rest_is_root}
use Rattle.cert_checker.proofs.rooms.root_for.Goals as goal

pub returns : goal.returns
returns c =
    let t = c.in_ok-limits.limits in
    let is = c.in_ok-limits.ensures in
    rest_is_root c.args.instance.now t c.rest.result (ap (λ (x : Trail). x.limits) is) (ap (λ (x : Trail). x.past) is) c.rest.ensures.same c.rest.ensures.over
