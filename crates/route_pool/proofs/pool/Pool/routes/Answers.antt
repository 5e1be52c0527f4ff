use Rattle.std.proofs.Common.{◌≢◌, AllPairs, subst}
use Rattle.route_pool.proofs.Standing.{apart}
use Rattle.route_pool.proofs.pool.Pool.routes.Goals as goal

pub returns-clause-apart : goal.returns-clause-apart
returns-clause-apart c =
    subst (AllPairs (λ a b. a ≢ b)) c.self.view_is (apart c.self.inside.routes.keys c.as_slice.ensures.unique)
