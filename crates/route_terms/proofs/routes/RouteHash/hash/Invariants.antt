use Rattle.std.proofs.Common.{◌≡◌, take}
use Rattle.std.specs.List.{flat_map, fold}
use Rattle.route_terms.specs.Keys.{visit_input}
use Rattle.route_terms.proofs.routes.RouteHash.hash.Given as goal

-- what was hashed since the loop began are the visits so far
abbrev pub invariant-loop-visit : goal.invariant-loop-visit
invariant-loop-visit g l = l.state ≡ fold g.H.Hasher.write l.initial.state (flat_map visit_input (take l.visit-index l.visit-items))
