use Rattle.std.proofs.Common.{◌≡◌, ap, ◌∙◌}
use Rattle.std.specs.List.{position}
use Rattle.crew_terms.specs.Limits.{Route}
use Rattle.route_terms.specs.Keys.{same_route}
use Rattle.route_terms.specs.Routes.{route_of}
use Rattle.column_arena.proofs.Finding.{found}
use Rattle.column_arena.proofs.store.Store.find.Goals as goal

pub returns : goal.returns
returns c =
    let r = route_of c.args.team c.args.visits.now in
    let at : c.get_index_of-2.result ≡ position (same_route r) c.args.self.now = c.get_index_of-2.ensures.index
    ∙ ap (λ (s : Route). position (same_route s) c.self.inside.routes.keys) c.lent.ensures ∙ ap (position (same_route r)) c.self.view_is in
    found c.args.self.now r _ at
