use Rattle.std.proofs.Common.{subst, ◌∙◌, ap}
use Rattle.flight_changes.specs.Limits.{IsState}
use Rattle.flight_changes.proofs.ByNumber.{rows_same}
use Rattle.flight_changes.proofs.Instances.{are_times}
use Rattle.flight_changes.proofs.NamedJobs.{instance_of_lists}
use Rattle.flight_changes.proofs.lists.Lists.instance.Goals as goal

pub of_parts-requires : goal.of_parts-requires
of_parts-requires c =
    let is = subst IsState c.self.view_is c.self.invariant.state in
    let places = c.in_ok-places.ensures.items ∙ c.as_slice.ensures.keys ∙ ap (λ s. s.places) c.self.view_is in
    let travel = c.in_ok-travel.ensures ∙ rows_same c.args.self.now is.parts.place_names in
    rw (places, c.in_ok-teams.ensures, c.in_ok-tasks.ensures, travel) (record { parts = is.parts; times = are_times c.args.self.now is })

pub returns : goal.returns
returns c =
    let is = subst IsState c.self.view_is c.self.invariant.state in
    let places = c.in_ok-places.ensures.items ∙ c.as_slice.ensures.keys ∙ ap (λ s. s.places) c.self.view_is in
    let travel = c.in_ok-travel.ensures ∙ rows_same c.args.self.now is.parts.place_names in
    c.of_parts.ensures ∙ instance_of_lists c.args.self.now _ _ _ _ places c.in_ok-teams.ensures c.in_ok-tasks.ensures travel
