use Rattle.std.proofs.Common.{◌≡◌, ◌∙◌, Some, length, sym, ap}
use Rattle.std.specs.Prelude.{position, unwrap_or}
use Rattle.day_terms.specs.Instances.{team_number}
use Rattle.day_terms.specs.State.{has_team, is_team}
use Rattle.flight_changes.specs.Kept.{kept}
use Rattle.flight_changes.proofs.ByPlace.{placed}
use Rattle.flight_changes.proofs.Keyed.{is_there}
use Rattle.flight_changes.proofs.lists.Lists.number_of_team.Goals as goal

pub unwrap-requires : goal.unwrap-requires
unwrap-requires c =
    c.get_index_of.ensures.found
    ∙ is_there (λ t. t.name) c.self.inside.teams.entries c.args.name.now c.self.invariant.teams_by_name
    ∙ ap (λ s. has_team s c.args.name.now) c.self.view_is
    ∙ c.requires

pub returns : goal.returns
returns c =
    let s = kept c.self.inside in
    let name = c.args.name.now in
    let here : position (is_team name) s.teams ≡ Some c.unwrap.result =
    sym (placed (λ t. t.name) c.self.inside.teams.entries name c.self.invariant.teams_by_name) ∙ sym c.get_index_of.ensures.index ∙ c.unwrap.ensures in
    sym (ap (λ s. team_number s name) (sym c.self.view_is) ∙ ap (λ o. unwrap_or o (length s.teams)) here)
