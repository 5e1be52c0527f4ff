use Rattle.std.proofs.Common.{is_some, sym, ap, ◌∙◌}
use Rattle.std.specs.Prelude.{find, option_copied}
use Rattle.day_terms.specs.State.{has_team, is_team}
use Rattle.flight_changes.proofs.Keyed.{is_there, looked_up, some_copied}
use Rattle.flight_changes.proofs.lists.Lists.team.Goals as goal

pub unwrap-requires : goal.unwrap-requires
unwrap-requires c =
    let there = is_there (λ t. t.name) c.self.inside.teams.entries c.args.name.now c.self.invariant.teams_by_name in
    some_copied c.get.result (ap is_some c.get.ensures.value ∙ there ∙ ap (λ s. has_team s c.args.name.now) c.self.view_is ∙ c.requires)

pub returns-clause-team : goal.returns-clause-team
returns-clause-team c =
    let same = looked_up (λ t. t.name) c.self.inside.teams.entries c.args.name.now c.self.invariant.teams_by_name in
    ap (λ s. find (is_team c.args.name.now) s.teams) (sym c.self.view_is) ∙ sym same ∙ sym c.get.ensures.value ∙ ap option_copied c.unwrap.ensures
