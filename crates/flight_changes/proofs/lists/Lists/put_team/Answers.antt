use Rattle.std.proofs.Common.{List, is_some, length, map, arith, sym, ap, subst, ◌∙◌, if◌then◌else◌}
use Rattle.std.proofs.lemmas.List.{length-map}
use Rattle.crew_terms.specs.Rules.{IsTeam}
use Rattle.crew_terms.specs.declared.Team.{Team}
use Rattle.day_terms.specs.State.{DayState, has_team, is_team, with_changed_team}
use Rattle.flight_changes.specs.Kept.{kept}
use Rattle.flight_changes.specs.Limits.{IsState}
use Rattle.flight_changes.proofs.Keyed.{Hold, hold_written, is_there, some_copied_mut}
use Rattle.flight_changes.proofs.States.{all_replaced, other_teams}
use Rattle.flight_changes.proofs.lists.Lists.put_team.Goals as goal

pub unwrap-requires : goal.unwrap-requires
unwrap-requires c =
    let there = is_there (λ t. t.name) c.self.inside.teams.entries c.args.team.name c.self.invariant.teams_by_name in
    some_copied_mut c.get_mut.result (ap is_some c.get_mut.ensures.value ∙ there ∙ ap (λ s. has_team s c.args.team.name) c.self.view_is ∙ c.requires.known)

holds : (c : goal.After-self-1) → Hold (λ t. t.name) (c.get_mut.follows.lender c.args.team).entries (map (λ t. if is_team c.args.team.name t then c.args.team else t) (kept c.self.inside).teams)
holds c =
    let through = c.get_mut.follows.holds c.args.team in
    hold_written (λ t. t.name) c.self.inside.teams.entries (c.get_mut.follows.lender c.args.team).entries c.args.team c.self.invariant.teams_by_name c.self.invariant.state.parts.team_names through.0 through.4

pub invariant_of-self : goal.invariant_of-self
invariant_of-self c =
    let s = kept c.self.inside in
    let is = c.self.invariant.state in
    let h = holds c in
    let few = is.parts.few_teams in
    let n = length-map s.teams (λ t. if is_team c.args.team.name t then c.args.team else t) in
    let fits : IsTeam (length s.places) c.args.team = subst (λ s. IsTeam (length s.places) c.args.team) (sym c.self.view_is) c.requires.fits in
    record {
      teams_by_name = h.named;
      tasks_by_name = c.self.invariant.tasks_by_name;
      state = subst (λ ts. IsState (record s { teams = ts })) (sym h.values) (other_teams s is _ (omega arith) (all_replaced (IsTeam (length s.places)) (is_team c.args.team.name) c.args.team s.teams fits is.parts.teams) h.apart_names);
    }

pub returns : goal.returns
returns c =
    let with : List Team → DayState = λ ts. record (kept c.self.inside) { teams = ts } in
    ap with (holds c).values ∙ ap (λ s. with_changed_team s c.args.team.name (λ _. c.args.team)) c.self.view_is
