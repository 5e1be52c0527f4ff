use Rattle.std.proofs.Common.{List, length, filter, not, arith, sym, ap, subst, ◌∙◌}
use Rattle.std.proofs.lemmas.List.Elements.{All-filter}
use Rattle.crew_terms.specs.Rules.{IsTeam}
use Rattle.crew_terms.specs.declared.Team.{Team}
use Rattle.day_terms.specs.declared.Entry.TheVariants.{Sick}
use Rattle.day_terms.specs.State.{DayState, is_team}
use Rattle.day_terms.specs.Entries.{after_entry}
use Rattle.flight_changes.specs.Kept.{kept}
use Rattle.flight_changes.specs.Limits.{IsState}
use Rattle.flight_changes.proofs.Keyed.{Hold, hold_removed}
use Rattle.flight_changes.proofs.States.{other_teams, length_filter}
use Rattle.flight_changes.proofs.lists.Lists.drop_team.Goals as goal

holds : (c : goal.After-shift_remove) → Hold (λ t. t.name) c.shift_remove.new.self.entries (filter (λ t. not (is_team c.args.team.now t)) (kept c.self.inside).teams)
holds c =
    hold_removed (λ t. t.name) c.self.inside.teams.entries c.shift_remove.new.self.entries c.args.team.now c.self.invariant.teams_by_name c.self.invariant.state.parts.team_names c.shift_remove.ensures.entries c.shift_remove.ensures.unique

pub invariant_of-self : goal.invariant_of-self
invariant_of-self c =
    let s = kept c.self.inside in
    let is = c.self.invariant.state in
    let h = holds c in
    let few = is.parts.few_teams in
    let n = length_filter (λ t. not (is_team c.args.team.now t)) s.teams in
    record {
      teams_by_name = h.named;
      tasks_by_name = c.self.invariant.tasks_by_name;
      state = subst (λ ts. IsState (record s { teams = ts })) (sym h.values) (other_teams s is _ (omega arith) (All-filter (λ t. not (is_team c.args.team.now t)) (IsTeam (length s.places)) s.teams is.parts.teams) h.apart_names);
    }

pub returns : goal.returns
returns c =
    let with : List Team → DayState = λ ts. record (kept c.self.inside) { teams = ts } in
    ap with (holds c).values ∙ ap (λ s. after_entry s (Sick c.args.team.now)) c.self.view_is
