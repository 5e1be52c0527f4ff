use Rattle.std.proofs.Common.{◌≡◌, ◌<◌, ◌++◌, ◌∷◌, [], false, List, length, arith, sym, ap, subst, ◌∙◌}
use Rattle.std.proofs.lemmas.List.{length_push}
use Rattle.std.proofs.lemmas.List.Elements.{All-push}
use Rattle.crew_terms.specs.Rules.{IsTeam}
use Rattle.crew_terms.specs.declared.TheConstants.{MOST_TEAMS}
use Rattle.crew_terms.specs.declared.Team.{Team}
use Rattle.day_terms.specs.State.{DayState, has_team}
use Rattle.flight_changes.specs.Kept.{kept}
use Rattle.flight_changes.specs.Limits.{IsState}
use Rattle.flight_changes.proofs.Keyed.{Hold, hold_added}
use Rattle.flight_changes.proofs.States.{other_teams}
use Rattle.flight_changes.proofs.lists.Lists.add_team.Goals as goal

holds : (c : goal.In_ok-insert) → Hold (λ t. t.name) c.insert.new.self.entries ((kept c.self.inside).teams ++ c.args.team ∷ [])
holds c =
    let free : has_team (kept c.self.inside) c.args.team.name ≡ false = ap (λ s. has_team s c.args.team.name) c.self.view_is ∙ c.requires.new in
    hold_added (λ t. t.name) c.self.inside.teams.entries c.insert.new.self.entries c.args.team c.self.invariant.teams_by_name free c.in_ok-insert.ensures.entries c.in_ok-insert.ensures.unique

pub invariant_of-self-2 : goal.invariant_of-self-2
invariant_of-self-2 c =
    let s = kept c.self.inside in
    let is = c.self.invariant.state in
    let h = holds c in
    let n = length_push s.teams c.args.team in
    let room : length s.teams < MOST_TEAMS = subst (λ s. length s.teams < MOST_TEAMS) (sym c.self.view_is) c.requires.room in
    let home : c.args.team.home < length s.places = subst (λ s. c.args.team.home < length s.places) (sym c.self.view_is) c.requires.home in
    let fits : IsTeam (length s.places) c.args.team =
    record { name = c.bytes.ensures.name; home = home; shift = c.requires.shift; skills = omega arith } in
    record {
      teams_by_name = h.named;
      tasks_by_name = c.self.invariant.tasks_by_name;
      state = subst (λ ts. IsState (record s { teams = ts })) (sym h.values) (other_teams s is _ (omega arith) (All-push (IsTeam (length s.places)) s.teams c.args.team is.parts.teams fits) h.apart_names);
    }

pub returns-clause-ok : goal.returns-clause-ok
returns-clause-ok c =
    let add : DayState → DayState = λ s. record s { teams = s.teams ++ c.args.team ∷ [] } in
    let with : List Team → DayState = λ ts. record (kept c.self.inside) { teams = ts } in
    ap with (holds c).values ∙ ap add c.self.view_is
