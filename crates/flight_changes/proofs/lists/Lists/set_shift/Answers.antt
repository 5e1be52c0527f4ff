use Rattle.std.proofs.Common.{◌∙◌, length}
use Rattle.crew_terms.specs.Rules.{IsTeam}
use Rattle.crew_terms.specs.declared.Team.{Team}
use Rattle.flight_changes.proofs.Keyed.{found_all}
use Rattle.flight_changes.proofs.Known.{team_changed, team_stands}
use Rattle.flight_changes.proofs.Accepted.{shift_accepted}
use Rattle.flight_changes.proofs.lists.Lists.set_shift.Goals as goal

pub put_team-requires : goal.put_team-requires
put_team-requires c =
    let s = c.args.self.now in
    let is = c.team-old.ensures.limits in
    let old = c.team-old.result in
    let found = c.team-old.ensures.team in
    let fits : IsTeam (length s.places) old = found_all (λ t. t.name) (IsTeam (length s.places)) s.teams c.args.team.now old is.parts.teams found in
    let ok = shift_accepted s c.args.team.now c.args.from c.args.until c.requires.accepted in
    record { known = team_stands s is c.args.team.now old found; fits = record { name = fits.name; home = fits.home; shift = record { order = ok.1; day = c.requires.day }; skills = fits.skills } }

pub returns : goal.returns
returns c =
    let change : Team → Team = λ t. record t { from = c.args.from; until = c.args.until } in
    c.put_team.ensures ∙ team_changed c.args.self.now c.team-old.ensures.limits c.args.team.now c.team-old.result c.team-old.ensures.team change
