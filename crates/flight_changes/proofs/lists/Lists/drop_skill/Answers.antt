use Rattle.std.proofs.Common.{◌∙◌, length, ap}
use Rattle.std.specs.Prelude.{◌^◌, ℕ, bit_and}
use Rattle.std.specs.Int.{bit_not, w64}
use Rattle.crew_terms.specs.Rules.{IsTeam}
use Rattle.crew_terms.specs.declared.Team.{Team}
use Rattle.day_terms.specs.State.{DayState, with_changed_team}
use Rattle.flight_changes.proofs.Skills.{without_skill, without_skill_fits}
use Rattle.flight_changes.proofs.Keyed.{found_all}
use Rattle.flight_changes.proofs.Known.{team_changed, team_stands}
use Rattle.flight_changes.proofs.Accepted.{team_known}
use Rattle.flight_changes.proofs.lists.Lists.drop_skill.Goals as goal

pub put_team-requires : goal.put_team-requires
put_team-requires c =
    let s = c.args.self.now in
    let is = c.team-old.ensures.limits in
    let old = c.team-old.result in
    let found = c.team-old.ensures.team in
    let fits : IsTeam (length s.places) old = found_all (λ t. t.name) (IsTeam (length s.places)) s.teams c.args.team.now old is.parts.teams found in
    let ok = team_known s c.args.team.now c.requires.accepted in
    record { known = team_stands s is c.args.team.now old found; fits = record { name = fits.name; home = fits.home; shift = record { order = fits.shift.order; day = fits.shift.day }; skills = without_skill_fits old.skills _ fits.skills } }

pub returns : goal.returns
returns c =
    let old = c.team-old.result in
    let change : Team → Team = λ t. record t { skills = bit_and t.skills (bit_not w64 (2 ^ c.args.skill)) } in
    let put : ℕ → DayState = λ skills. with_changed_team c.args.self.now old.name (λ _. record old { skills = skills }) in
    c.put_team.ensures ∙ ap put (without_skill old.skills c.args.skill c.requires.range) ∙ team_changed c.args.self.now c.team-old.ensures.limits c.args.team.now old c.team-old.ensures.team change
