use Rattle.std.proofs.Common.{sym, subst, ◌∙◌}
use Rattle.std.specs.Prelude.{IsTrue}
use Rattle.crew_terms.specs.declared.Team.{Team}
use Rattle.crew_terms.specs.declared.TheConstants.{SKILLS}
use Rattle.cert_format.specs.Lines.{IsFaultOf, IsTeamOf}
use Rattle.cert_format.specs.Typed.{team_kind}
use Rattle.cert_format.specs.declared.kinds.Expect.TheVariants as expects
use Rattle.cert_format.specs.declared.typed.TeamLine.{TeamLine}
use Rattle.head_check.specs.Numbers.{AreBelow}
use Rattle.head_check.specs.Head.{reading_of, opening_of, read_of}
use Rattle.head_check.specs.declared.due.Head.{Head}
use Rattle.head_check.specs.declared.due.HeadDue.TheVariants.{Team as TeamDue}
use Rattle.head_check.proofs.Steps.{refused, told_by}
use Rattle.head_check.proofs.Listed.{below_from}
use Rattle.head_check.proofs.HeadRows.{team_says, team_rules}
use Rattle.head_check.proofs.HeadSteps.{set_facts}
use Rattle.head_check.proofs.head.team_line.Goals as goal

pub returns-in_err-name : goal.returns-in_err-name
returns-in_err-name c =
    refused _ c.from_residual.result c.in_err-name.field-0.0 c.from_residual.ensures.1
    (c.fault_is_refused.ensures (reading_of (TeamDue c.args.head c.args.more)) c.args.words _
    (subst (λ (h : Head). IsFaultOf (expects.Team h.size.places) c.args.words c.in_err-name.field-0.0) c.deref.ensures c.in_err-name.ensures))

pub skill_set-set-requires : goal.skill_set-set-requires
skill_set-set-requires c =
    let line : TeamLine = c.in_ok-name.field-0 in
    let h = subst (λ (h : Head). IsTeamOf h.size.places c.args.words (team_kind line)) c.deref.ensures c.in_ok-name.ensures in
    subst (AreBelow SKILLS) (sym h.1) (below_from SKILLS h.0 h.2.skills)

pub returns : goal.returns
returns c =
    let o = opening_of c.args.head.value in
    let i = read_of c.args.head.value in
    let line : TeamLine = c.in_ok-name.field-0 in
    let h = subst (λ (h : Head). IsTeamOf h.size.places c.args.words (team_kind line)) c.deref.ensures c.in_ok-name.ensures in
    let facts = set_facts line.skills h.0 c.skill_set-set.result h.1 c.skill_set-set.ensures in
    let spelled : Team = record { name = line.name; home = line.home; from = line.from; until = line.until; skills = 0 } in
    let team : Team = record spelled { skills = c.unwrap_or.result } in
    told_by c.add_team.result c.add_team.ensures (λ said rest. team_says o c.args.more i c.args.words (spelled, h.0) said h.2 h.3
    (team_rules o c.args.more i team h.0 (IsTrue c.is_some.result) said
    (λ is. let f = facts.0 (subst IsTrue c.is_some.ensures is) in (f.0, c.unwrap_or.ensures ∙ f.1))
    (λ not rise. facts.1 (λ is. not (subst IsTrue (sym c.is_some.ensures) is)) rise) rest))
