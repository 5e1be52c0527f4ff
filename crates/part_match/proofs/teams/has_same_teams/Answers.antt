use Rattle.std.proofs.Common.{rules, arith, sym, ◌≡◌, ◌∙◌, length}
use Rattle.crew_terms.specs.Instance.{no_team}
use Rattle.part_match.proofs.OneList.{one_list}
use Rattle.part_match.proofs.teams.has_same_teams.Goals as goal

pub returns : goal.returns
returns c =
    let a = c.args.part.now in
    let b = c.args.whole.now in
    let e : length a.teams ≡ length b.teams = sym c.teams.ensures.count ∙ c.if-teams.false ∙ c.teams-2.ensures.count in
    (λ _. one_list no_team a.teams b.teams c.loop-k.k e (omega (arith, c.teams-k-end.ensures.count)) c.loop-k.invariant, λ _. search rules)
