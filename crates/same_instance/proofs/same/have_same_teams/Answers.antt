use Rattle.std.proofs.Common.{rules, arith, sym, ◌≡◌, ◌∙◌, length}
use Rattle.crew_terms.specs.Instance.{no_team}
use Rattle.same_instance.proofs.OneInstance.{one_list}
use Rattle.same_instance.proofs.same.have_same_teams.Goals as goal

pub returns : goal.returns
returns c =
    let a = c.args.a.now in
    let b = c.args.b.now in
    let e : length a.teams ≡ length b.teams = sym c.teams.ensures.count ∙ c.if-teams.false ∙ c.teams-2.ensures.count in
    (λ _. one_list no_team a.teams b.teams c.loop-k.k e (omega (arith, c.teams-k-end.ensures.count)) c.loop-k.invariant, λ _. search rules)
