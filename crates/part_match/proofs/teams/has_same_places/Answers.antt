use Rattle.std.proofs.Common.{rules, [], arith, sym, ◌≡◌, ◌∙◌, length}
use Rattle.part_match.proofs.OneList.{one_list}
use Rattle.part_match.proofs.teams.has_same_places.Goals as goal

pub returns : goal.returns
returns c =
    let a = c.args.part.now in
    let b = c.args.whole.now in
    let e : length a.places ≡ length b.places = sym c.places.ensures.count ∙ c.if-places.false ∙ c.places-2.ensures.count in
    (λ _. one_list [] a.places b.places c.loop-p.p e (omega (arith, c.places-p-end.ensures.count)) c.loop-p.invariant, λ _. search rules)
