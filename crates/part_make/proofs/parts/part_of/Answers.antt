use Rattle.std.proofs.Common.{◌∙◌, ap, subst, sym}
use Rattle.crew_instance.specs.Draft.{rows_of}
use Rattle.crew_terms.specs.Instance.{Instance}
use Rattle.part_terms.specs.Parts.{Restricts}
use Rattle.part_make.proofs.Pieces.{are_done, are_parts, few_tasks, restricts}
use Rattle.part_make.proofs.parts.part_of.Goals as goal

pub frozen_of-requires-clause-few : goal.frozen_of-requires-clause-few
frozen_of-requires-clause-few c = few_tasks c.args.whole.now c.tasks.ensures.limits c.args.tasks.now c.requires.known c.requires.rising

pub of_parts-requires-clause-parts : goal.of_parts-requires-clause-parts
of_parts-requires-clause-parts c =
    rw (c.in_ok-places.ensures, c.in_ok-teams.ensures, c.in_ok-kept.ensures)
    (are_parts c.args.whole.now c.tasks.ensures.limits c.args.tasks.now c.requires.known c.requires.rising)

pub of_parts-requires-clause-times : goal.of_parts-requires-clause-times
of_parts-requires-clause-times c = rw c.in_ok-places.ensures c.in_ok-travel.ensures.times

pub with_frozen-requires : goal.with_frozen-requires
with_frozen-requires c =
    rw c.of_parts.ensures
    (are_done c.args.whole.now c.tasks.ensures.limits c.args.tasks.now c.requires.known c.requires.rising
    c.in_ok-places.places.items c.in_ok-teams.teams.items c.in_ok-kept.kept.items (rows_of c.in_ok-travel.travel.items) c.in_ok-frozen.frozen
    c.in_ok-places.ensures c.in_ok-teams.ensures c.in_ok-kept.ensures c.in_ok-travel.ensures c.in_ok-frozen.ensures
    c.restricted_plans_are_legal.ensures c.feasible_whatever_is_frozen.ensures)

pub returns : goal.returns
returns c =
    subst (λ (part : Instance). Restricts c.args.whole.now part c.args.tasks.now)
    (sym (c.with_frozen.ensures ∙ ap (λ (part : Instance). record part { frozen = c.in_ok-frozen.frozen }) c.of_parts.ensures))
    (restricts c.args.whole.now c.tasks.ensures.limits c.args.tasks.now c.requires.known c.requires.rising
    c.in_ok-places.places.items c.in_ok-teams.teams.items c.in_ok-kept.kept.items (rows_of c.in_ok-travel.travel.items) c.in_ok-frozen.frozen
    c.in_ok-places.ensures c.in_ok-teams.ensures c.in_ok-kept.ensures c.in_ok-travel.ensures c.in_ok-frozen.ensures)
