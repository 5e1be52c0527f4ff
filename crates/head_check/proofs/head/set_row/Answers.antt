use Rattle.std.proofs.Common.{◌≤◌, ◌∙◌, ap, sym, subst, length}
use Rattle.std.proofs.lemmas.List.{length-map}
use Rattle.std.specs.Prelude.{All}
use Rattle.crew_terms.specs.declared.TheConstants.{LAST_MINUTE}
use Rattle.head_check.specs.Numbers.{natural}
use Rattle.head_check.proofs.Listed.{naturals_below}
use Rattle.head_check.proofs.head.set_row.Goals as goal

pub travel_from-requires-clause-count : goal.travel_from-requires-clause-count
travel_from-requires-clause-count c = ap length c.in_ok-row.ensures ∙ length-map c.args.times.now natural ∙ c.requires.count

pub travel_from-requires-clause-day : goal.travel_from-requires-clause-day
travel_from-requires-clause-day c = subst (All (λ minutes. minutes ≤ LAST_MINUTE)) (sym c.in_ok-row.ensures) (naturals_below LAST_MINUTE c.args.times.now c.requires.day)
