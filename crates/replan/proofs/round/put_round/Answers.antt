use Rattle.std.proofs.Common.{◌∙◌, ap, subst, sym}
use Rattle.std.specs.Prelude.{All, option_copied, take}
use Rattle.crew_terms.specs.Limits.{root_limits}
use Rattle.dossier_terms.specs.Dossier.{IsPooled}
use Rattle.plan_again.specs.Stays.{StaysOrBetters}
use Rattle.replan.specs.Kept.{handed_in}
use Rattle.route_terms.specs.Kept.{AreKeptIn}
use Rattle.replan.proofs.Pools.{grown_front}
use Rattle.replan.proofs.round.put_round.Goals as goal

pub put_outcome-requires-clause-pooled : goal.put_outcome-requires-clause-pooled
put_outcome-requires-clause-pooled g c =
    let placed = c.place_kept.new.columns in
    let front = ap (λ k. take k c.solve.new.columns) c.in_ok-kept.ensures.count ∙ grown_front placed c.solve.new.columns c.solve.ensures.columns in
    subst (All (IsPooled c.args.instance.now)) (sym front)
    (c.pools_are_of_instances.ensures.kept c.args.instance.now (handed_in c.args.carry.now) placed c.in_ok-kept.ensures.kept c.len.ensures.are)

pub returns-clause-put : goal.returns-clause-put
returns-clause-put g c =
    let placed = c.place_kept.new.columns in
    let front = ap (λ k. take k c.solve.new.columns) c.in_ok-kept.ensures.count ∙ grown_front placed c.solve.new.columns c.solve.ensures.columns in
    let handed = handed_in c.args.carry.now in
    let o = c.in_ok-outcome.outcome in
    c.put_outcome.ensures.put handed (option_copied c.args.last) c.in_ok-begin.begin (subst (AreKeptIn (root_limits c.args.instance.now) handed) (sym front) c.in_ok-kept.ensures.kept)
    c.in_ok-begin.ensures.stays (subst (λ b. StaysOrBetters b o.plan) c.as_ref.ensures.value c.in_ok-outcome.ensures.stays)
