use Rattle.std.proofs.Common.{◌≤ℤ◌, w64}
use Rattle.std.specs.Prelude.{FitsSigned}
use Rattle.std.proofs.lemmas.Int.{to_z-of_z}
use Rattle.crew_instance.specs.Draft.{rows_of}
use Rattle.minute_rules.specs.Rules.{phi_by}
use Rattle.minute_rules.proofs.Decided.{refuted, answers_no}
use Rattle.minute_rules.proofs.Earned.{to_all, worth_more}
use Rattle.minute_rules.proofs.rules.holds_worth.Goals as goal

pub returns-then-not-are_at_most : goal.returns-then-not-are_at_most
returns-then-not-are_at_most c =
    let fits : FitsSigned w64 c.args.worth = c.ranges.worth in
    let most = simp to_z-of_z at c.are_at_most.ensures in
    let here = c.visits_to in
    let n = c.args.limits.now.limits in
    answers_no (λ holds. refuted c.are_at_most.result c.if-not-are_at_most.true most.1
    (to_all n c.args.k (phi_by n c.args.k (rows_of c.args.rows.now)) c.loop-j.j here.result.first here.result.potentials.now here.ensures.visits (λ v. v ≤ℤ c.args.worth) (holds.most c.loop-j.j)))

pub loop-j-preserved : goal.loop-j-preserved
loop-j-preserved c =
    let fits : FitsSigned w64 c.args.worth = c.ranges.worth in
    let most = simp to_z-of_z at c.are_at_most.ensures in
    let below = simp to_z-of_z at c.loop-j.invariant in
    let here = c.visits_to in
    let n = c.args.limits.now.limits in
    simp to_z-of_z (worth_more n c.args.k (phi_by n c.args.k (rows_of c.args.rows.now)) c.args.worth c.loop-j.j here.result.first here.result.potentials.now here.ensures.visits (most.0 c.if-not-are_at_most.false) below)
