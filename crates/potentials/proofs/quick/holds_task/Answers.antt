use Rattle.std.proofs.Common.{◌≤ℤ◌, subst, w64}
use Rattle.std.specs.Prelude.{FitsSigned}
use Rattle.std.specs.List.{All}
use Rattle.std.proofs.lemmas.Int.{to_z-of_z}
use Rattle.potentials.specs.Ahead.{AllowsFall}
use Rattle.potentials.specs.Quick.{away_for}
use Rattle.potentials.specs.declared.records.Record.{Record}
use Rattle.potentials.proofs.quick.holds_task.Goals as goal

pub returns : goal.returns
returns c =
    let reward : FitsSigned w64 c.args.reward = c.ranges.reward in
    let worth : FitsSigned w64 c.args.worth = c.ranges.worth in
    let paid = simp to_z-of_z at (c.are_paid.ensures c.if-not-are_paid.false) in
    let most = simp to_z-of_z at (c.are_worth.ensures c.if-not-are_worth.false) in
    let steps = simp to_z-of_z at c.allows_places.ensures in
    λ t. record {
      alone = subst (All (λ (f : Record). c.args.reward ≤ℤ f.potential)) c.falls-falls.ensures paid;
      most = subst (All (λ (r : Record). r.potential ≤ℤ c.args.worth)) c.list.ensures most;
      steps = λ p place read. subst (All (AllowsFall place.list.items c.args.j c.args.reward (away_for c.args.instance.now c.args.j p))) c.falls-falls.ensures (steps t p place read);
    }
