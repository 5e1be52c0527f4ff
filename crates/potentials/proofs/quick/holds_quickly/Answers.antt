use Rattle.std.proofs.Common.{◌≤ℤ◌, length, pos, refl, ap, arith, rules, w64}
use Rattle.std.specs.Prelude.{FitsSigned}
use Rattle.std.proofs.lemmas.Int.{ints, to_z-of_z}
use Rattle.std.proofs.lemmas.Option.{slice_get_read}
use Rattle.crew_terms.specs.Leaf.{reward}
use Rattle.potentials.specs.Quick.{HoldsByPlace}
use Rattle.potentials.proofs.ByPlace.{holds_by_place}
use Rattle.potentials.proofs.Each.{each_more}
use Rattle.potentials.proofs.quick.holds_quickly.Goals as goal

pub loop-j-preserved : goal.loop-j-preserved
loop-j-preserved c =
    let worth : FitsSigned w64 c.args.worth = c.ranges.worth in
    let earns : FitsSigned w64 c.reward-reward.result = search rules in
    let n = c.args.limits.now.limits in
    let records = c.args.records.now in
    let row = c.index-records-j.result in
    let read = slice_get_read records (length records) c.loop-j.j row refl (let t = c.loop-j-test.true in let m = c.tasks-j-end.ensures.count in let e = ap (λ i. length i.tasks) c.instance-instance.ensures.instance in let r = c.requires.count in omega arith) c.index-records-j.is in
    let found = simp to_z-of_z at (c.holds_task.ensures c.if-not-holds_task.false) in
    let here = rw (c.instance-instance.ensures.instance, c.reward-reward.ensures.sum, c.deref-in-loop-j.ensures.value) at found in
    let below = simp to_z-of_z at c.loop-j.invariant in
    simp to_z-of_z (each_more records (λ j row. HoldsByPlace n.instance j (reward c.args.prices.now c.args.k j) c.args.worth row c.gather.new.ahead.items) c.loop-j.j row read here below)

pub returns : goal.returns
returns c =
    let worth : FitsSigned w64 c.args.worth = c.ranges.worth in
    let n = c.args.limits.now.limits in
    let idle : pos 0 ≤ℤ c.args.worth = let t = simp to_z-of_z at c.if-worth-lt0.false in grind (arith, ints) in
    let bounded = rw (c.instance-instance.ensures.instance, c.deref-else-not-all_rise.ensures.value) at (c.all_are_bounded.ensures c.if-not-all_are_bounded.false) in
    let below = simp to_z-of_z at c.loop-j.invariant in
    λ phi records falls t. holds_by_place n c.args.k c.args.prices.now c.args.worth c.args.records.now c.gather.new.ahead.items phi c.requires.count idle records falls bounded
    (λ j row l read. below j row (let e = ap (λ i. length i.tasks) c.instance-instance.ensures.instance in let m = c.tasks-j-end.ensures.count in let end = c.loop-j-test.false in omega arith) read)
