use Rattle.std.proofs.Common.{rules}
use Rattle.std.specs.Prelude.{FitsSigned}
use Rattle.std.specs.Int.{w128}
use Rattle.std.proofs.lemmas.Int.{to_z-of_z}
use Rattle.std.proofs.lemmas.Cmp.{int_ranked}
use Rattle.crew_num.proofs.ratios.cmp_ratio.Goals as goal

pub returns-clause-order : goal.returns-clause-order
returns-clause-order c =
    let a : FitsSigned w128 c.args.a = c.ranges.a in
    let b : FitsSigned w128 c.args.b = c.ranges.b in
    let d : FitsSigned w128 c.args.c = c.ranges.c in
    let e : FitsSigned w128 c.args.d = c.ranges.d in
    let x : FitsSigned w128 c.in_ok-left.left = search rules in
    let y : FitsSigned w128 c.in_ok-right.right = search rules in
    let left = simp to_z-of_z at c.in_ok-left.ensures.0 in
    let right = simp to_z-of_z at c.in_ok-right.ensures.0 in
    rw (left, right) at (int_ranked c.in_ok-left.left c.in_ok-right.right c.cmp.result (simp to_z-of_z at c.cmp.ensures))
