use Rattle.std.proofs.Common.{◌<◌, rules, arith, sym, subst, FitsSigned, get_or, pos, length}
use Rattle.std.specs.Int.{w128}
use Rattle.std.proofs.lemmas.Int.{to_z-of_z}
use Rattle.crew_num.specs.Exact.{StepsFit}
use Rattle.kept_rows.proofs.Combining.{combined_more}
use Rattle.kept_rows.proofs.replacing.combine.Goals as goal

pub difference-requires : goal.difference-requires
difference-requires c =
    let p : FitsSigned w128 c.args.p = c.ranges.p in
    let e : FitsSigned w128 c.args.e = c.ranges.e in
    let a : FitsSigned w128 (get_or c.loop-j.row c.loop-j.j (pos 0)) = search rules in
    let b : FitsSigned w128 (get_or c.args.pivot.now c.loop-j.j (pos 0)) = search rules in
    let lt : c.loop-j.j < length c.args.row.now = omega (arith, c.loop-j.invariant.width) in
    let s = subst (λ z. StepsFit c.args.p z c.args.e (get_or c.args.pivot.now c.loop-j.j (pos 0))) (sym (c.loop-j.invariant.rest c.loop-j.j (omega arith))) (c.requires.fits c.loop-j.j lt) in
    rw (to_z-of_z w128 c.args.p p, to_z-of_z w128 c.args.e e, to_z-of_z w128 (get_or c.loop-j.row c.loop-j.j (pos 0)) a, to_z-of_z w128 (get_or c.args.pivot.now c.loop-j.j (pos 0)) b) s

pub loop-j-preserved : goal.loop-j-preserved
loop-j-preserved c =
    let p : FitsSigned w128 c.args.p = c.ranges.p in
    let e : FitsSigned w128 c.args.e = c.ranges.e in
    let a : FitsSigned w128 (get_or c.loop-j.row c.loop-j.j (pos 0)) = search rules in
    let b : FitsSigned w128 (get_or c.args.pivot.now c.loop-j.j (pos 0)) = search rules in
    let z : FitsSigned w128 c.difference.result = search rules in
    let is = rw (to_z-of_z w128 c.args.p p, to_z-of_z w128 c.args.e e, to_z-of_z w128 (get_or c.loop-j.row c.loop-j.j (pos 0)) a, to_z-of_z w128 (get_or c.args.pivot.now c.loop-j.j (pos 0)) b) at c.difference.ensures in
    let m = combined_more c.args.p c.args.e c.args.pivot.now c.args.row.now c.loop-j.row c.loop-j.j c.difference.result (omega arith) (simp to_z-of_z at c.loop-j.invariant) is in
    rw (to_z-of_z w128 c.args.p p, to_z-of_z w128 c.args.e e, to_z-of_z w128 c.difference.result z) m
