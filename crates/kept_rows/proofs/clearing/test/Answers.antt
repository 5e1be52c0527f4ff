use Rattle.std.proofs.Common.{FitsSigned}
use Rattle.std.specs.Int.{w128}
use Rattle.std.proofs.lemmas.Int.{to_z-of_z}
use Rattle.kept_rows.proofs.Reached.{all_small}
use Rattle.kept_rows.proofs.clearing.test.Goals as goal
use Rattle.kept_rows.proofs.clearing.test.Goals.{else-is_small-via-then-is_small+else-is_small-2, else-is_small-via-else-is_small}

pub returns-then-is_small-2 : goal.returns-then-is_small-2
returns-then-is_small-2 c =
    let p : FitsSigned w128 c.args.p = c.ranges.p in
    let e : FitsSigned w128 c.args.e = c.ranges.e in
    let a = rw (to_z-of_z w128 c.args.e e) at (c.is_small.ensures c.if-is_small.true) in
    let b = rw (to_z-of_z w128 c.args.p p) at (c.is_small-then-is_small.ensures c.if-is_small-2.true) in
    all_small c.args.columns.now c.args.pivot.now c.args.row.now c.args.p c.args.e c.most.result c.args.top c.most.ensures c.requires.top b a

pub returns : goal.returns
returns c =
    let p : FitsSigned w128 c.args.p = c.ranges.p in
    let e : FitsSigned w128 c.args.e = c.ranges.e in
    rw (to_z-of_z w128 c.args.p p, to_z-of_z w128 c.args.e e) at c.form_all.ensures
