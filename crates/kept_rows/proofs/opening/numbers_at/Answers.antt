use Rattle.std.proofs.Common.{◌<◌, ◌∙◌, rules, arith, pos, FitsSigned, length}
use Rattle.std.specs.Int.{w128}
use Rattle.std.proofs.lemmas.Int.{to_z-of_z}
use Rattle.std.proofs.lemmas.List.{get_or_default}
use Rattle.kept_rows.proofs.Listed.{all_at, numbers_more}
use Rattle.kept_rows.proofs.opening.numbers_at.Goals as goal

pub index-requires : goal.index-requires
index-requires c =
    let a = all_at (λ row. c.args.j < length row) c.args.rows.now c.loop-row.row-index c.row-item.result (omega arith) c.row-item.is c.requires in
    omega (arith, a, c.row-item.result.ok.0)

pub loop-row-preserved : goal.loop-row-preserved
loop-row-preserved c =
    let a = all_at (λ row. c.args.j < length row) c.args.rows.now c.loop-row.row-index c.row-item.result (omega arith) c.row-item.is c.requires in
    let z : FitsSigned w128 c.index.result.now = search rules in
    let e = c.index.ensures ∙ get_or_default c.row-item.result.items c.args.j c.index.result.now (pos 0) a in
    c.in_ok-push.ensures.items ∙ numbers_more c.args.rows.now c.args.j c.loop-row.row-index c.row-item.result c.loop-row.numbers.items _ (omega arith) c.row-item.is c.loop-row.invariant
    (to_z-of_z w128 c.index.result.now z ∙ e)
