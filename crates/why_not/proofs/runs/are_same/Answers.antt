use Rattle.std.proofs.Common.{sym, arith, ◌∙◌}
use Rattle.why_not.proofs.Rows.{all_same, other_row, same_is, same_more}
use Rattle.why_not.proofs.runs.are_same.Goals as goal

pub loop-k-preserved : goal.loop-k-preserved
loop-k-preserved c =
    same_more c.args.a.now c.args.b.now c.loop-k.k c.loop-k.invariant (same_is _ _ (sym c.is_same.ensures ∙ c.if-not-is_same.false))

pub returns-then-not-is_same : goal.returns-then-not-is_same
returns-then-not-is_same c = other_row c.args.a.now c.args.b.now c.loop-k.k (sym c.is_same.ensures ∙ c.if-not-is_same.true)

pub returns : goal.returns
returns c =
    let m = c.loop-k-test.false in
    all_same c.args.a.now c.args.b.now c.requires (λ x l. c.loop-k.invariant x (omega arith))
