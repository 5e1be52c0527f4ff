use Rattle.std.proofs.Common.{◌≡◌, ◌<◌, ◌+◌, ◌-◌, ℕ, ap, subst, take, length, arith}
use Rattle.node_limits.specs.Walks.{IsBack, walked}
use Rattle.node_limits.proofs.Walking.{one_back}
use Rattle.node_limits.proofs.walks.ascend.Goals as goal

pub loop-preserved : goal.loop-preserved
loop-preserved c =
    let one = ap length c.undo.ensures.past in
    let counted = c.loop.invariant.0 in (
      omega arith,
      λ from path e back.
          let m : ℕ = c.args.branches - (c.loop.counter + 1) in
          let test = c.loop-test.true in
          let known : m < length path = omega arith in
          let more : c.args.branches - c.loop.counter ≡ m + 1 = omega arith in
          one_back from c.loop.limits c.undo.new.self path m known
          (subst (λ n. IsBack c.loop.limits (walked from (take n path))) more (c.loop.invariant.1 from path e back)) c.undo.ensures.past,
    )
