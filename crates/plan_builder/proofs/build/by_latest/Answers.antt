use Rattle.std.proofs.Common.{ℕ, ◌<◌, length}
use Rattle.std.proofs.lemmas.List.Sorted.{All-permutation}
use Rattle.plan_builder.proofs.build.by_latest.Goals as goal

pub returns : goal.returns
returns c = All-permutation (λ (v : ℕ × ℕ). v.1 < length c.args.instance.now.tasks) c.loop-j.order.items c.sort.new.self.items c.in_ok-sort.ensures.permutation c.loop-j.invariant
