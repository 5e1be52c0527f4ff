use Rattle.std.proofs.Common.{◌≡◌, ℤ, List, length, take}
use Rattle.kept_prices.proofs.rows.put_tasks.Given as goal

abbrev pub invariant-loop-j : goal.invariant-loop-j
invariant-loop-j l = (pi : List ℤ) × (length pi ≡ length l.tasks) × (take l.j pi ≡ take l.j l.tasks) × (l.prices ≡ record l.fn.prices { pi = pi })
