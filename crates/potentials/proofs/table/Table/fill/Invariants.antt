use Rattle.std.proofs.Common.{◌≡◌, ◌≤◌, ◌<◌, ℕ, length}
use Rattle.crew_terms.specs.Instance.{Instance}
use Rattle.potentials.specs.Table.{CoversMinute, IsTableOf, phi}
use Rattle.potentials.proofs.table.Table.fill.Given as goal

abbrev pub invariant-loop-t : goal.invariant-loop-t
invariant-loop-t l = record {
  values : (t : ℕ) → l.from ≤ t → t < l.t → phi l.self l.i t ≡ l.v;
  others : (j t : ℕ) → (j ≡ l.i → l.from ≤ t → l.to < t) → phi l.self j t ≡ phi l.fn.self j t;
  count : length l.self ≡ length l.fn.self;
  minutes : (j t : ℕ) → CoversMinute l.fn.self j t → CoversMinute l.self j t;
  table : (instance : Instance) → IsTableOf instance l.fn.self → IsTableOf instance l.self;
}
