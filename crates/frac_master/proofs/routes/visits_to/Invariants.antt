use Rattle.std.proofs.Common.{◌≡◌, ◌≤◌, take}
use Rattle.share_terms.specs.Shares.{visits_to}
use Rattle.frac_master.proofs.routes.visits_to.Given as goal

abbrev pub invariant-loop-v : goal.invariant-loop-v
invariant-loop-v l = record { value : l.count ≡ visits_to l.task (take l.v-index l.visits); most : l.count ≤ l.v-index }
