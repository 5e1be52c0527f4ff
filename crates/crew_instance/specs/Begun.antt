-- laws of what is read of a job
use Rattle.std.proofs.Common.{◌≡◌, Option, None, Some, refl}
use Rattle.std.specs.Option.{option_map}
use Rattle.crew_terms.specs.Plan.{Job}

-- no start, no job
pub none_begun : (o : Option Job) → option_map (λ (job : Job). job.start) o ≡ None → o ≡ None
none_begun None e = refl
none_begun (Some job) e = let x : Some job.start ≡ None = e in cc
