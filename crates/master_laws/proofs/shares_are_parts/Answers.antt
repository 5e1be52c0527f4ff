use Rattle.master_laws.proofs.Within.{within_whole}
use Rattle.master_laws.proofs.shares_are_parts.Goals as goal

pub returns : goal.returns
returns c = record {
  routes = λ n routes made whole i t x run teams parts lt. (within_whole n routes made t whole x run teams parts).of_routes i lt;
  tasks = λ n routes made whole j t x run teams parts. (within_whole n routes made t whole x run teams parts).of_tasks j;
}
