use Rattle.std.proofs.Common.{◌≡◌, ◌≤◌, length, take}
use Rattle.std.specs.List.{enumerate_from, flat_map}
use Rattle.dossier_out.specs.Jobs.{job_list}
use Rattle.dossier_out.proofs.jobs.count_frozen.Given as goal

abbrev pub invariant-loop-j : goal.invariant-loop-j
invariant-loop-j l = record {
  few : l.count ≤ l.j;
  so_far : l.count ≡ length (flat_map (λ q. job_list q.0 q.1) (take l.j (enumerate_from 0 l.instance.frozen)));
}
