use Rattle.std.proofs.Common.{◌≡◌, ◌≤◌, ◌-◌, ◌++◌, ℕ, List}
use Rattle.std.specs.List.{flat_map}
use Rattle.crew_terms.specs.Instance.{task_of}
use Rattle.crew_terms.specs.Words.{line_text}
use Rattle.crew_io.specs.Puts.{Puts}
use Rattle.crew_io.specs.Chains.{fine}
use Rattle.why_not.specs.Fits.{obstacles_at}
use Rattle.why_not.specs.Why.{run_lines}
use Rattle.why_not.proofs.Rows.{rest}
use Rattle.why_not.proofs.runs.put_runs.Given as goal

abbrev pub invariant-loop-t : goal.invariant-loop-t
invariant-loop-t g l =
    let i = l.days.instance in
    let p = l.days.plan in
    record {
      done : List ℕ;
      puts : Puts g.K.Sink done l.fn.out l.out fine;
      whole : done ++ rest i p l.j l.run.first l.t ≡ flat_map line_text (run_lines i p l.j);
      row : l.run.row.items ≡ obstacles_at i p l.j (l.t - 1);
      first : l.run.first ≤ (task_of i l.j).latest;
      one : 1 ≤ l.t;
    }
