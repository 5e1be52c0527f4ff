use Rattle.std.proofs.Common.{[], sym, subst}
use Rattle.std.proofs.lemmas.Result.{err_from_is_err_and}
use Rattle.frac_master.specs.Follows.{FollowsRun}
use Rattle.search_terms.specs.Earned.{RunOverflows}
use Rattle.master_run.specs.State.{RunState, routes_of}
use Rattle.master_run.specs.Along.{IsOver}
use Rattle.master_run.specs.Kept.{kept}
use Rattle.master_run.proofs.Rounded.{overflow_here}
use Rattle.master_run.proofs.run.Run.price.Goals as goal

pub returns-in_err-num-clause-halts : goal.returns-in_err-num-clause-halts
returns-in_err-num-clause-halts c = λ n columns over.
    let old = kept c.self.inside in
    let is : IsOver n columns old = subst (IsOver n columns) (sym c.self.view_is) over in
    let f = c.in_err-num.field-0.0 in
    let routes = routes_of columns old.ids in
    let made = is.at.along.made in
    let follows = is.at.along.follows in
    let run : FollowsRun n routes made old.master = record {
      places = follows.places;
      columns = follows.columns;
      going = follows.going;
      run = c.lists_are_runs.ensures n routes made old.master.rows follows.run;
    } in
    let halts = overflow_here n columns old f is (c.in_err-num.ensures.belongs n routes made run is.at.done []) in
    let p = err_from_is_err_and c.from_residual.result c.from_residual.ensures.1 in
    rw (p.1, p.2) (subst (λ (s : RunState). RunOverflows n s.pivots columns f) c.self.view_is halts)
