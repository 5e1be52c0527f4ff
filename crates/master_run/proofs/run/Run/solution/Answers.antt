use Rattle.std.proofs.Common.{◌≡◌, ℤ, List, [], rules, sym, subst}
use Rattle.std.specs.Int.{w128}
use Rattle.std.specs.Prelude.{FitsSigned, Result, unsigned_abs}
use Rattle.std.proofs.lemmas.Int.{to_z-of_z}
use Rattle.std.proofs.lemmas.Result.{err_from_is_err_and, IfErr-at_err, IfOk-at_ok}
use Rattle.crew_num.specs.declared.Overflow.{Overflow}
use Rattle.crew_terms.specs.Limits.{Route}
use Rattle.frac_master.specs.Follows.{FollowsRun}
use Rattle.frac_master.specs.Shares.{GivesShares, IsOptimalChoice, basic_choice, parts_at}
use Rattle.search_terms.specs.BasicChoice.{AreWholeParts}
use Rattle.search_terms.specs.Earned.{RunOverflows}
use Rattle.search_terms.specs.Overflows.{OverflowAt}
use Rattle.master_run.specs.State.{RunState, routes_of}
use Rattle.master_run.specs.Along.{IsOver}
use Rattle.master_run.specs.Kept.{kept}
use Rattle.master_run.specs.Shares.{fractional_of}
use Rattle.master_run.specs.Legal.{legal_are}
use Rattle.master_run.proofs.Rounded.{overflow_here}
use Rattle.master_run.proofs.Solved.{gives_shares, shares_legal, solution_is, solution_positive, solution_rises}
use Rattle.master_run.proofs.run.Run.solution.Goals as goal

pub returns-in_err-den-clause-halts : goal.returns-in_err-den-clause-halts
returns-in_err-den-clause-halts c = λ n columns over.
    let old = kept c.self.inside in
    let is : IsOver n columns old = subst (IsOver n columns) (sym c.self.view_is) over in
    let f = c.in_err-den.field-0.0 in
    let routes = routes_of columns old.ids in
    let made = is.at.along.made in
    let follows = is.at.along.follows in
    let run : FollowsRun n routes made old.master = record {
      places = follows.places;
      columns = follows.columns;
      going = follows.going;
      run = c.lists_are_runs.ensures n routes made old.master.rows follows.run;
    } in
    let belongs = c.in_ok-shares.ensures.belongs n routes made run is.at.done in
    let at = IfErr-at_err (λ f. (coming : List Route) → OverflowAt n old.master.rows coming f) c.in_err-den.was belongs in
    let halts = overflow_here n columns old f is (at []) in
    let p = err_from_is_err_and c.from_residual-in_err-den.result c.from_residual-in_err-den.ensures.1 in
    rw (p.1, p.2) (subst (λ (s : RunState). RunOverflows n s.pivots columns f) c.self.view_is halts)

pub returns-clause-positive : goal.returns-clause-positive
returns-clause-positive c = λ n columns over.
    let old = kept c.self.inside in
    let is : IsOver n columns old = subst (IsOver n columns) (sym c.self.view_is) over in
    let den = c.in_ok-den.den in
    let out = c.shares.new.out.items in
    let opened = c.shares.new.left_open.items in
    let gives = subst (λ (r : Result ℤ Overflow). GivesShares n old.master r out opened) c.in_ok-den.was (c.in_ok-shares.ensures.shares n is.at.along.follows.places) in
    let fits : FitsSigned w128 den = search rules in
    simp to_z-of_z (solution_positive n old.master den out opened (gives_shares n old.master den out opened is.at.along.follows.going gives))

pub returns-clause-legal : goal.returns-clause-legal
returns-clause-legal c = λ n columns over.
    let old = kept c.self.inside in
    let is : IsOver n columns old = subst (IsOver n columns) (sym c.self.view_is) over in
    let out = c.shares.new.out.items in
    let opened = c.shares.new.left_open.items in
    let gives = subst (λ (r : Result ℤ Overflow). GivesShares n old.master r out opened) c.in_ok-den.was (c.in_ok-shares.ensures.shares n is.at.along.follows.places) in
    shares_legal n columns old c.in_ok-den.den out opened is (gives_shares n old.master c.in_ok-den.den out opened is.at.along.follows.going gives)

pub returns-clause-rise : goal.returns-clause-rise
returns-clause-rise c = λ n columns over.
    let old = kept c.self.inside in
    let is : IsOver n columns old = subst (IsOver n columns) (sym c.self.view_is) over in
    let out = c.shares.new.out.items in
    let opened = c.shares.new.left_open.items in
    let gives = subst (λ (r : Result ℤ Overflow). GivesShares n old.master r out opened) c.in_ok-den.was (c.in_ok-shares.ensures.shares n is.at.along.follows.places) in
    solution_rises n columns old c.in_ok-den.den out opened is (gives_shares n old.master c.in_ok-den.den out opened is.at.along.follows.going gives)

pub returns-clause-choice : goal.returns-clause-choice
returns-clause-choice c = λ n columns over.
    let old = kept c.self.inside in
    let is : IsOver n columns old = subst (IsOver n columns) (sym c.self.view_is) over in
    let den = c.in_ok-den.den in
    let out = c.shares.new.out.items in
    let opened = c.shares.new.left_open.items in
    let routes = routes_of columns old.ids in
    let made = is.at.along.made in
    let follows = is.at.along.follows in
    let run : FollowsRun n routes made old.master = record {
      places = follows.places;
      columns = follows.columns;
      going = follows.going;
      run = c.lists_are_runs.ensures n routes made old.master.rows follows.run;
    } in
    let gives = subst (λ (r : Result ℤ Overflow). GivesShares n old.master r out opened) c.in_ok-den.was (c.in_ok-shares.ensures.shares n follows.places) in
    let are = gives_shares n old.master den out opened follows.going gives in
    let best = IfOk-at_ok (λ den. IsOptimalChoice n old.master.rows (basic_choice n routes old.master.rows (unsigned_abs den))) c.in_ok-den.was
    (c.in_ok-shares.ensures.optimum n routes made run is.at.done (legal_are n columns routes is.legal)) in
    let fits : FitsSigned w128 den = search rules in
    simp to_z-of_z
    (subst (λ (s : RunState). IsOptimalChoice n s.master.rows (fractional_of columns den out opened)) c.self.view_is
    (subst (IsOptimalChoice n old.master.rows) (sym (solution_is n columns old den out opened is.at.along.entered are)) best))

pub returns-clause-parts : goal.returns-clause-parts
returns-clause-parts c = λ n columns over.
    let old = kept c.self.inside in
    let is : IsOver n columns old = subst (IsOver n columns) (sym c.self.view_is) over in
    let den = c.in_ok-den.den in
    let routes = routes_of columns old.ids in
    let made = is.at.along.made in
    let follows = is.at.along.follows in
    let run : FollowsRun n routes made old.master = record {
      places = follows.places;
      columns = follows.columns;
      going = follows.going;
      run = c.lists_are_runs.ensures n routes made old.master.rows follows.run;
    } in
    let parts = IfOk-at_ok (λ den. AreWholeParts n routes old.master.rows (unsigned_abs den) (parts_at old.master.rows (unsigned_abs den))) c.in_ok-den.was
    (c.in_ok-shares.ensures.parts n routes made run) in
    let fits : FitsSigned w128 den = search rules in
    simp to_z-of_z
    (subst (λ (s : RunState). AreWholeParts n (routes_of columns s.ids) s.master.rows (unsigned_abs den) (parts_at s.master.rows (unsigned_abs den)))
    c.self.view_is parts)

pub returns-clause-basic : goal.returns-clause-basic
returns-clause-basic c = λ n columns over.
    let old = kept c.self.inside in
    let is : IsOver n columns old = subst (IsOver n columns) (sym c.self.view_is) over in
    let den = c.in_ok-den.den in
    let out = c.shares.new.out.items in
    let opened = c.shares.new.left_open.items in
    let follows = is.at.along.follows in
    let gives = subst (λ (r : Result ℤ Overflow). GivesShares n old.master r out opened) c.in_ok-den.was (c.in_ok-shares.ensures.shares n follows.places) in
    let are = gives_shares n old.master den out opened follows.going gives in
    let fits : FitsSigned w128 den = search rules in
    simp to_z-of_z
    (subst (λ (s : RunState). fractional_of columns den out opened ≡ basic_choice n (routes_of columns s.ids) s.master.rows (unsigned_abs den)) c.self.view_is
    (solution_is n columns old den out opened is.at.along.entered are))
