use Rattle.std.proofs.Common.{◌∙◌, ap, sym, subst, unsigned_abs, to_z, Ok, Err}
use Rattle.std.specs.Int.{w128}
use Rattle.search_terms.specs.BasicChoice.{AreWholeParts}
use Rattle.search_terms.specs.Overflows.{OverflowAt}
use Rattle.search_terms.specs.Pivot.{IsOptimal}
use Rattle.frac_master.specs.Follows.{FollowsRun}
use Rattle.frac_master.specs.Shares.{GivesShares, IsOptimalChoice, basic_choice, parts_at}
use Rattle.frac_master.proofs.WholeShares.{fault_belongs, gives_fault, gives_shares, of_state, parts_of_run}
use Rattle.frac_master.proofs.master.Master.shares.Goals as goal

pub push_shares-requires-clause-whole : goal.push_shares-requires-clause-whole
push_shares-requires-clause-whole c =
    let a = c.self.inside in
    let live = c.self.invariant.live c.in_default.is in
    let k = rw (c.in-Ok.is, c.deref.ensures.value) at c.in_ok-fault.ensures in
    let s = of_state c.shares_are_parts.ensures.routes c.shares_are_parts.ensures.tasks c.run_keeps.ensures.feasible a live c.len-columns.result c.in-Ok.whole
    (c.len-columns.ensures ∙ a.columns.ok.0) k in
    let first = c.len-first.ensures ∙ a.places.ok.0 in
    rw (c.deref-in-Ok.ensures.value, first) s.routes

pub push_open-requires-clause-whole : goal.push_open-requires-clause-whole
push_open-requires-clause-whole c =
    let a = c.self.inside in
    let live = c.self.invariant.live c.in_default.is in
    let k = rw (c.in-Ok.is, c.deref.ensures.value) at c.in_ok-fault.ensures in
    let s = of_state c.shares_are_parts.ensures.routes c.shares_are_parts.ensures.tasks c.run_keeps.ensures.feasible a live c.len-columns.result c.in-Ok.whole
    (c.len-columns.ensures ∙ a.columns.ok.0) k in
    rw c.deref-in-Ok-2.ensures.value s.of_tasks

pub push_open-requires-clause-fits : goal.push_open-requires-clause-fits
push_open-requires-clause-fits c =
    let a = c.self.inside in
    let live = c.self.invariant.live c.in_default.is in
    let k = rw (c.in-Ok.is, c.deref.ensures.value) at c.in_ok-fault.ensures in
    let s = of_state c.shares_are_parts.ensures.routes c.shares_are_parts.ensures.tasks c.run_keeps.ensures.feasible a live c.len-columns.result c.in-Ok.whole
    (c.len-columns.ensures ∙ a.columns.ok.0) k in
    rw c.deref-in-Ok-2.ensures.value s.sums

pub returns-in-Err-clause-shares : goal.returns-in-Err-clause-shares
returns-in-Err-clause-shares c = λ n e.
    let a = c.self.inside in
    let live = c.self.invariant.live c.in_default.is in
    let k = rw (c.in-Err.is, c.deref.ensures.value) at c.in_ok-fault.ensures in
    let e' = ap (λ m. m.places) c.self.view_is ∙ e in
    subst (λ m. GivesShares n m (Err c.in-Err.fault) c.clear.new.self.items c.clear-2.new.self.items) c.self.view_is
    (gives_fault c.pivot_keeps_width.ensures c.run_keeps.ensures.feasible a live c.len-columns.result c.clear.new.self.items c.clear-2.new.self.items c.in-Err.fault c.in_default.is
    (c.len-columns.ensures ∙ a.columns.ok.0) k n e')

pub returns-in-Err-clause-belongs : goal.returns-in-Err-clause-belongs
returns-in-Err-clause-belongs c = λ n routes made w done coming.
    let a = c.self.inside in
    let live = c.self.invariant.live c.in_default.is in
    let k = rw (c.in-Err.is, c.deref.ensures.value) at c.in_ok-fault.ensures in
    let w' = subst (FollowsRun n routes made) (sym c.self.view_is) w in
    let done' = subst (λ m. IsOptimal m.rows) (sym c.self.view_is) done in
    subst (λ m. OverflowAt n m.rows coming c.in-Err.fault) c.self.view_is
    (fault_belongs c.pivot_keeps_width.ensures c.run_keeps.ensures.feasible a live c.len-columns.result c.in-Err.fault (c.len-columns.ensures ∙ a.columns.ok.0) k n w'.places done' coming)

pub returns-in_ok-push_open-in-Ok-clause-shares : goal.returns-in_ok-push_open-in-Ok-clause-shares
returns-in_ok-push_open-in-Ok-clause-shares c = λ n e.
    let a = c.self.inside in
    let live = c.self.invariant.live c.in_default.is in
    let k = rw (c.in-Ok.is, c.deref.ensures.value) at c.in_ok-fault.ensures in
    let first = c.len-first.ensures ∙ a.places.ok.0 in
    let out = rw (c.clear.ensures.items, c.deref-in-Ok.ensures.value, first) at c.in_ok-push_shares-in-Ok.ensures in
    let left = rw (c.clear-2.ensures.items, c.deref-in-Ok-2.ensures.value) at c.in_ok-push_open-in-Ok.ensures in
    let e' = ap (λ m. m.places) c.self.view_is ∙ e in
    subst (λ m. GivesShares n m (Ok (to_z w128 c.in-Ok.whole)) c.push_shares.new.out.items c.push_open.new.left_open.items) c.self.view_is
    (gives_shares c.pivot_keeps_width.ensures c.run_keeps.ensures.feasible c.places_are.ensures.tasks a live c.len-columns.result c.in-Ok.whole c.push_shares.new.out.items
    c.push_open.new.left_open.items c.in_default.is (c.len-columns.ensures ∙ a.columns.ok.0) k out left n e')

pub returns-in_ok-push_open-in-Ok-clause-parts : goal.returns-in_ok-push_open-in-Ok-clause-parts
returns-in_ok-push_open-in-Ok-clause-parts c = λ n routes made w.
    let a = c.self.inside in
    let k = rw (c.in-Ok.is, c.deref.ensures.value) at c.in_ok-fault.ensures in
    let w' = subst (FollowsRun n routes made) (sym c.self.view_is) w in
    let den = unsigned_abs (to_z w128 c.in-Ok.whole) in
    subst (λ m. AreWholeParts n routes m.rows den (parts_at m.rows den)) c.self.view_is
    (parts_of_run c.run_keeps.ensures.feasible a c.len-columns.result c.in-Ok.whole (c.len-columns.ensures ∙ a.columns.ok.0) k n routes made w')

pub returns-in_ok-push_open-in-Ok-clause-optimum : goal.returns-in_ok-push_open-in-Ok-clause-optimum
returns-in_ok-push_open-in-Ok-clause-optimum c = λ n routes made w done legal.
    let a = c.self.inside in
    let k = rw (c.in-Ok.is, c.deref.ensures.value) at c.in_ok-fault.ensures in
    let w' = subst (FollowsRun n routes made) (sym c.self.view_is) w in
    let done' = subst (λ m. IsOptimal m.rows) (sym c.self.view_is) done in
    let den = unsigned_abs (to_z w128 c.in-Ok.whole) in
    let t = a.table.rows in
    let p = parts_of_run c.run_keeps.ensures.feasible a c.len-columns.result c.in-Ok.whole (c.len-columns.ensures ∙ a.columns.ok.0) k n routes made w' in
    subst (λ m. IsOptimalChoice n m.rows (basic_choice n routes m.rows den)) c.self.view_is (record {
      fractional = c.optimal_choice.ensures.fractional n routes made t den (parts_at t den) w'.run done' legal p;
      value = c.optimal_choice.ensures.value n routes made t den (parts_at t den) w'.run done' legal p;
    })
