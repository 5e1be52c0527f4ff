use Rattle.std.proofs.Common.{◌≡◌, true, false, filter, fold, nat_lt, arith, sym, ap, subst, ◌∙◌}
use Rattle.std.specs.Prelude.{All}
use Rattle.std.proofs.lemmas.Bool.Decides.{nat_tests}
use Rattle.std.proofs.lemmas.List.{take_all}
use Rattle.std.proofs.lemmas.List.Elements.{All-get_or}
use Rattle.day_terms.specs.State.{DayState, NamedJob}
use Rattle.day_terms.specs.Work.{with_frozen}
use Rattle.flight_changes.specs.Kept.{state_of}
use Rattle.flight_changes.specs.Limits.{AreDoable, AreTeamsKnown}
use Rattle.flight_changes.proofs.ByPlace.{fold_passes, fold_fails}
use Rattle.flight_changes.proofs.Entries.{doable_alone, doable_beside}
use Rattle.flight_changes.proofs.desks.Desk.freeze.Goals as goal
use Rattle.flight_changes.proofs.desks.Desk.freeze.Goals.{then-start-time+in_ok-add_frozen, else-start-time}

pub loop-job-init : goal.loop-job-init
loop-job-init c =
    let same = c.in_ok-frozen.ensures ∙ c.deref.ensures.value ∙ ap (λ s. s.frozen) c.self.view_is in
    let now : AreDoable c.args.self.now c.args.self.now.frozen = subst (λ s. AreDoable s s.frozen) c.self.view_is c.self.invariant.frozen in
    record { jobs = same; doable = subst (AreDoable c.args.self.now) (sym same) now }

pub add_frozen-requires : goal.add_frozen-requires
add_frozen-requires c =
    let lists = c.self.inside.lists in
    let last = c.self.inside.last_plan.items in
    let frozen = c.self.inside.frozen.items in
    let here = subst (λ s. AreDoable s c.loop-job.frozen.items) (sym c.self.view_is) c.loop-job.invariant.doable in
    let all : All (AreTeamsKnown lists) c.deref-job-items.result.now = subst (All (AreTeamsKnown lists)) (sym c.deref-job-items.ensures.value) c.self.invariant.last_plan in
    record {
      instance = c.in_ok-instance.ensures;
      frozen = doable_alone lists last frozen c.loop-job.frozen.items here;
      job = subst (AreTeamsKnown lists) (sym c.job-item.is) (All-get_or (AreTeamsKnown lists) c.deref-job-items.result.now c.loop-job.job-index c.job-item.result c.loop-job-test.true all);
    }

pub loop-job-preserved : goal.loop-job-preserved
loop-job-preserved c =
    let s = c.args.self.now in
    let lists = c.self.inside.lists in
    let last = c.self.inside.last_plan.items in
    let frozen = c.self.inside.frozen.items in
    let early = λ (job : NamedJob). nat_lt job.start c.args.time in
    let items = c.deref-job-items.result.now in
    let i = c.loop-job.job-index in
    let job = c.job-item.result in
    elim c.if-start-time.branch [
      | then-start-time+in_ok-add_frozen w ↦
          let passes : early job ≡ true = let less = w.if-start-time.true in let start = c.start.ensures in grind (arith, nat_tests) in
          let one = ap (λ s. with_frozen s c.loop-job.frozen.items job) c.self.view_is in
          let more = fold_passes (with_frozen s) early s.frozen items i job c.loop-job-test.true c.job-item.is passes in
          let new = ap (λ v. v.items) w.frozen-is in
          let doable : AreDoable s w.add_frozen.new.frozen.items =
          subst (λ s. AreDoable s w.add_frozen.new.frozen.items) c.self.view_is (doable_beside lists last frozen w.add_frozen.new.frozen.items w.in_ok-add_frozen.ensures.doable) in
          record {
            jobs = new ∙ w.in_ok-add_frozen.ensures.jobs ∙ one ∙ ap (λ jobs. with_frozen s jobs job) c.loop-job.invariant.jobs ∙ sym more;
            doable = subst (AreDoable s) (sym new) doable;
          }
      | else-start-time w ↦
          let fails : early job ≡ false = let more = w.if-start-time.false in let start = c.start.ensures in grind (arith, nat_tests) in
          let none = fold_fails (with_frozen s) early s.frozen items i job c.loop-job-test.true c.job-item.is fails in
          let new = ap (λ v. v.items) w.frozen-is in
          record { jobs = new ∙ c.loop-job.invariant.jobs ∙ sym none; doable = subst (AreDoable s) (sym new) c.loop-job.invariant.doable }
    ]

pub invariant_of-self : goal.invariant_of-self
invariant_of-self c =
    let here = subst (λ s. AreDoable s c.loop-job.frozen.items) (sym c.self.view_is) c.loop-job.invariant.doable in
    record { last_plan = c.self.invariant.last_plan; frozen = record { known = here.known; feasible = here.feasible } }

pub returns-clause-ok : goal.returns-clause-ok
returns-clause-ok c =
    let s = state_of c.self.inside in
    let now = c.args.self.now in
    let early = λ (job : NamedJob). nat_lt job.start c.args.time in
    let items = c.deref-job-items.result.now in
    let i = c.loop-job.job-index in
    let whole = take_all i items (omega (arith, c.loop-job-test.false)) ∙ c.deref-job-items.ensures.value ∙ ap (λ s. s.last_plan) c.self.view_is in
    let all = c.loop-job.invariant.jobs ∙ ap (λ jobs. fold (with_frozen now) now.frozen (filter early jobs)) whole in
    ap (λ jobs. record s { frozen = jobs }) all ∙ ap (λ (s : DayState). record s { frozen = fold (with_frozen now) now.frozen (filter early now.last_plan) }) c.self.view_is
