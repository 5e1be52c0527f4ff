use Rattle.std.proofs.Common.{arith, ap, subst, sym, length, List}
use Rattle.arrayvec.specs.ArrayVec.{ArrayVec}
use Rattle.crew_terms.specs.Legal.{IsLegal}
use Rattle.crew_terms.specs.Plan.{Job}
use Rattle.crew_instance.specs.declared.turns.Turn.{Turn}
use Rattle.team_days.specs.Adding.{AreFree, IsAddition}
use Rattle.plan_builder.specs.Schedules.{Schedule, AreDays}
use Rattle.plan_builder.proofs.Days.{days_stay, written}
use Rattle.plan_builder.proofs.schedule.Schedule.add.Goals as goal

pub look_anew-requires-clause-known : goal.look_anew-requires-clause-known
look_anew-requires-clause-known c = λ k m.
    let l = (c.requires.free k m).known in
    let same = ap (λ (s : Schedule). length s.instance.teams) c.self.view_is in
    let teams = c.self.invariant.teams in
    let days = ap (λ (ds : List (ArrayVec Turn)). length ds) c.deref_mut.ensures.value in
    omega arith

pub look_anew-requires-clause-others : goal.look_anew-requires-clause-others
look_anew-requires-clause-others c =
    let job : Job = record { start = c.args.t; teams = c.args.teams.now } in
    let addition : IsAddition c.self.inside.instance.now c.self.inside.plan c.args.j job = subst (λ (s : Schedule). IsAddition s.instance s.plan c.args.j job) (sym c.self.view_is) c.requires.addition in
    days_stay c.self.inside.plan c.assign.new.self c.args.j job c.self.inside.days.items c.deref_mut.result.now c.in_ok-assign.ensures.ok c.deref_mut.ensures.value c.self.invariant.days
    (λ k n turns. c.other_days_stay.ensures c.self.inside.plan c.args.j job k n turns (let a = addition.task in let b = c.self.invariant.legal.feasible.whole in omega arith) addition.unassigned)

pub invariant_of-self-2 : goal.invariant_of-self-2
invariant_of-self-2 c =
    let job : Job = record { start = c.args.t; teams = c.args.teams.now } in
    let addition : IsAddition c.self.inside.instance.now c.self.inside.plan c.args.j job = subst (λ (s : Schedule). IsAddition s.instance s.plan c.args.j job) (sym c.self.view_is) c.requires.addition in
    let free : AreFree c.self.inside.instance.now c.self.inside.plan c.args.j job = subst (λ (s : Schedule). AreFree s.instance s.plan c.args.j job) (sym c.self.view_is) c.requires.free in
    let legal = (c.free_teams_may_begin.ensures.legal c.self.inside.instance.now c.self.inside.plan c.args.j job c.self.invariant.legal addition).1 free in
    let a = c.self.invariant.teams in
    let b = c.look_anew.auto.days in
    let d = ap (λ (ds : List (ArrayVec Turn)). length ds) c.deref_mut.ensures.value in
    let now = written c.self.inside.days c.look_anew.new.days (omega arith) in
    let e = ap (λ (ds : List (ArrayVec Turn)). length ds) now in
    record {
      instance = c.self.invariant.instance;
      legal = subst (IsLegal c.self.inside.instance.now) (sym c.in_ok-assign.ensures.ok) legal;
      teams = omega arith;
      days = subst (AreDays c.assign.new.self) (sym now) c.look_anew.ensures;
    }
