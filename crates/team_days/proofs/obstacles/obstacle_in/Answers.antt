use Rattle.std.proofs.Common.{refl}
use Rattle.crew_terms.specs.Legal.{IsFit}
use Rattle.team_days.proofs.Day.{turn_known}
use Rattle.team_days.proofs.Named.{told_is}
use Rattle.team_days.proofs.Told.{HasNone, IsOffShift, LacksSkill, begins_then, comes_late, goes_on_late, idle_from, comes_from, goes_on_from}
use Rattle.team_days.proofs.obstacles.obstacle_in.Goals as goal

pub returns-then-not-qualified : goal.returns-then-not-qualified
returns-then-not-qualified c = λ p feasible are.
    told_is c.args.instance.now p c.args.k c.args.j c.args.t feasible _
    (LacksSkill (λ q. let t = c.qualified.ensures.1 q in let f = c.if-not-qualified.true in cc) refl)

pub returns-then-not-in_shift : goal.returns-then-not-in_shift
returns-then-not-in_shift c = λ p feasible are.
    told_is c.args.instance.now p c.args.k c.args.j c.args.t feasible _
    (IsOffShift (c.qualified.ensures.0 c.if-not-qualified.false) (λ s. let t = c.in_shift.ensures.1 s in let f = c.if-not-in_shift.true in cc) refl)

pub returns-in-Some : goal.returns-in-Some
returns-in-Some c = λ p feasible are.
    let fit : IsFit c.args.instance.now c.args.j c.args.t c.args.k = record { qualified = c.qualified.ensures.0 c.if-not-qualified.false; in_shift = c.in_shift.ensures.0 c.if-not-in_shift.false } in
    told_is c.args.instance.now p c.args.k c.args.j c.args.t feasible _
    (begins_then c.args.instance.now p c.args.k c.args.j c.args.t feasible fit c.neighbours-before.result.1 c.in-Some.h
    (c.neighbours-before.ensures.next p c.args.k are) c.in-Some.ensures)

pub returns-in-Some-comes_late : goal.returns-in-Some-comes_late
returns-in-Some-comes_late c = λ p feasible are.
    let fit : IsFit c.args.instance.now c.args.j c.args.t c.args.k = record { qualified = c.qualified.ensures.0 c.if-not-qualified.false; in_shift = c.in_shift.ensures.0 c.if-not-in_shift.false } in
    let next = c.neighbours-before.ensures.next p c.args.k are in
    let idle = idle_from c.args.instance.now p c.args.k c.args.j c.args.t feasible c.neighbours-before.result.1 next c.in_default.ensures in
    let late = c.in-Some-comes_late.ensures in
    told_is c.args.instance.now p c.args.k c.args.j c.args.t feasible _
    (comes_late c.args.instance.now p c.args.k c.args.j c.args.t feasible fit c.neighbours-before.result.0 c.in-Some-comes_late.h late.0
    (c.neighbours-before.ensures.before p c.args.k are) idle late.1 late.2)

pub returns-in-Some-goes_on_late : goal.returns-in-Some-goes_on_late
returns-in-Some-goes_on_late c = λ p feasible are.
    let fit : IsFit c.args.instance.now c.args.j c.args.t c.args.k = record { qualified = c.qualified.ensures.0 c.if-not-qualified.false; in_shift = c.in_shift.ensures.0 c.if-not-in_shift.false } in
    let next = c.neighbours-before.ensures.next p c.args.k are in
    let idle = idle_from c.args.instance.now p c.args.k c.args.j c.args.t feasible c.neighbours-before.result.1 next c.in_default.ensures in
    let comes = comes_from c.args.instance.now p c.args.k c.args.j c.args.t feasible c.neighbours-before.result.0 (c.neighbours-before.ensures.before p c.args.k are) c.in_default-comes_late.ensures in
    let late = c.in-Some-goes_on_late.ensures in
    told_is c.args.instance.now p c.args.k c.args.j c.args.t feasible _
    (goes_on_late c.args.instance.now p c.args.k c.args.j c.args.t feasible fit c.neighbours-before.result.1 c.in-Some-goes_on_late.h late.0 next c.in_default.ensures idle comes late.1 late.2)

pub returns : goal.returns
returns c = λ p feasible are.
    let next = c.neighbours-before.ensures.next p c.args.k are in
    told_is c.args.instance.now p c.args.k c.args.j c.args.t feasible _ (HasNone (record {
      known = c.requires.team;
      fit = record { qualified = c.qualified.ensures.0 c.if-not-qualified.false; in_shift = c.in_shift.ensures.0 c.if-not-in_shift.false };
      idle = idle_from c.args.instance.now p c.args.k c.args.j c.args.t feasible c.neighbours-before.result.1 next c.in_default.ensures;
      comes = comes_from c.args.instance.now p c.args.k c.args.j c.args.t feasible c.neighbours-before.result.0 (c.neighbours-before.ensures.before p c.args.k are) c.in_default-comes_late.ensures;
      goes_on = goes_on_from c.args.instance.now p c.args.k c.args.j c.args.t feasible c.neighbours-before.result.1 next c.in_default.ensures c.in_default-goes_on_late.ensures;
    }) refl)

pub comes_late-requires-clause-before : goal.comes_late-requires-clause-before
comes_late-requires-clause-before c = turn_known c.args.instance.now c.args.k c.args.turns.now c.neighbours-before.result.0 c.requires.day c.neighbours-before.ensures.listed

pub goes_on_late-requires-clause-next : goal.goes_on_late-requires-clause-next
goes_on_late-requires-clause-next c = turn_known c.args.instance.now c.args.k c.args.turns.now c.neighbours-before.result.1 c.requires.day c.neighbours-before.ensures.next_listed
