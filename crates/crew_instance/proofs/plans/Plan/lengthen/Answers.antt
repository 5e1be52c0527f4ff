use Rattle.std.proofs.Common.{◌≡◌, ◌≤◌, length, arith, refl, rules}
use Rattle.std.proofs.lemmas.Fn.{chained_keeps}
use Rattle.crew_instance.proofs.Slots.{AreNone, one_more_none, lengthened}
use Rattle.crew_instance.proofs.plans.Plan.lengthen.Goals as goal

pub returns-in_ok-resize_with-clause-ok : goal.returns-in_ok-resize_with-clause-ok
returns-in_ok-resize_with-clause-ok c =
    let made = c.in_ok-resize_with.ensures.items in
    let none : AreNone made.0 = chained_keeps _ (λ xs q. AreNone xs) (λ xs q x v are r. one_more_none xs x are (search rules)) made.0 tt made.1 refl made.3 in
    let few : length c.self.inside.slots.items ≤ c.args.tasks = omega arith in
    let long : length c.resize_with.new.self.items ≡ c.args.tasks = let l = c.in_ok-resize_with.ensures.len in omega arith in
    lengthened c.args.self.now c.args.tasks c.self.inside.slots.items c.resize_with.new.self.items made.0 c.self.view_is few made.2 long none
