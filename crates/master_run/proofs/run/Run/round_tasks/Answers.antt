use Rattle.std.proofs.Common.{◌<◌, ◌+◌, length, rules, sym, subst, arith, w64}
use Rattle.std.specs.Prelude.{Contains, FitsSigned}
use Rattle.std.proofs.lemmas.Int.{to_z-of_z}
use Rattle.crew_terms.specs.Limits.{tasks_in}
use Rattle.search_terms.specs.declared.Place.TheVariants.{Shortage}
use Rattle.master_run.specs.Rounding.{AreTasksRounded}
use Rattle.master_run.proofs.Rounded.{task_set}
use Rattle.master_run.proofs.run.Run.round_tasks.Goals as goal

pub price-requires : goal.price-requires
price-requires c =
    let n = c.args.limits.now.limits in
    let below : c.loop-j.j < tasks_in n = search rules in
    subst (λ ps. Contains ps (Shortage c.loop-j.j)) (sym c.requires.places) ((c.places_are.ensures.tasks n c.loop-j.j).1 below)

pub loop-j-preserved : goal.loop-j-preserved
loop-j-preserved c =
    let n = c.args.limits.now.limits in
    let t = c.args.self.now.master.rows in
    let below : c.loop-j.j < tasks_in n = search rules in
    let fits : FitsSigned w64 c.in_ok-price.price = search rules in
    let is = simp to_z-of_z at c.set_pi.ensures.price in
    let known : c.loop-j.j < length c.loop-j.prices.pi = omega (arith, c.loop-j.invariant.shape.tasks) in
    record {
      shape = search rules;
      required = search rules;
      rounded = subst (λ p. AreTasksRounded n t p (c.loop-j.j + 1)) (sym is)
          (task_set n t c.loop-j.prices c.loop-j.j c.in_ok-price.price known c.loop-j.invariant.rounded (c.in_ok-price.ensures.rounded n c.requires.places));
    }
