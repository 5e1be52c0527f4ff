use Rattle.std.proofs.Common.{List, ℕ, subst, sym}
use Rattle.plan_builder.specs.Schedules.{IsChoiceOf}
use Rattle.plan_builder.proofs.Filled.{chosen_free}
use Rattle.plan_builder.proofs.schedule.Schedule.begin.Goals as goal

pub add-requires-clause-free : goal.add-requires-clause-free
add-requires-clause-free c =
    let choice : IsChoiceOf c.as_slice.result.now c.args.free.items = subst (λ (xs : List ℕ). IsChoiceOf xs c.args.free.items) (sym c.as_slice.ensures.value) c.choose-teams.ensures.choice in
    chosen_free c.args.self.now c.args.j c.args.t c.args.free.items c.as_slice.result.now c.requires.room choice
