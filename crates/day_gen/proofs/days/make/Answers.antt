use Rattle.std.proofs.Common.{◌≡◌, List, subst, sym}
use Rattle.std.specs.Prelude.{All}
use Rattle.day_terms.specs.declared.Entry.{Entry}
use Rattle.day_terms.specs.Ranges.{IsInRange}
use Rattle.day_terms.specs.State.{start}
use Rattle.day_terms.specs.Refusal.{AreTaken}
use Rattle.day_gen.specs.Day.{generated_day}
use Rattle.day_gen.proofs.Runs.{is_day}
use Rattle.day_gen.proofs.days.make.Goals as goal

made : (c : goal.In_ok-push) → c.push.new.self.items ≡ generated_day c.args.number c.args.teams c.args.tasks c.args.nodes
made c =
    is_day c.args.number c.args.teams c.args.tasks c.args.nodes _ _ _ _ _ _ _ _ _ c.generator_of-generator.ensures c.new-entries.ensures.items
    c.in_ok-add_places.ensures c.in_ok-add_travels.ensures.entries c.in_ok-add_travels.ensures.draws
    c.in_ok-add_teams.ensures.entries c.in_ok-add_teams.ensures.draws c.in_ok-add_tasks.ensures c.in_ok-push.ensures.items

pub returns-clause-day : goal.returns-clause-day
returns-clause-day c = made c

pub returns-clause-ranges : goal.returns-clause-ranges
returns-clause-ranges c =
    let P : List Entry → Type 0 = λ entries. All IsInRange entries in
    subst P (sym (made c)) (c.generated_days_are_taken.ensures.ranges c.args.number c.args.teams c.args.tasks c.args.nodes c.requires.nodes)

pub returns-clause-taken : goal.returns-clause-taken
returns-clause-taken c =
    subst (AreTaken start) (sym (made c)) (c.generated_days_are_taken.ensures.taken c.args.number c.args.teams c.args.tasks c.args.nodes c.requires.teams c.requires.tasks)
