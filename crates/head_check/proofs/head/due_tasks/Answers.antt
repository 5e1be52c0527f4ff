use Rattle.std.proofs.Common.{◌≡◌, ℕ, arith, subst, sym}
use Rattle.dossier_terms.specs.Reading.{tasks_due}
use Rattle.dossier_terms.specs.Rules.{Goes}
use Rattle.head_check.specs.Head.{HasTasksLeft, HeadTells, opening_of, read_of}
use Rattle.head_check.proofs.head.due_tasks.Goals as goal

pub due_behind_tasks-requires : goal.due_behind_tasks-requires
due_behind_tasks-requires c =
    let none : c.args.more ≡ 0 = (let n = c.if-more-gt0.false in omega arith) in
    subst (HasTasksLeft c.args.head.value) none c.requires

pub returns : goal.returns
returns c =
    let h = c.args.head.value in
    let none : c.args.more ≡ 0 = (let n = c.if-more-gt0.false in omega arith) in
    subst (λ (m : ℕ). HeadTells (Goes (tasks_due (opening_of h) m (read_of h))) c.due_behind_tasks.result) (sym none) c.due_behind_tasks.ensures
