use Rattle.std.proofs.Common.{◌≡◌, ◌<◌, ◌+◌, ◌∙◌, ℕ, Bool, true, false, length, ap, subst, sym, arith, Vec, Global}
use Rattle.crew_terms.specs.Instance.{task_of}
use Rattle.part_match.proofs.FoundTasks.{AreFound, all_found, found_next, passed_over}
use Rattle.part_match.proofs.numbers.numbers.Goals as goal
use Rattle.part_match.proofs.numbers.numbers.Goals.{then-is_task+in_ok-push, else-is_task}

not_so : (b : Bool) → b ≡ false → b ≡ true → ⊥
not_so b f t = cc

pub loop-j-preserved : goal.loop-j-preserved
loop-j-preserved c =
    let whole = c.args.whole.now in
    let part = c.args.part.now in
    let out = c.loop-j.tasks.items in
    let many : c.len.result ≡ length out = let o = c.loop-j.tasks.ok.0 in omega (arith, c.len.ensures) in
    elim c.if-is_task.branch [
      | then-is_task+in_ok-push w ↦
          let next = c.is_task.ensures.0 w.if-is_task.true in
          let more : length out < length part.tasks = let n = next.0 in omega arith in
          let same : task_of whole c.loop-j.j ≡ task_of part (length out) = subst (λ k. task_of whole c.loop-j.j ≡ task_of part k) many next.1 in
          subst (AreFound whole part (c.loop-j.j + 1)) (sym (ap (λ (v : Vec ℕ Global). v.items) w.tasks-is ∙ w.in_ok-push.ensures.items))
          (found_next whole part c.loop-j.j out c.loop-j.invariant more same)
      | else-is_task w ↦
          subst (AreFound whole part (c.loop-j.j + 1)) (sym (ap (λ (v : Vec ℕ Global). v.items) w.tasks-is))
          (passed_over whole part c.loop-j.j out c.loop-j.invariant
          (λ next. not_so c.is_task.result w.if-is_task.false (c.is_task.ensures.1 (subst (λ k. (k < length part.tasks) × (task_of whole c.loop-j.j ≡ task_of part k)) (sym many) next))))
    ]

pub returns : goal.returns
returns c =
    all_found c.args.whole.now c.args.part.now c.loop-j.j c.loop-j.tasks.items c.loop-j.invariant
    (let a = c.loop-j.auto.j-end in omega (arith, c.tasks-j-end.ensures.count))
    (let o = c.loop-j.tasks.ok.0 in let t = c.if-len-tasks.false in omega (arith, c.len-2.ensures, c.tasks-2.ensures.count))
