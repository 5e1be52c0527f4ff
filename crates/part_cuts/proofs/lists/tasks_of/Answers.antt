use Rattle.std.proofs.Common.{◌≡◌, ◌+◌, ◌∙◌, ℕ, get_or, length, ap, subst, sym, arith, Vec, Global}
use Rattle.part_cuts.proofs.Listed.{AreBelow, below_all, below_no, below_yes}
use Rattle.part_cuts.proofs.lists.tasks_of.Goals as goal
use Rattle.part_cuts.proofs.lists.tasks_of.Goals.{then-numbers-t+in_ok-push, else-numbers-t}

pub loop-t-preserved : goal.loop-t-preserved
loop-t-preserved c =
    let P = λ (h : ℕ). get_or c.args.numbers.now h 0 ≡ c.args.k in
    elim c.if-numbers-t.branch [
      | then-numbers-t+in_ok-push w ↦
          subst (AreBelow P (c.loop-t.t + 1)) (sym (ap (λ (v : Vec ℕ Global). v.items) w.tasks-is ∙ w.in_ok-push.ensures.items))
          (below_yes P c.loop-t.t c.loop-t.tasks.items c.loop-t.invariant w.if-numbers-t.true)
      | else-numbers-t w ↦
          subst (AreBelow P (c.loop-t.t + 1)) (sym (ap (λ (v : Vec ℕ Global). v.items) w.tasks-is))
          (below_no P c.loop-t.t c.loop-t.tasks.items c.loop-t.invariant w.if-numbers-t.false)
    ]

pub returns : goal.returns
returns c =
    below_all (λ (h : ℕ). get_or c.args.numbers.now h 0 ≡ c.args.k) (length c.args.numbers.now) c.loop-t.t c.loop-t.tasks.items
    (let a = c.loop-t-test.false in let b = c.loop-t.auto.t-end in omega arith) c.loop-t.invariant
