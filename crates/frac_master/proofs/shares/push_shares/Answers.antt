use Rattle.std.proofs.Common.{◌<◌, ◌≤◌, ◌+◌, ◌^◌, ◌++◌, ◌∷◌, [], ◌∙◌, ℤ, List, ap, sym, subst, arith, cond, get_or, length, take, pos, append-nil}
use Rattle.frac_master.specs.declared.shares.Share.{Share}
use Rattle.frac_master.specs.Shares.{column_shares, parts_at}
use Rattle.frac_master.proofs.LowestShares.{signed}
use Rattle.frac_master.proofs.Ranges.{grown}
use Rattle.frac_master.proofs.Walked.{columns_more, is_none, is_some}
use Rattle.frac_master.proofs.shares.push_shares.Goals as goal
use Rattle.frac_master.proofs.shares.push_shares.Goals.{then-num-gt0+in_ok-push, else-num-gt0}

pub loop-i-preserved : goal.loop-i-preserved
loop-i-preserved c =
    let i = c.loop-i.i in
    let t = c.args.table.now.rows in
    let x = parts_at t c.args.whole in
    let cs = c.args.columns.now in
    let at = c.args.first in
    let old = c.args.out.now.items in
    let front = column_shares x at (take i cs) in
    let here : i < length cs = omega arith in
    let share : Share = record { column = get_or cs i 0; num = pos (x (at + i)) } in
    let more = columns_more x at cs i here in
    let n = c.parts_of-num.result in
    let e = c.parts_of-num.ensures in
    elim c.if-num-gt0.branch [
      | then-num-gt0+in_ok-push w ↦
          let small = subst (λ k. k < 2 ^ 127) (sym e) (c.requires.whole i here).fits in
          let z = signed n small ∙ ap pos e in
          let some = subst (λ k. 0 < k) e w.if-num-gt0.true in
          let m = more ∙ ap (λ b. front ++ cond {A = List Share} b [] (share ∷ [])) (is_some (x (at + i)) some) in
          let p = w.in_ok-push.ensures.items ∙ ap (λ (k : ℤ). let s : Share = record { column = get_or cs i 0; num = k } in c.loop-i.out.items ++ s ∷ []) z in
          rw w.out-is (grown old c.loop-i.out.items w.push.new.self.items share front c.loop-i.invariant p ∙ ap (λ l. old ++ l) (sym m))
      | else-num-gt0 w ↦
          let none = subst (λ k. k ≤ 0) e w.if-num-gt0.false in
          let m = more ∙ ap (λ b. front ++ cond {A = List Share} b [] (share ∷ [])) (is_none (x (at + i)) none) ∙ append-nil front in
          rw w.out-is (c.loop-i.invariant ∙ ap (λ l. old ++ l) (sym m))
    ]
