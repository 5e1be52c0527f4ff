use Rattle.std.proofs.Common.{pos, set, ap, sym, ◌∙◌, subst, arith, inl, inr}
use Rattle.std.proofs.lemmas.Bool.{cases_eq}
use Rattle.std.proofs.lemmas.List.{get_or-set_same, get_or-set_other, length-set}
use Rattle.crew_num.specs.declared.Mixed.{Mixed}
use Rattle.share_check.specs.CellSums.{IsSum, sum_at}
use Rattle.share_check.proofs.Added.{nothing_is}
use Rattle.share_check.proofs.cells.clear.Goals as goal

pub loop-i-preserved : goal.loop-i-preserved
loop-i-preserved c =
    let sums = c.loop-i.sums in
    let i = c.loop-i.i in
    let none : Mixed = record { whole = pos 0; part = 0 } in
    let within = c.loop-i-test.true in
    let count = c.loop-i.invariant.0 in (
      length-set sums i none ∙ count,
      λ whole some j l. elim (cases_eq j i) [
        | inl e ↦ subst (λ (m : Mixed). IsSum whole m 0) (sym (ap (λ k. sum_at (set sums i none) k) e ∙ get_or-set_same sums i none none (omega arith))) (nothing_is whole some)
        | inr e ↦ subst (λ (m : Mixed). IsSum whole m 0) (sym (get_or-set_other sums i j none none e)) (c.loop-i.invariant.1 whole some j (omega arith))
      ],
    )

pub returns-clause-none : goal.returns-clause-none
returns-clause-none c = λ whole some j l.
    let stop = c.loop-i-test.false in
    let count = c.loop-i.invariant.0 in
    c.loop-i.invariant.1 whole some j (omega arith)
