use Rattle.std.proofs.Common.{◌<◌, ℕ, suc, length, ap, sym, ◌∙◌, subst, arith, inl, inr}
use Rattle.std.proofs.lemmas.Bool.{cases_eq}
use Rattle.leaf_check.specs.Runs.{GoesOn}
use Rattle.leaf_check.proofs.RunNumbers.{numbers_length, are_by, first_begins, goes_on_at}
use Rattle.leaf_check.proofs.runs.are_runs.Goals as goal

pub returns-then-from-first : goal.returns-then-from-first
returns-then-from-first c = λ runs e are. c.if-from-first.true (c.run_begin-from.ensures runs e ∙ first_begins c.args.first c.args.past runs are)

pub returns-then-not-goes_on : goal.returns-then-not-goes_on
returns-then-not-goes_on c = λ runs e are.
    let below : suc c.loop-n.n < length runs = (let t = c.loop-n-test.true in let l = ap length e in let d = numbers_length runs in omega arith) in
    let told = rw c.if-not-goes_on.true at (c.goes_on.ensures runs e) in
    told (goes_on_at c.args.first c.args.past runs are c.loop-n.n below)

pub loop-n-preserved : goal.loop-n-preserved
loop-n-preserved c = λ runs e k less.
    let told = rw c.if-not-goes_on.false at (c.goes_on.ensures runs e) in
    elim (cases_eq k c.loop-n.n) [
      | inl same ↦ subst (λ (m : ℕ). GoesOn c.args.past runs m) (sym same) told
      | inr other ↦ c.loop-n.invariant runs e k (omega arith)
    ]

pub returns : goal.returns
returns c = λ runs e.
    let l = ap length e in
    let d = numbers_length runs in
    let own = ap length c.requires.numbers in
    let size = numbers_length c.requires.runs in
    let some = c.requires.some in
    let stop = c.loop-n-test.false in
    are_by c.args.first c.args.past runs (omega arith) (sym (c.run_begin-from.ensures runs e) ∙ c.if-from-first.false) (λ n less. c.loop-n.invariant runs e n (omega arith))
