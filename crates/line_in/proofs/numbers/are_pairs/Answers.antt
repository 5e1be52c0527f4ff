use Rattle.std.proofs.Common.{◌+◌, ◌*◌, [], ℕ, get_or, subst, sym, arith, inl, inr}
use Rattle.std.proofs.lemmas.Bool.{cases_eq}
use Rattle.line_in.specs.Fields.{SpellsOne}
use Rattle.line_in.proofs.numbers.are_pairs.Goals as goal

pub returns-then-not-is_in : goal.returns-then-not-is_in
returns-then-not-is_in c = λ pairs.
    let all = c.requires.pairs.1 in
    let count = c.count.ensures in
    let until = c.loop-n-test.true in
    let one = (pairs c.loop-n.n (omega arith)).0 in
    c.if-not-is_in.ensures one.0 one.1 one.2

pub returns-then-not-is_in-2 : goal.returns-then-not-is_in-2
returns-then-not-is_in-2 c = λ pairs.
    let all = c.requires.pairs.1 in
    let count = c.count.ensures in
    let until = c.loop-n-test.true in
    let two = (pairs c.loop-n.n (omega arith)).1 in
    c.if-not-is_in-2.ensures two.0 two.1 two.2

pub loop-n-preserved : goal.loop-n-preserved
loop-n-preserved c = λ k less.
    let ws = c.args.words.now in
    let from = c.args.from in
    elim (cases_eq k c.loop-n.n) [
      | inl same ↦ subst (λ (m : ℕ). SpellsOne c.args.first.now (get_or ws (from + 2 * m) []) × SpellsOne c.args.second.now (get_or ws (from + 2 * m + 1) [])) (sym same)
          (c.if-not-is_in.ensures, c.if-not-is_in-2.ensures)
      | inr other ↦ c.loop-n.invariant k (omega arith)
    ]

pub returns : goal.returns
returns c = λ k there.
    let all = c.requires.pairs.1 in
    let count = c.count.ensures in
    let stop = c.loop-n-test.false in
    c.loop-n.invariant k (omega arith)
