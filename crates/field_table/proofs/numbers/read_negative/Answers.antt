use Rattle.std.proofs.Common.{◌≡◌, ◌-◌, suc, sym, ap, ◌∙◌, arith}
use Rattle.std.specs.Fmt.{decimal}
use Rattle.std.proofs.lemmas.Int.{ints}
use Rattle.std.proofs.lemmas.Fmt.{decimal_injective}
use Rattle.field_table.proofs.numbers.read_negative.Goals as goal

pub returns-then-n-eq0 : goal.returns-then-n-eq0
returns-then-n-eq0 c = λ n h e.
    let zero = c.in_ok-n.ensures.1 in
    let is = c.if-n-eq0.true in
    let same = decimal_injective c.in_ok-n.n (suc n) (omega arith) (omega arith) (sym zero ∙ e) in
    absurd (omega arith)

pub returns : goal.returns
returns c =
    let most = c.in_ok-n.ensures.0 in
    let some = c.if-n-eq0.false in
    let next : c.in_ok-n.n ≡ suc (c.in_ok-n.n - 1) = omega arith in
    (c.in_ok-n.n - 1, omega arith, omega (arith, ints), c.in_ok-n.ensures.1 ∙ ap decimal next)
