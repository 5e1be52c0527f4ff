use Rattle.std.proofs.Common.{◌≡◌, sym, ◌∙◌, arith}
use Rattle.std.proofs.lemmas.Fmt.{decimal_injective}
use Rattle.trial_command.proofs.words.number_in.Goals as goal

pub returns-in_default : goal.returns-in_default
returns-in_default c = λ k low high is. c.in_default.ensures k (omega arith) is

pub returns-then-n-least : goal.returns-then-n-least
returns-then-n-least c = λ k low high is.
    let small = c.in-Some.ensures.0 in
    let below = c.if-n-least.true in
    let same : c.in-Some.n ≡ k = decimal_injective c.in-Some.n k (omega arith) (omega arith) (sym c.in-Some.ensures.1 ∙ is) in
    absurd (omega arith)

pub returns-then-most-n : goal.returns-then-most-n
returns-then-most-n c = λ k low high is.
    let small = c.in-Some.ensures.0 in
    let above = c.if-most-n.true in
    let same : c.in-Some.n ≡ k = decimal_injective c.in-Some.n k (omega arith) (omega arith) (sym c.in-Some.ensures.1 ∙ is) in
    absurd (omega arith)
