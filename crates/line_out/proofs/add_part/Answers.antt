use Rattle.std.proofs.Common.{◌≡◌, ◌++◌, List, ℕ, ap, sym, take, ◌∙◌, subst}
use Rattle.std.specs.Prelude.{IfOk}
use Rattle.std.proofs.lemmas.Fmt.{decimal_digit}
use Rattle.line_out.specs.Parts.{part_word}
use Rattle.line_out.proofs.add_part.Goals as goal

pub returns-in-Number-clause-added : goal.returns-in-Number-clause-added
returns-in-Number-clause-added c =
    let before = take c.args.at c.args.room.now in
    let word = sym (decimal_digit c.in-Number.n c.if-n-lt10.true) ∙ ap part_word (sym c.in-Number.is) in
    subst (λ (w : List ℕ). IfOk c.add-in-Number.result (λ to. take to c.add-in-Number.new.room ≡ before ++ w)) word c.add-in-Number.ensures.added
