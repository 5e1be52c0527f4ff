use Rattle.std.proofs.Common.{◌≡◌, ◌≤◌, [], get_or, ap, sym, subst, arith, rules, pos}
use Rattle.std.proofs.lemmas.Int.{ints}
use Rattle.std.specs.Prelude.{codes, Err}
use Rattle.dossier_terms.specs.Rules.{IsShape}
use Rattle.sheet_terms.specs.Lines.{bound_line}
use Rattle.sheet_lines.specs.Spelled.{ReadsSpelling}
use Rattle.sheet_lines.proofs.words.read_bound.Goals as goal

pub returns-in_err-bound : goal.returns-in_err-bound
returns-in_err-bound c =
    let e = c.in_err-bound.ensures in
    let ws = c.args.words in
    let fault : ReadsSpelling (IsShape (codes "bound") 1 ws) bound_line (λ l. l ≤ c.args.tasks) ws (Err c.in_err-bound.field-0.0) =
    subst (λ f. ReadsSpelling (IsShape (codes "bound") 1 ws) bound_line (λ l. l ≤ c.args.tasks) ws (Err f)) (sym e.0)
    (c.if-not-has_shape.ensures, λ l few is. e.1 (pos l) (record { fits = record { sfits = omega arith }; low = omega (arith, ints); high = omega (arith, ints) }) (ap (λ xs. get_or xs 1 []) is)) in
    search (rules, fault)
