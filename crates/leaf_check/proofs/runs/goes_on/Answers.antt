use Rattle.std.proofs.Common.{◌≡◌, ◌<◌, ◌+◌, ◌*◌, suc, length, get_or, ap, sym, ◌∙◌, arith, rules, pos, w64, of_z, add-one}
use Rattle.std.specs.Prelude.{FitsSigned}
use Rattle.leaf_check.specs.Runs.{begin_of_run}
use Rattle.leaf_check.proofs.RunNumbers.{numbers_length, value_number, next_value, same_word}
use Rattle.leaf_check.proofs.runs.goes_on.Goals as goal

pub returns-then-next-from : goal.returns-then-next-from
returns-then-next-from c = λ runs e g.
    let from = c.run_begin-from.ensures runs e in
    let next : c.run_begin-next.result ≡ begin_of_run c.args.past runs (suc c.args.n) = c.run_begin-next.ensures runs e ∙ ap (begin_of_run c.args.past runs) (add-one c.args.n) in
    let rises = g.rises in
    let t = c.if-next-from.true in
    absurd (omega arith)

pub returns-then-next-past : goal.returns-then-next-past
returns-then-next-past c = λ runs e g.
    let next : c.run_begin-next.result ≡ begin_of_run c.args.past runs (suc c.args.n) = c.run_begin-next.ensures runs e ∙ ap (begin_of_run c.args.past runs) (add-one c.args.n) in
    let before = g.before in
    let t = c.if-next-past.true in
    absurd (omega arith)

pub returns-then-number-last : goal.returns-then-number-last
returns-then-number-last c = λ runs e g.
    let n = c.args.n in
    let below : suc n < length runs = (let t = c.requires.two in let l = ap length e in let d = numbers_length runs in omega arith) in
    let fits_last : FitsSigned w64 c.get-last.result = search rules in
    let fits_number : FitsSigned w64 c.get-number.result = search rules in
    let last = c.get-last.ensures ∙ ap (λ zs. get_or zs (2 * n + 1) (pos 0)) e ∙ value_number runs n (omega arith) in
    let number = c.get-number.ensures ∙ ap (λ zs. get_or zs (2 * n + 3) (pos 0)) e ∙ next_value runs n below in
    g.differs (sym number ∙ same_word c.get-number.result c.get-last.result fits_number fits_last c.if-number-last.true ∙ last)

pub returns : goal.returns
returns c = λ runs e.
    let n = c.args.n in
    let below : suc n < length runs = (let t = c.requires.two in let l = ap length e in let d = numbers_length runs in omega arith) in
    let from = c.run_begin-from.ensures runs e in
    let next : c.run_begin-next.result ≡ begin_of_run c.args.past runs (suc n) = c.run_begin-next.ensures runs e ∙ ap (begin_of_run c.args.past runs) (add-one n) in
    let last = c.get-last.ensures ∙ ap (λ zs. get_or zs (2 * n + 1) (pos 0)) e ∙ value_number runs n (omega arith) in
    let number = c.get-number.ensures ∙ ap (λ zs. get_or zs (2 * n + 3) (pos 0)) e ∙ next_value runs n below in
    let t = c.if-next-from.false in
    let u = c.if-next-past.false in
    record {
      rises = omega arith;
      before = omega arith;
      differs = λ f. c.if-number-last.false (ap (of_z w64) (number ∙ f ∙ sym last));
    }
