use Rattle.std.proofs.Common.{◌≡◌, ◌<◌, ◌+◌, ◌*◌, length, get_or, ap, ◌∙◌, arith, pos, rules, w64}
use Rattle.std.specs.Prelude.{FitsSigned}
use Rattle.std.proofs.lemmas.Int.{to_z-of_z}
use Rattle.leaf_check.proofs.RunNumbers.{numbers_length, value_number}
use Rattle.leaf_check.proofs.runs.run_number.Goals as goal

pub returns : goal.returns
returns c = λ runs e.
    let n = c.args.n in
    let below : n < length runs = (let t = c.requires.known in let l = ap length e in let d = numbers_length runs in omega arith) in
    let fits : FitsSigned w64 c.get.result = search rules in
    to_z-of_z w64 c.get.result fits ∙ c.get.ensures ∙ ap (λ zs. get_or zs (2 * n + 1) (pos 0)) e ∙ value_number runs n below
