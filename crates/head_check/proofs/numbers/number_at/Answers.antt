use Rattle.std.proofs.Common.{◌≡◌, ◌∙◌, w64, to_z, of_z, rules, pos}
use Rattle.std.specs.Prelude.{FitsSigned}
use Rattle.std.proofs.lemmas.Int.{to_z-of_z}
use Rattle.head_check.proofs.numbers.number_at.Goals as goal

pub overflow_cast-result : goal.overflow_cast-result
overflow_cast-result c =
    let fits : FitsSigned w64 c.get.result = search rules in
    let b = c.requires.range c.args.n (pos 0) c.requires.place in
    let e : to_z w64 (of_z w64 c.get.result) ≡ pos b.0 = to_z-of_z w64 c.get.result fits ∙ c.get.ensures ∙ b.1 in
    let below = b.2 in
    rw e (tt, search rules)

pub returns : goal.returns
returns c =
    let fits : FitsSigned w64 c.get.result = search rules in
    let b = c.requires.range c.args.n (pos 0) c.requires.place in
    let e : to_z w64 (of_z w64 c.get.result) ≡ pos b.0 = to_z-of_z w64 c.get.result fits ∙ c.get.ensures ∙ b.1 in
    rw e b.1
