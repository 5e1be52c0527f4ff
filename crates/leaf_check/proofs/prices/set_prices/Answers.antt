use Rattle.std.proofs.Common.{◌≡◌, ◌<◌, length, get_or, set, ap, arith, ◌∙◌, FitsSigned, rules, to_z, of_z, w64}
use Rattle.std.specs.Prelude.{pos}
use Rattle.std.proofs.lemmas.Int.{to_z-of_z}
use Rattle.crew_terms.specs.Limits.{tasks_in}
use Rattle.leaf_check.proofs.Priced.{tasks_more}
use Rattle.leaf_check.proofs.prices.set_prices.Goals as goal

pub loop-j-preserved : goal.loop-j-preserved
loop-j-preserved c =
    let n = c.args.limits.now.limits in
    let size = ap (λ i. length i.tasks) c.instance.ensures.instance in
    let test = c.loop-j-test.true in
    let end = c.tasks-j-end.ensures.count in
    let task : c.loop-j.j < tasks_in n = omega arith in
    let cleared = c.clear_pairs.new.prices in
    let fits : FitsSigned w64 c.get.result = search rules in
    let price : to_z w64 (of_z w64 c.get.result) ≡ get_or c.args.given.now c.loop-j.j (pos 0) = to_z-of_z w64 c.get.result fits ∙ c.get.ensures in
    tasks_more n c.loop-j.prices cleared c.set_pi.new.self c.loop-j.j c.args.given.now task c.requires.count c.loop-j.invariant
    c.clear_pairs.ensures.prices c.clear_pairs.ensures.others c.clear_pairs.ensures.cleared
    (c.set_pi.ensures.price ∙ ap (λ v. record cleared { pi = set cleared.pi c.loop-j.j v }) price)
