use Rattle.std.proofs.Common.{◌≡◌, ◌∙◌, ap, length, map}
use Rattle.std.specs.List.{range_with_len}
use Rattle.std.proofs.lemmas.Result.{IfOk-weaker}
use Rattle.crew_terms.specs.Instance.{Instance}
use Rattle.crew_terms.specs.Leaf.{pi_of}
use Rattle.kept_prices.proofs.RowLemmas.{read_row}
use Rattle.kept_prices.proofs.rows.tasks_of.Goals as goal

pub returns : goal.returns
returns c =
    let p = c.args.prices.now in
    let n = length c.args.limits.now.limits.instance.tasks in
    let count : c.tasks.result ≡ n = c.tasks.ensures.count ∙ ap (λ (i : Instance). length i.tasks) c.instance.ensures.instance in
    IfOk-weaker c.task_prices.result _ _
    (λ v e. e ∙ ap (λ m. map (λ j. pi_of p j) (range_with_len 0 m)) count ∙ read_row n p.pi c.requires.tasks) c.task_prices.ensures
