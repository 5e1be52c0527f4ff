use Rattle.std.proofs.Common.{◌≡◌, ◌≤◌, ◌<◌, ◌∙◌, ◌++◌, ◌∷◌, [], ℕ, List, true, false, leb, vec_items, ap, sym, subst, arith}
use Rattle.std.proofs.lemmas.Bool.{le-leb, cases_Bool, leb-true}
use Rattle.std.proofs.lemmas.Bool.Decides.{leb_tells}
use Rattle.crew_terms.specs.Instance.{task_of}
use Rattle.crew_terms.specs.declared.Task.{Task}
use Rattle.squeeze_terms.specs.Possible.{able_count, is_possible}
use Rattle.minute_prices.proofs.Kept.{kept_yes, kept_no}
use Rattle.minute_prices.proofs.Tests.{leb_no}
use Rattle.minute_prices.proofs.possible.minutes_of.Goals.{then-task-able_count+in_ok-push, else-task-able_count}
use Rattle.minute_prices.proofs.possible.minutes_of.Goals as goal

pub loop-t-preserved : goal.loop-t-preserved
loop-t-preserved c =
    let n = c.args.limits.now.limits in
    let j = c.args.j in
    let t = c.loop-t.t in
    let first = c.task-task.result.now.earliest in
    let from : first ≤ t = omega arith in
    let teams : c.task-task.result.now.teams ≡ (task_of n.instance j).teams = ap (λ (k : Task). k.teams) (c.task-task.ensures.task ∙ ap (λ i. task_of i j) c.instance.ensures.instance) in
    let able : c.able_count.result ≡ able_count n j t = c.able_count.ensures in
    elim c.if-task-able_count.branch [
      | then-task-able_count+in_ok-push w ↦
          let enough : (task_of n.instance j).teams ≤ able_count n j t = let a = w.if-task-able_count.true in omega arith in
          let yes : is_possible n j t ≡ true = le-leb (task_of n.instance j).teams (able_count n j t) enough in
          ap vec_items w.list-is ∙ w.in_ok-push.ensures.items ∙ ap (λ (xs : List ℕ). xs ++ t ∷ []) c.loop-t.invariant ∙ sym (kept_yes (is_possible n j) first t from yes)
      | else-task-able_count w ↦
          let few : able_count n j t < (task_of n.instance j).teams = let a = w.if-task-able_count.false in omega arith in
          let no : is_possible n j t ≡ false = leb_no (task_of n.instance j).teams (able_count n j t) few in
          ap vec_items w.list-is ∙ c.loop-t.invariant ∙ sym (kept_no (is_possible n j) first t from no)
    ]
