use Rattle.std.proofs.Common.{◌≡◌, ◌≤◌, ◌<◌, ◌+◌, [], ◌∷◌, ◌++◌, length, ap, sym, subst, ◌∙◌, arith, add-one, length-append, true, false}
use Rattle.crew_terms.specs.Limits.{tasks_in}
use Rattle.crew_terms.specs.Minutes.{minute_count}
use Rattle.leaf_check.specs.Keys.{has_minutes}
use Rattle.sheet_lines.specs.Rows.{HasRowsBefore, open_from}
use Rattle.sheet_lines.proofs.Keys.{keys_pass, keys_take, keys_none, one_closed, closed_count}
use Rattle.sheet_lines.proofs.rows.TeamRows.pass_closed.Goals as goal

pub loop-j-preserved : goal.loop-j-preserved
loop-j-preserved c = λ phi h.
    let n = c.args.limits.now.limits in
    let k = c.args.k in
    let j = c.loop-j.j in
    let rows = c.loop-j.self in
    let row = c.new.result.items in
    let so = c.loop-j.invariant phi h in
    let at = so.1 in
    let closed : has_minutes n k j ≡ false = sym c.is_open.ensures ∙ c.if-is_open.false in
    let known : j < tasks_in n = (let t = c.loop-j-test.true in let e = c.tasks-j-end.ensures.count in let i = ap (λ i. length i.tasks) c.instance.ensures.instance in omega arith) in
    let count : length row ≡ minute_count n k (length rows) = ap length c.new.ensures.items ∙ sym (ap (minute_count n k) at ∙ closed_count (minute_count n k j) closed) in
    let more = c.in_ok-push.ensures.ok in
    let size = ap length more in
    let one = length-append rows (row ∷ []) in (
      subst (λ rs. HasRowsBefore n k rs phi) (sym more) (one_closed n k rows phi row so.0 (omega arith) count (ap (has_minutes n k) at ∙ closed)),
      omega arith,
      so.2 ∙ keys_pass (has_minutes n k) (tasks_in n) j known closed ∙ ap (open_from n k) (sym (add-one j)),
    )

pub returns-then-is_open : goal.returns-then-is_open
returns-then-is_open c = λ phi h.
    let n = c.args.limits.now.limits in
    let k = c.args.k in
    let j = c.loop-j.j in
    let so = c.loop-j.invariant phi h in
    let is : has_minutes n k j ≡ true = sym c.is_open.ensures ∙ c.if-is_open.true in
    let known : j < tasks_in n = (let t = c.loop-j-test.true in let e = c.tasks-j-end.ensures.count in let i = ap (λ i. length i.tasks) c.instance.ensures.instance in omega arith) in
    (so.0, so.1, known, is, so.2 ∙ keys_take (has_minutes n k) (tasks_in n) j known is)

pub returns : goal.returns
returns c = λ phi h.
    let n = c.args.limits.now.limits in
    let k = c.args.k in
    let j = c.loop-j.j in
    let so = c.loop-j.invariant phi h in
    let at = so.1 in
    let few = so.0.few in
    let all : tasks_in n ≤ j = (let t = c.loop-j-test.false in let e = c.tasks-j-end.ensures.count in let i = ap (λ i. length i.tasks) c.instance.ensures.instance in omega arith) in
    (so.0, omega arith, so.2 ∙ keys_none (has_minutes n k) (tasks_in n) j all)
