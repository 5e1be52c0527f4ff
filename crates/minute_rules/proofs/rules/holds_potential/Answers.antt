use Rattle.std.proofs.Common.{◌≡◌, ◌<◌, ◌≤◌, ◌+◌, ◌-◌, ◌∙◌, ℕ, ℤ, List, [], length, get_or, ap, sym, subst, arith, pos}
use Rattle.std.proofs.lemmas.Option.{slice_get_within}
use Rattle.crew_instance.specs.Draft.{rows_of}
use Rattle.crew_terms.specs.Instance.{Instance, task_of}
use Rattle.squeeze_terms.specs.MinutePrices.{minute_price, price_count, price_place}
use Rattle.minute_rules.specs.Rules.{CoversNext, CoversRewards, phi_by, reward_at}
use Rattle.minute_rules.proofs.Decided.{refuted, answers_no}
use Rattle.minute_rules.proofs.Earned.{alone_from, to_rewards, step_from, next_from}
use Rattle.minute_rules.proofs.Taken.{some_at}
use Rattle.minute_rules.proofs.Visits.{row_is, rows_length}
use Rattle.minute_rules.proofs.rules.holds_potential.Goals as goal

-- the reward of a visit is that of its price
pays : (i : Instance) (prices : List (List ℤ)) (j first : ℕ) (own : List ℤ) → get_or prices j [] ≡ own → (t : ℕ) → first ≤ t
    → minute_price i prices j t ≡ reward_at (task_of i j) own first (t - first)
pays i prices j first own is t l =
    let e : t ≡ first + (t - first) = omega arith in
    ap (λ row. get_or row (price_place (task_of i j) t) (pos 0)) is ∙ ap (λ m. get_or own (price_place (task_of i j) m) (pos 0)) e

pub returns-then-not-covers_rewards : goal.returns-then-not-covers_rewards
returns-then-not-covers_rewards c =
    let n = c.args.limits.now.limits in
    let k = c.args.k in
    let j = c.args.j in
    let prices = rows_of c.args.prices.now in
    let phi = phi_by n k (rows_of c.args.rows.now) in
    let here = c.visits_to-here in
    let first = here.result.first in
    let own = c.deref.result.now in
    let all = rows_length c.args.prices.now in
    let tasks = c.requires.prices.tasks in
    let known = c.requires.task in
    let short : j < length c.args.prices.now = omega arith in
    let is : get_or prices j [] ≡ own = row_is c.args.prices.now j c.index-prices-j.result short c.index-prices-j.is ∙ sym c.deref.ensures.value in
    let task : c.task.result.now ≡ task_of n.instance j = c.task.ensures.task ∙ ap (λ i. task_of i j) c.instance-instance.ensures.instance in
    answers_no (λ holds. refuted c.covers_rewards.result c.if-not-covers_rewards.true c.covers_rewards.ensures.1
    (subst (λ t. CoversRewards t own first here.result.potentials.now) (sym task)
    (to_rewards n k phi (minute_price n.instance prices) j first here.result.potentials.now own here.ensures.visits here.ensures.day
    (λ t l m. pays n.instance prices j first own is t l) holds.alone)))

pub covers_all-requires-clause-count : goal.covers_all-requires-clause-count
covers_all-requires-clause-count c =
    let n = c.args.limits.now.limits in
    let j = c.args.j in
    let prices = rows_of c.args.prices.now in
    let all = rows_length c.args.prices.now in
    let tasks = c.requires.prices.tasks in
    let known = c.requires.task in
    let short : j < length c.args.prices.now = omega arith in
    let is : get_or prices j [] ≡ c.deref-2.result.now = row_is c.args.prices.now j c.index-prices-j.result short c.index-prices-j.is ∙ sym c.deref-2.ensures.value in
    ap length (sym is) ∙ c.requires.prices.counts j known ∙ ap (λ i. price_count (task_of i j)) (sym c.instance-instance.ensures.instance)

pub returns : goal.returns
returns c =
    let n = c.args.limits.now.limits in
    let k = c.args.k in
    let j = c.args.j in
    let prices = rows_of c.args.prices.now in
    let w = minute_price n.instance prices in
    let phi = phi_by n k (rows_of c.args.rows.now) in
    let here = c.visits_to-here in
    let first = here.result.first in
    let pots = here.result.potentials.now in
    let all = rows_length c.args.prices.now in
    let tasks = c.requires.prices.tasks in
    let known = c.requires.task in
    let short : j < length c.args.prices.now = omega arith in
    let is : get_or prices j [] ≡ c.deref.result.now = row_is c.args.prices.now j c.index-prices-j.result short c.index-prices-j.is ∙ sym c.deref.ensures.value in
    let is2 : get_or prices j [] ≡ c.deref-2.result.now = row_is c.args.prices.now j c.index-prices-j.result short c.index-prices-j.is ∙ sym c.deref-2.ensures.value in
    let task : c.task.result.now ≡ task_of n.instance j = c.task.ensures.task ∙ ap (λ i. task_of i j) c.instance-instance.ensures.instance in
    let rewards : CoversRewards (task_of n.instance j) c.deref.result.now first pots =
    subst (λ t. CoversRewards t c.deref.result.now first pots) task (c.covers_rewards.ensures.0 c.if-not-covers_rewards.false) in
    let pay = λ (t : ℕ) (l : first ≤ t) (m : t < first + length pots). pays n.instance prices j first c.deref.result.now is t l in
    let pay2 = λ (t : ℕ) (l : first ≤ t) (m : t < first + length pots). pays n.instance prices j first c.deref-2.result.now is2 t l in
    let alone = alone_from n k phi w j first pots c.deref.result.now here.ensures.visits here.ensures.day pay rewards in
    let same = c.instance-instance.ensures.instance in (
      (λ yes. record {
        alone = alone;
        step = λ t h u visit next follow.
            let at = some_at c.args.ahead.now h (let q = c.requires.count in let l = next.known in omega arith) in
            let ahead = c.requires.ahead h at.0 next.known at.1 in
            let covers : CoversNext n.instance j c.deref-2.result.now first pots h at.0.most.items =
            subst (λ i. CoversNext i j c.deref-2.result.now first pots h at.0.most.items) same (c.covers_all.ensures.0 yes h at.0 at.1) in
            step_from n k phi w j first pots c.deref-2.result.now here.ensures.visits here.ensures.day pay2 h ahead.0 ahead.1 at.0.most.items ahead.2 ahead.3 ahead.4
            covers t u visit next (λ e. follow.other (sym e)) follow.follow;
      }),
      (λ holds. c.covers_all.ensures.1 (λ h row read.
          let l = slice_get_within c.args.ahead.now h row read in
          let q = c.requires.count in
          let ahead = c.requires.ahead h row (omega arith) read in
          subst (λ i. CoversNext i j c.deref-2.result.now first pots h row.most.items) (sym same)
          (next_from n k phi w j first pots c.deref-2.result.now here.ensures.visits here.ensures.day pay2 h ahead.0 ahead.1 row.most.items ahead.2 ahead.3 ahead.4
          holds.alone (λ t u visit next other follow. holds.step t h u visit next (record { other = λ e. other (sym e); follow = follow }))))),
    )
