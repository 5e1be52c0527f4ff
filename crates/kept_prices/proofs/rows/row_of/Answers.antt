use Rattle.std.proofs.Common.{◌≡◌, ◌∙◌, ◌<◌, [], ℕ, ℤ, List, ap, sym, subst, length, get_or, map, pos, arith}
use Rattle.std.specs.List.{range_with_len}
use Rattle.std.proofs.lemmas.Result.{IfOk-weaker}
use Rattle.crew_terms.specs.Instance.{Instance}
use Rattle.crew_terms.specs.Leaf.{IsPrice, Prices, rho_of}
use Rattle.potentials.specs.Prices.{ArePrices}
use Rattle.kept_prices.specs.Rows.{Whole, whole_row}
use Rattle.kept_prices.proofs.RowLemmas.{idle_row, read_row, row_count, whole_same}
use Rattle.kept_prices.proofs.rows.row_of.Goals as goal

-- a team has as many prices as there are tasks
count_in : (p : Prices) (k n : ℕ) → ArePrices p → length p.pi ≡ n → k < length p.rho → length (get_or p.rho k []) ≡ n
count_in p k n are tasks known = row_count p k are known ∙ tasks

-- the numbers that were read are the row
read : (p : Prices) (k n m : ℕ) (items : List ℤ) → ArePrices p → length p.pi ≡ n → k < length p.rho → m ≡ n
    → items ≡ map (λ j. rho_of p k j) (range_with_len 0 m) → items ≡ get_or p.rho k []
read p k n m items are tasks known count is =
    is ∙ ap (λ x. map (λ j. rho_of p k j) (range_with_len 0 x)) count ∙ read_row n (get_or p.rho k []) (count_in p k n are tasks known)

pub returns-then-is_idle-clause-row : goal.returns-then-is_idle-clause-row
returns-then-is_idle-clause-row c =
    let p = c.args.prices.now in
    let n = length c.args.limits.now.limits.instance.tasks in
    let teams = c.requires.prices.teams in
    let team = c.requires.team in
    let known : c.args.k < length p.rho = omega arith in
    ap (λ (r : List ℤ). whole_row n r) c.new.ensures.items
    ∙ idle_row n (get_or p.rho c.args.k []) (count_in p c.args.k n c.tasks.ensures.limits c.requires.prices.tasks known) c.if-is_idle.ensures

pub returns-clause-row : goal.returns-clause-row
returns-clause-row c =
    let p = c.args.prices.now in
    let n = length c.args.limits.now.limits.instance.tasks in
    let teams = c.requires.prices.teams in
    let team = c.requires.team in
    let known : c.args.k < length p.rho = omega arith in
    let count : c.tasks-2.result ≡ n = c.tasks-2.ensures.count ∙ ap (λ (i : Instance). length i.tasks) c.instance.ensures.instance in
    IfOk-weaker c.team_prices.result _ _ (λ v e.
    ap (λ (r : List ℤ). whole_row n r) (read p c.args.k n c.tasks-2.result v.items c.tasks.ensures.limits c.requires.prices.tasks known count e)
    ∙ whole_same n (get_or p.rho c.args.k []) (count_in p c.args.k n c.tasks.ensures.limits c.requires.prices.tasks known)) c.team_prices.ensures

pub returns-clause-count : goal.returns-clause-count
returns-clause-count c =
    let p = c.args.prices.now in
    let n = length c.args.limits.now.limits.instance.tasks in
    let teams = c.requires.prices.teams in
    let team = c.requires.team in
    let known : c.args.k < length p.rho = omega arith in
    let count : c.tasks-2.result ≡ n = c.tasks-2.ensures.count ∙ ap (λ (i : Instance). length i.tasks) c.instance.ensures.instance in
    IfOk-weaker c.team_prices.result _ _ (λ v e.
    Whole (ap length (read p c.args.k n c.tasks-2.result v.items c.tasks.ensures.limits c.requires.prices.tasks known count e)
    ∙ count_in p c.args.k n c.tasks.ensures.limits c.requires.prices.tasks known)) c.team_prices.ensures

pub returns-clause-range : goal.returns-clause-range
returns-clause-range c =
    let p = c.args.prices.now in
    let n = length c.args.limits.now.limits.instance.tasks in
    let teams = c.requires.prices.teams in
    let team = c.requires.team in
    let known : c.args.k < length p.rho = omega arith in
    let count : c.tasks-2.result ≡ n = c.tasks-2.ensures.count ∙ ap (λ (i : Instance). length i.tasks) c.instance.ensures.instance in
    IfOk-weaker c.team_prices.result _ _ (λ v e j.
    subst (λ (r : List ℤ). IsPrice (get_or r j (pos 0)))
    (sym (read p c.args.k n c.tasks-2.result v.items c.tasks.ensures.limits c.requires.prices.tasks known count e))
    (c.tasks.ensures.limits.range.pairs c.args.k j)) c.team_prices.ensures
