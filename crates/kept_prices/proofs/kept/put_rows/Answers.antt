use Rattle.std.proofs.Common.{◌≡◌, ◌∙◌, [], ℤ, List, ap, sym, subst, length, get_or, pos, arith}
use Rattle.std.proofs.lemmas.List.{length-map}
use Rattle.std.specs.Global.{Vec}
use Rattle.crew_terms.specs.Leaf.{IsPrice}
use Rattle.kept_prices.specs.Rows.{IsRowFor, row_at, rows_in, whole_row}
use Rattle.kept_prices.proofs.RowLemmas.{row_is, same_by, same_prices}
use Rattle.kept_prices.proofs.kept.put_rows.Goals as goal

pub put_row-requires-clause-row : goal.put_row-requires-clause-row
put_row-requires-clause-row c =
    let e : row_at c.args.teams.now c.loop-k.k ≡ c.deref.result.now =
    sym (c.deref.ensures.value ∙ row_is c.args.teams.now c.index-teams-k.result c.loop-k.k (omega arith) c.index-teams-k.is) in
    subst (λ n. IsRowFor n c.deref.result.now) (ap length (sym c.loop-k.invariant.tasks))
    (subst (λ (r : List ℤ). IsRowFor (length c.args.prices.now.pi) r) e (c.requires.rows.count c.loop-k.k))

pub put_row-requires-clause-few : goal.put_row-requires-clause-few
put_row-requires-clause-few c =
    let e = ap length c.loop-k.invariant.tasks in
    let n = c.requires.few_tasks in
    omega arith

pub put_row-requires-clause-range : goal.put_row-requires-clause-range
put_row-requires-clause-range c = λ j.
    let e : row_at c.args.teams.now c.loop-k.k ≡ c.deref.result.now =
    sym (c.deref.ensures.value ∙ row_is c.args.teams.now c.index-teams-k.result c.loop-k.k (omega arith) c.index-teams-k.is) in
    subst (λ (r : List ℤ). IsPrice (get_or r j (pos 0))) e (c.requires.rows.range c.loop-k.k j)

pub returns : goal.returns
returns c =
    let n = length c.args.prices.now.pi in
    let all = rows_in n c.args.teams.now in
    let count : length all ≡ length c.args.teams.now = length-map c.args.teams.now (λ (row : Vec ℤ). whole_row n row.items) in
    let same = c.loop-k.invariant.count in
    let teams = c.requires.count in
    let past = c.loop-k-test.false in
    same_prices c.loop-k.prices c.args.prices.now.pi all c.loop-k.invariant.tasks
    (same_by [] c.loop-k.prices.rho all (omega arith) (λ i l. c.loop-k.invariant.early i (omega arith)))
