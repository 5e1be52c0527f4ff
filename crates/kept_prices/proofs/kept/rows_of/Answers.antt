use Rattle.std.proofs.Common.{◌≡◌, ◌<◌, ◌∷◌, ◌++◌, [], ℤ, List, ap, sym, subst, length, arith}
use Rattle.std.specs.Global.{Vec}
use Rattle.crew_terms.specs.Instance.{Instance}
use Rattle.crew_terms.specs.Limits.{tasks_in}
use Rattle.kept_prices.specs.Rows.{AreRows}
use Rattle.kept_prices.proofs.RowLemmas.{rows_more, rows_push}
use Rattle.kept_prices.proofs.kept.rows_of.Goals as goal

pub loop-k-preserved : goal.loop-k-preserved
loop-k-preserved c =
    let n = tasks_in c.args.limits.now.limits in
    let p = c.args.prices.now in
    let teams = c.requires.teams in
    let end = c.teams-k-end.ensures.count in
    let same = ap (λ (i : Instance). length i.teams) c.instance-2.ensures.instance in
    let test = c.loop-k-test.true in
    let known : c.loop-k.k < length p.rho = omega arith in
    let row : Vec ℤ = c.in_ok-row_of.field-0 in
    let to : c.push.new.self.items ≡ c.loop-k.rows.items ++ row ∷ [] = c.in_ok-push.ensures.items in
    record {
      rows = rows_more n c.loop-k.rows.items c.push.new.self.items row p.rho c.loop-k.k to c.loop-k.invariant.rows known c.in_ok-row_of.ensures.row;
      are = subst (λ (xs : List (Vec ℤ)). AreRows n xs) (sym to)
          (rows_push n c.loop-k.rows.items row c.loop-k.invariant.are c.in_ok-row_of.ensures.count c.in_ok-row_of.ensures.range);
    }
