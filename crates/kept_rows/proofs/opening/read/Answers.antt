use Rattle.std.proofs.Common.{◌<◌, ◌≤◌, ◌⊎◌, inl, inr, ℕ, rules, arith, sym, subst, FitsSigned, get_or, pos, length, below_more}
use Rattle.std.specs.Int.{w128}
use Rattle.std.proofs.lemmas.Bool.{cases_lt}
use Rattle.std.proofs.lemmas.Int.{ints}
use Rattle.std.proofs.lemmas.List.{get_or_past}
use Rattle.crew_num.specs.Exact.{FitsI128}
use Rattle.search_terms.specs.Rows.{number}
use Rattle.kept_rows.proofs.opening.read.Goals as goal

pub loop-j-preserved : goal.loop-j-preserved
loop-j-preserved c =
    let a : FitsSigned w128 (get_or c.args.row.now c.loop-j.j (pos 0)) = search rules in
    below_more (λ k. FitsI128 (number c.args.row.now k)) c.loop-j.j c.loop-j.invariant a

pub returns : goal.returns
returns c = λ j. by_case j (cases_lt j (length c.args.row.now))
  where
    zero_fits : FitsI128 (pos 0)
    zero_fits = omega (arith, ints)

    by_case : (j : ℕ) → (j < length c.args.row.now) ⊎ (length c.args.row.now ≤ j) → FitsI128 (number c.args.row.now j)
    by_case j (inl lt) = c.loop-j.invariant j (omega arith)
    by_case j (inr le) = subst FitsI128 (sym (get_or_past c.args.row.now j (pos 0) le)) zero_fits
