use Rattle.std.proofs.Common.{◌≡◌, ◌==◌, ◌∙◌, sym, subst, rules, FitsSigned, unsigned_abs, ap}
use Rattle.std.specs.Int.{w128}
use Rattle.std.specs.List.{position}
use Rattle.std.proofs.lemmas.Int.{to_z-of_z}
use Rattle.frac_master.proofs.LowestShares.{lowest_idle, lowest_basic, factor_positive, row_bound}
use Rattle.frac_master.proofs.shares.share_at.Goals as goal

pub returns-in_default : goal.returns-in_default
returns-in_default c =
    let has = subst (λ bs. c.row_with.result ≡ position (λ b. b == c.args.j) bs) c.basis.ensures c.row_with.ensures in
    lowest_idle c.args.table.now.rows c.args.j c.requires (sym has ∙ c.in_default.is)

pub number-requires-2-clause-place : goal.number-requires-2-clause-place
number-requires-2-clause-place c =
    let has = subst (λ bs. c.row_with.result ≡ position (λ b. b == c.args.j) bs) c.basis.ensures c.row_with.ensures in
    row_bound c.args.table.now.rows c.args.j c.in-Some.h c.requires (sym has ∙ c.in-Some.is)

pub nonzero_div-result : goal.nonzero_div-result
nonzero_div-result c =
    let has = subst (λ bs. c.row_with.result ≡ position (λ b. b == c.args.j) bs) c.basis.ensures c.row_with.ensures in
    let x : FitsSigned w128 c.number.result = search rules in
    let y : FitsSigned w128 c.number-2.result = search rules in
    let r = (simp to_z-of_z at c.unsigned_abs-right.ensures.value) ∙ ap unsigned_abs c.number.ensures in
    let b = (simp to_z-of_z at c.unsigned_abs-number.ensures.value) ∙ ap unsigned_abs c.number-2.ensures in
    factor_positive c.args.table.now.rows c.args.j c.in-Some.h c.unsigned_abs-right.result c.unsigned_abs-number.result c.gcd_of-factor.result c.requires
    (sym has ∙ c.in-Some.is) r b c.gcd_of-factor.ensures

pub nonzero_div-result-2 : goal.nonzero_div-result-2
nonzero_div-result-2 c = nonzero_div-result c

pub returns : goal.returns
returns c =
    let has = subst (λ bs. c.row_with.result ≡ position (λ b. b == c.args.j) bs) c.basis.ensures c.row_with.ensures in
    let x : FitsSigned w128 c.number.result = search rules in
    let y : FitsSigned w128 c.number-2.result = search rules in
    let r = (simp to_z-of_z at c.unsigned_abs-right.ensures.value) ∙ ap unsigned_abs c.number.ensures in
    let b = (simp to_z-of_z at c.unsigned_abs-number.ensures.value) ∙ ap unsigned_abs c.number-2.ensures in
    lowest_basic c.args.table.now.rows c.args.j c.in-Some.h c.unsigned_abs-right.result c.unsigned_abs-number.result c.gcd_of-factor.result c.requires
    (sym has ∙ c.in-Some.is) r b c.gcd_of-factor.ensures (subst (FitsSigned w128) c.number-2.ensures y)
