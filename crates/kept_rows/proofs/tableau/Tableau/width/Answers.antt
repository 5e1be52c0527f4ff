use Rattle.std.proofs.Common.{◌≡◌, ◌∙◌, arith, rules, refl, sym, subst, length}
use Rattle.search_terms.specs.Rows.{width}
use Rattle.kept_rows.proofs.Views.{width_is}
use Rattle.kept_rows.specs.Kept.{kept}
use Rattle.kept_rows.proofs.tableau.Tableau.width.Goals as goal

pub returns : goal.returns
returns c =
    let a = c.self.inside in
    let e : c.len.result ≡ length a.columns.items = search rules in
    let some = c.self.invariant.some in
    let w = width_is a.columns.items a.rows.items a.basis.items (kept a).rows (omega (arith, c.self.invariant.height)) refl in
    subst (λ s. c.len.result ≡ width s.rows) c.self.view_is (e ∙ sym w)
