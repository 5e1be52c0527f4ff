use Rattle.std.proofs.Common.{◌≡◌, ◌<◌, ◌-◌, ◌∙◌, ℕ, ℤ, suc, arith, rules, refl, ap, sym, subst, length, map, All}
use Rattle.std.specs.Global.{Vec}
use Rattle.std.proofs.lemmas.List.{length-map}
use Rattle.crew_num.specs.Exact.{FitsI128}
use Rattle.search_terms.specs.Rows.{Rows, number, row_of}
use Rattle.kept_rows.specs.Columns.{IsKeptRow, IsKnownIn, full}
use Rattle.kept_rows.specs.Kept.{HaveHomes}
use Rattle.kept_rows.specs.Opening.{AreOpeningColumns, kept_of}
use Rattle.kept_rows.specs.Replaced.{AreWithin}
use Rattle.kept_rows.specs.Table.{rows_of, table}
use Rattle.kept_rows.proofs.Opens.{Opens, all_kept, all_known, homes_of, kept_length, last_wide, rows_again}
use Rattle.kept_rows.proofs.tableau.Tableau.open.Goals as goal

pub returns-clause-openers : goal.returns-clause-openers
returns-clause-openers c = c.in_ok-openers.ensures ∙ c.deref-2.ensures.value

pub returns-clause-rows : goal.returns-clause-rows
returns-clause-rows c =
    let rows = c.args.rows.now in
    let basis = c.args.basis.items in
    let t = table rows basis in
    let cs = c.in_ok-columns.columns.items in
    let some : 0 < length rows = let s = c.requires.basic.some in omega (arith, length-map rows (λ row. row.items)) in
    let wide = last_wide rows basis c.index-rows-rows.result (length rows - 1) c.len.result some c.index-rows-rows.is refl c.len.ensures in
    let o : Opens t cs = record { opening = c.requires; columns_are = subst (λ w. AreOpeningColumns (rows_of rows) w cs) wide c.in_ok-columns.ensures } in
    let kept = c.in_ok-kept.ensures.kept ∙ ap (λ b. map (kept_of b) (rows_of rows)) c.deref.ensures.value in
    let e = ap (map (full cs)) kept ∙ rows_again t cs o in
    ap (λ l. let u : Rows = record { rows = l; basis = basis } in u) e

pub invariant_of-result : goal.invariant_of-result
invariant_of-result c =
    let rows = c.args.rows.now in
    let basis = c.args.basis.items in
    let t = table rows basis in
    let cs = c.in_ok-columns.columns.items in
    let some : 0 < length rows = let s = c.requires.basic.some in omega (arith, length-map rows (λ row. row.items)) in
    let wide = last_wide rows basis c.index-rows-rows.result (length rows - 1) c.len.result some c.index-rows-rows.is refl c.len.ensures in
    let o : Opens t cs = record { opening = c.requires; columns_are = subst (λ w. AreOpeningColumns (rows_of rows) w cs) wide c.in_ok-columns.ensures } in
    let kept = c.in_ok-kept.ensures.kept ∙ ap (λ b. map (kept_of b) (rows_of rows)) c.deref.ensures.value in
    let openers = c.in_ok-openers.ensures ∙ c.deref-2.ensures.value in
    let w = suc (length c.in_ok-openers.openers.items) in
    let same : w ≡ suc (length basis) = ap (λ b. suc (length b)) openers in
    let fits : (g j : ℕ) → g < length t.rows → FitsI128 (number (row_of t g) j) = λ g j lt.
    let in' : g < length rows = omega (arith, lt, length-map rows (λ row. row.items)) in
    c.in_ok-kept.ensures.fits g j in' in
    let len : c.len-2.result ≡ length c.in_ok-openers.openers.items = search rules in
    record {
      some = let s = c.requires.basic.some in omega (arith, s, c.requires.basic.count, ap length openers);
      height = sym (length-map c.in_ok-kept.kept.items (λ (row : Vec ℤ). row.items)) ∙ ap length kept ∙ length-map (rows_of rows) (kept_of basis) ∙ sym c.requires.basic.count ∙ sym (ap length openers);
      known = subst (λ n. All (IsKnownIn n) cs) (sym same) (all_known t cs o);
      homes = subst (λ b. HaveHomes cs b) (sym openers) (homes_of t cs o);
      rows = subst (λ l. All (IsKeptRow w cs) l) (sym kept) (subst (λ n. All (IsKeptRow n cs) (map (kept_of basis) (rows_of rows))) (sym same) (all_kept t cs o fits));
      room = ap length (c.in_ok-room.ensures.kept ∙ ap (λ b. kept_of b c.deref-3.result.now) c.deref-4.ensures.value) ∙ kept_length basis c.deref-3.result.now ∙ sym same;
      reach = subst (λ l. AreWithin (length c.in_ok-openers.openers.items - 1) c.reach_of_all-reach.result l) c.deref-5.ensures.value
          (subst (λ n. AreWithin (n - 1) c.reach_of_all-reach.result c.deref-5.result.now) len c.reach_of_all-reach.ensures);
    }
