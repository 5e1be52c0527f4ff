use Rattle.std.proofs.Common.{◌≡◌, ◌<◌, ◌∙◌, suc, arith, rules, ap, sym, subst, length, FitsSigned}
use Rattle.std.specs.Int.{w128}
use Rattle.std.proofs.lemmas.Int.{to_z-of_z}
use Rattle.search_terms.specs.Rows.{number, row_of}
use Rattle.kept_rows.specs.Columns.{IsKeptRow, IsKnownIn, full}
use Rattle.kept_rows.specs.State.{State}
use Rattle.kept_rows.proofs.Formed.{formed_at, formed_fits}
use Rattle.kept_rows.proofs.FullRows.{kept_at, row_is, rows_length}
use Rattle.kept_rows.proofs.Views.{row_wide}
use Rattle.kept_rows.proofs.tableau.Tableau.number.Goals as goal

pub index-requires-2 : goal.index-requires-2
index-requires-2 c =
    let a = c.self.inside in
    let r = subst (λ (s : State). c.args.h < length s.rows.rows) (sym c.self.view_is) c.requires.row in
    let p = subst (λ (s : State). c.args.j < length (row_of s.rows c.args.h)) (sym c.self.view_is) c.requires.place in
    let h : c.args.h < length a.rows.items = omega (arith, r, rows_length a.columns.items a.rows.items) in
    let w = row_wide a.columns.items a.rows.items c.args.h h in
    omega (arith, p, w, a.columns.ok.0)

pub entry-requires-clause-known : goal.entry-requires-clause-known
entry-requires-clause-known c =
    let a = c.self.inside in
    let r = subst (λ (s : State). c.args.h < length s.rows.rows) (sym c.self.view_is) c.requires.row in
    let p = subst (λ (s : State). c.args.j < length (row_of s.rows c.args.h)) (sym c.self.view_is) c.requires.place in
    let h : c.args.h < length a.rows.items = omega (arith, r, rows_length a.columns.items a.rows.items) in
    let w = row_wide a.columns.items a.rows.items c.args.h h in
    let j : c.args.j < length a.columns.items = omega (arith, p, w) in
    let k = kept_at (suc (length a.openers.items)) a.columns.items a.rows.items c.args.h c.index.result.now h c.self.invariant.rows in
    let e = ap length (c.deref.ensures.value ∙ ap (λ r. r.items) c.index.ensures) ∙ k.wide in
    subst (λ n. IsKnownIn n c.index-2.result.now) (sym e) (subst (IsKnownIn (suc (length a.openers.items))) (sym c.index-2.ensures) (c.self.invariant.known c.args.j c.index-2.result.now j))

pub entry-requires-clause-fits : goal.entry-requires-clause-fits
entry-requires-clause-fits c =
    let a = c.self.inside in
    let r = subst (λ (s : State). c.args.h < length s.rows.rows) (sym c.self.view_is) c.requires.row in
    let p = subst (λ (s : State). c.args.j < length (row_of s.rows c.args.h)) (sym c.self.view_is) c.requires.place in
    let h : c.args.h < length a.rows.items = omega (arith, r, rows_length a.columns.items a.rows.items) in
    let w = row_wide a.columns.items a.rows.items c.args.h h in
    let j : c.args.j < length a.columns.items = omega (arith, p, w) in
    let k = kept_at (suc (length a.openers.items)) a.columns.items a.rows.items c.args.h c.index.result.now h c.self.invariant.rows in
    let e = c.deref.ensures.value ∙ ap (λ r. r.items) c.index.ensures in
    let l = subst (IsKeptRow (suc (length a.openers.items)) a.columns.items) (sym e) k in
    formed_fits a.columns.items c.deref.result.now c.args.j c.index-2.result.now j c.index-2.ensures l.fits

pub returns : goal.returns
returns c =
    let a = c.self.inside in
    let r = subst (λ (s : State). c.args.h < length s.rows.rows) (sym c.self.view_is) c.requires.row in
    let p = subst (λ (s : State). c.args.j < length (row_of s.rows c.args.h)) (sym c.self.view_is) c.requires.place in
    let h : c.args.h < length a.rows.items = omega (arith, r, rows_length a.columns.items a.rows.items) in
    let w = row_wide a.columns.items a.rows.items c.args.h h in
    let j : c.args.j < length a.columns.items = omega (arith, p, w) in
    let e = c.deref.ensures.value ∙ ap (λ r. r.items) c.index.ensures in
    let z : FitsSigned w128 c.entry.result = search rules in
    let n = c.entry.ensures ∙ sym (formed_at a.columns.items c.deref.result.now c.args.j c.index-2.result.now j c.index-2.ensures)
    ∙ ap (λ row. number (full a.columns.items row) c.args.j) e ∙ ap (λ row. number row c.args.j) (sym (row_is a.columns.items a.rows.items c.args.h c.index.result.now h)) in
    to_z-of_z w128 c.entry.result z ∙ subst (λ (s : State). c.entry.result ≡ number (row_of s.rows c.args.h) c.args.j) c.self.view_is n
