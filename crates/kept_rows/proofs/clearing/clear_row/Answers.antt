use Rattle.std.proofs.Common.{◌≡◌, ◌∙◌, ap, sym, rules, pos, FitsSigned, to_z}
use Rattle.std.specs.Int.{w128}
use Rattle.std.proofs.lemmas.Int.{to_z-of_z}
use Rattle.search_terms.specs.Rows.{number}
use Rattle.kept_rows.specs.Columns.{full}
use Rattle.kept_rows.proofs.Alone.{left_alone}
use Rattle.kept_rows.proofs.Formed.{formed_at, formed_fits}
use Rattle.kept_rows.proofs.clearing.clear_row.Goals as goal

pub entry-e-requires-clause-fits : goal.entry-e-requires-clause-fits
entry-e-requires-clause-fits c = formed_fits c.args.columns.now c.args.row.now c.args.v c.index-columns-v.result c.requires.can.place c.index-columns-v.is c.requires.can.row_kept.fits

pub returns-then-e-eq0-clause-replaced : goal.returns-then-e-eq0-clause-replaced
returns-then-e-eq0-clause-replaced c =
    let z : FitsSigned w128 c.entry-e.result = search rules in
    let is = c.entry-e.ensures ∙ sym (formed_at c.args.columns.now c.args.row.now c.args.v c.index-columns-v.result c.requires.can.place c.index-columns-v.is) in
    let zero : number (full c.args.columns.now c.args.row.now) c.args.v ≡ pos 0 = sym is ∙ sym (to_z-of_z w128 c.entry-e.result z) ∙ ap (to_z w128) c.if-e-eq0.true in
    record {
      kept = c.requires.can.row_kept;
      replaced = left_alone (full c.args.columns.now c.args.pivot.now) (full c.args.columns.now c.args.row.now) c.args.v c.requires.can.entry zero c.requires.lowest;
    }

pub replace-requires-clause-e : goal.replace-requires-clause-e
replace-requires-clause-e c =
    let z : FitsSigned w128 c.entry-e.result = search rules in
    to_z-of_z w128 c.entry-e.result z ∙ c.entry-e.ensures ∙ sym (formed_at c.args.columns.now c.args.row.now c.args.v c.index-columns-v.result c.requires.can.place c.index-columns-v.is)
