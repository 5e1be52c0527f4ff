use Rattle.std.proofs.Common.{◌<◌, ◌∙◌, ap, sym, subst, arith, length, All}
use Rattle.search_terms.specs.declared.TheConstants.{RIGHT}
use Rattle.crew_num.specs.Exact.{FitsI128}
use Rattle.search_terms.specs.Rows.{number}
use Rattle.kept_rows.specs.Opening.{kept_of}
use Rattle.kept_rows.proofs.Listed.{all_at, kept_more}
use Rattle.kept_rows.proofs.opening.kept_rows.Goals as goal

pub kept_row-requires-clause-right : goal.kept_row-requires-clause-right
kept_row-requires-clause-right c =
    subst (λ row. RIGHT < length row) (sym c.deref.ensures.value) (all_at (λ row. RIGHT < length row) c.args.rows.now c.loop-row.row-index c.row-item.result (omega arith) c.row-item.is c.requires.right)

pub kept_row-requires-clause-known : goal.kept_row-requires-clause-known
kept_row-requires-clause-known c =
    subst (λ row. All (λ j. j < length row) c.args.openers.now) (sym c.deref.ensures.value)
    (all_at (λ row. All (λ j. j < length row) c.args.openers.now) c.args.rows.now c.loop-row.row-index c.row-item.result (omega arith) c.row-item.is c.requires.known)

pub loop-row-preserved : goal.loop-row-preserved
loop-row-preserved c =
    kept_more c.args.rows.now c.args.openers.now c.loop-row.row-index c.loop-row.all.items c.push.new.self.items c.row-item.result c.in_ok-kept.kept (omega arith) c.row-item.is c.loop-row.invariant
    (c.in_ok-kept.ensures.kept ∙ ap (kept_of c.args.openers.now) c.deref.ensures.value)
    (λ j. subst (λ r. FitsI128 (number r j)) c.deref.ensures.value (c.in_ok-kept.ensures.fits j))
    c.in_ok-push.ensures.items

pub returns-clause-fits : goal.returns-clause-fits
returns-clause-fits c = λ i j lt. c.loop-row.invariant.fits i j (omega arith)
