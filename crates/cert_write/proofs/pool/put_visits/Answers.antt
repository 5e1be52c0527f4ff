use Rattle.std.proofs.Common.{List, ℕ}
use Rattle.std.specs.List.{flat_map}
use Rattle.crew_io.specs.Chains.{puts_nothing, puts_same, puts_more, puts_more_front, puts_all}
use Rattle.crew_terms.specs.declared.Visit.{Visit}
use Rattle.crew_laws.specs.Visits.{visit}
use Rattle.dossier_terms.specs.Lines.{visit_words}
use Rattle.line_out.specs.Parts.{next_word}
use Rattle.dossier_out.specs.Texts.{of_lists}
use Rattle.cert_write.proofs.pool.put_visits.Goals as goal

-- the words of one visit
abbrev one : Visit → List ℕ
one v = flat_map next_word (visit_words v)

pub loop-visit-init : goal.loop-visit-init
loop-visit-init g c = puts_nothing g.K.Sink c.args.out.now

pub loop-visit-preserved : goal.loop-visit-preserved
loop-visit-preserved g c =
    puts_more g.K.Sink one c.args.visits.now c.loop-visit.visit-index (visit 0 0) c.loop-visit-test.true _ _ _ _ _ c.loop-visit.invariant c.in_ok-put_visit.ensures

pub returns-in_err-put_visit : goal.returns-in_err-put_visit
returns-in_err-put_visit g c =
    puts_same g.K.Sink _ _ _ _ _ (of_lists next_word visit_words c.args.visits.now)
    (puts_more_front g.K.Sink one c.args.visits.now c.loop-visit.visit-index (visit 0 0) c.loop-visit-test.true _ _ _ _ _ c.from_residual.result c.from_residual.ensures.0 c.loop-visit.invariant
    c.in_err-put_visit.ensures)

pub returns : goal.returns
returns g c =
    puts_same g.K.Sink _ _ _ _ _ (of_lists next_word visit_words c.args.visits.now)
    (puts_all g.K.Sink one c.args.visits.now c.loop-visit.visit-index _ _ _ _ c.loop-visit-test.false c.loop-visit.invariant)
