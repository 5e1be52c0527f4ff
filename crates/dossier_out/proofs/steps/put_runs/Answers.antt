use Rattle.std.proofs.Common.{◌≡◌, ◌<◌, ◌-◌, ap, ◌∙◌, sym, arith, w64}
use Rattle.std.proofs.lemmas.Int.{to_z-of_z}
use Rattle.crew_io.specs.Chains.{puts_nothing, puts_then, puts_done, puts_same, puts_front}
use Rattle.dossier_out.specs.Steps.{row_of}
use Rattle.dossier_out.proofs.Runs.{change_is, more_at, nothing_yet, runs_are, runs_below, runs_front, runs_text}
use Rattle.dossier_out.proofs.steps.put_runs.Goals as goal

pub loop-t-init : goal.loop-t-init
loop-t-init g c = puts_same g.K.Sink _ _ _ _ _ (nothing_yet c.args.table.now c.args.j c.args.first) (puts_nothing g.K.Sink c.args.out.now)

pub loop-t-preserved : goal.loop-t-preserved
loop-t-preserved g c =
    let table = c.args.table.now in
    puts_done g.K.Sink _ _ _ _ _
    (puts_same g.K.Sink _ _ _ _ _ (more_at table c.args.j c.args.first c.last_before.result c.loop-t.t c.loop-t.auto.t c.last_before.ensures)
    (puts_then g.K.Sink _ _ _ _ _ _ _ c.loop-t.invariant
    (puts_same g.K.Sink _ _ _ _ _
    (change_is table c.args.j c.args.first c.last_before.result c.loop-t.t _ c.loop-t.auto.t (to_z-of_z w64 c.get.result (record { sfits = c.get.type_inv }) ∙ c.get.ensures))
    c.in_ok-put_change.ensures)))

pub returns-in_err-put_change : goal.returns-in_err-put_change
returns-in_err-put_change g c =
    let table = c.args.table.now in
    let below : c.loop-t.t - c.args.first < c.args.end - c.args.first = (let t = c.loop-t-test.true in let f = c.loop-t.auto.t in omega (arith, t, f)) in
    puts_front g.K.Sink _ _ _ _ _ c.from_residual.result c.from_residual.ensures.0
    (puts_then g.K.Sink _ _ _ _ _ _ _ c.loop-t.invariant
    (puts_same g.K.Sink _ _ _ _ _
    (change_is table c.args.j c.args.first c.last_before.result c.loop-t.t _ c.loop-t.auto.t (to_z-of_z w64 c.get.result (record { sfits = c.get.type_inv }) ∙ c.get.ensures))
    c.in_err-put_change.ensures))
    (runs_front table c.args.j c.args.first c.last_before.result (c.loop-t.t - c.args.first) c.last_before.ensures (c.args.end - c.args.first) below)

pub returns : goal.returns
returns g c =
    let table = c.args.table.now in
    let same : c.loop-t.t - c.args.first ≡ c.args.end - c.args.first = (let t = c.loop-t-test.false in let e = c.loop-t.auto.t-end c.requires.order in omega (arith, t, e)) in
    puts_done g.K.Sink _ _ _ _ _
    (puts_same g.K.Sink _ _ _ _ _
    (ap (λ m. runs_text (runs_below table c.args.j c.args.first m)) same ∙ ap runs_text (sym (runs_are c.args.first (row_of table c.args.j c.args.first (c.args.end - c.args.first)))))
    c.loop-t.invariant)
