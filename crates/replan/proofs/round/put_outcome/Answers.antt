use Rattle.std.proofs.Common.{◌≡◌, Ok, Err, length, map, ap, subst, sym, arith}
use Rattle.std.proofs.lemmas.List.{length-map}
use Rattle.cert_write.specs.Causes.{cause_of}
use Rattle.cert_write.specs.Dossiers.{IsDossierOf, WritesDossier}
use Rattle.cert_write.specs.Given.{AreWritable}
use Rattle.dossier_terms.specs.Dossier.{Dossier}
use Rattle.replan.specs.Counts.{counts_of}
use Rattle.replan.specs.Given.{parts_of}
use Rattle.written_laws.specs.Told.{AreTold}
use Rattle.replan.specs.Planning.{IsRoundPut, fault_of_put}
use Rattle.replan.proofs.Staying.{begun_loses}
use Rattle.replan.proofs.Dossiers.{IsRoundOf, err_is, of_outcome, put_failed, put_whole, tells_failed, tells_whole}
use Rattle.replan.proofs.round.put_outcome.Goals as goal

pub take-requires : goal.take-requires
take-requires g c =
    let columns = g.C.Columns.columns c.args.columns.now in
    let i = c.args.instance.now in
    let solved = c.requires.solved in
    c.pools_are_of_instances.ensures.known i columns
    (c.solved_pools_are_of_the_instance.ensures i c.args.nodes _ columns solved.state c.teams.ensures.limits solved.run c.requires.pooled)

pub counts_of-counts-requires : goal.counts_of-counts-requires
counts_of-counts-requires g c =
    let columns = g.C.Columns.columns c.args.columns.now in
    let i = c.args.instance.now in
    let o = c.args.outcome.now in
    let told = map cause_of c.in_ok-causes.causes.items in
    let count = c.len.ensures.count in
    let short = c.if-len-gt-MOST_ROUTES.false in
    let of = of_outcome i c.args.nodes c.args.kept columns o told c.teams.ensures.limits c.requires.few c.requires.kept c.len.ensures.are
    (omega (arith, count, short)) c.requires.pooled c.requires.solved (subst (λ xs. AreTold xs told) c.deref.ensures.value c.in_ok-causes.ensures) in
    let parts = parts_of i c.args.nodes c.args.kept columns o told in
    let few = c.outcomes_are_rounds.ensures.few parts o of in
    let a = length-map c.in_ok-causes.causes.items cause_of in
    let b = ap length c.deref-2.ensures.value in
    let most = c.requires.few in
    omega (arith, few, a, b, most)

pub of-requires : goal.of-requires
of-requires g c =
    let columns = g.C.Columns.columns c.args.columns.now in
    let i = c.args.instance.now in
    let o = c.args.outcome.now in
    let told = map cause_of c.in_ok-causes.causes.items in
    let count = c.len.ensures.count in
    let short = c.if-len-gt-MOST_ROUTES.false in
    let of = of_outcome i c.args.nodes c.args.kept columns o told c.teams.ensures.limits c.requires.few c.requires.kept c.len.ensures.are
    (omega (arith, count, short)) c.requires.pooled c.requires.solved (subst (λ xs. AreTold xs told) c.deref.ensures.value c.in_ok-causes.ensures) in
    c.outcomes_are_rounds.ensures.plan (parts_of i c.args.nodes c.args.kept columns o told) o of

pub write_dossier-requires : goal.write_dossier-requires
write_dossier-requires g c =
    let columns = g.C.Columns.columns c.args.columns.now in
    let i = c.args.instance.now in
    let o = c.args.outcome.now in
    let told = map cause_of c.in_ok-causes.causes.items in
    let count = c.len.ensures.count in
    let short = c.if-len-gt-MOST_ROUTES.false in
    let of = of_outcome i c.args.nodes c.args.kept columns o told c.teams.ensures.limits c.requires.few c.requires.kept c.len.ensures.are
    (omega (arith, count, short)) c.requires.pooled c.requires.solved (subst (λ xs. AreTold xs told) c.deref.ensures.value c.in_ok-causes.ensures) in
    let parts = parts_of i c.args.nodes c.args.kept columns o told in
    subst (λ xs. AreWritable (parts_of i c.args.nodes c.args.kept columns o (map cause_of xs))) (sym c.deref-3.ensures.value)
    (c.outcomes_are_rounds.ensures.writable parts o of)

pub returns-in_err-write_dossier-clause-put : goal.returns-in_err-write_dossier-clause-put
returns-in_err-write_dossier-clause-put g c handed last begin kept begins stays =
    let columns = g.C.Columns.columns c.args.columns.now in
    let i = c.args.instance.now in
    let o = c.args.outcome.now in
    let told = map cause_of c.in_ok-causes.causes.items in
    let count = c.len.ensures.count in
    let short = c.if-len-gt-MOST_ROUTES.false in
    let of = of_outcome i c.args.nodes c.args.kept columns o told c.teams.ensures.limits c.requires.few c.requires.kept c.len.ensures.are
    (omega (arith, count, short)) c.requires.pooled c.requires.solved (subst (λ xs. AreTold xs told) c.deref.ensures.value c.in_ok-causes.ensures) in
    let parts = parts_of i c.args.nodes c.args.kept columns o told in
    let rounds : (d : Dossier) → IsDossierOf parts d → IsRoundOf handed parts d = λ d is. c.outcomes_are_rounds.ensures.dossier handed parts o d of kept is in
    let loses = begun_loses i last begin o.plan begins stays (c.outcomes_are_rounds.ensures.plan parts o of) in
    let fault = c.in_err-write_dossier.field-0.0 in
    let w = subst (λ xs. WritesDossier g.K.Sink (parts_of i c.args.nodes c.args.kept columns o (map cause_of xs)) c.args.sink.now c.write_dossier.new.sink (Err fault)) c.deref-3.ensures.value c.in_err-write_dossier.ensures in
    let e = c.from_residual-in_err-write_dossier.ensures in
    subst (λ r. IsRoundPut handed last (record { instance = i; nodes = c.args.nodes }) r (g.K.Sink.got c.args.sink.now) (g.K.Sink.got c.write_dossier.new.sink)) (sym (err_is c.from_residual-in_err-write_dossier.result (fault_of_put fault) e.0 e.1))
    (put_failed g.K.Sink handed last parts c.args.sink.now c.write_dossier.new.sink fault rounds loses w)

pub returns-clause-put : goal.returns-clause-put
returns-clause-put g c handed last begin kept begins stays =
    let columns = g.C.Columns.columns c.args.columns.now in
    let i = c.args.instance.now in
    let o = c.args.outcome.now in
    let told = map cause_of c.in_ok-causes.causes.items in
    let count = c.len.ensures.count in
    let short = c.if-len-gt-MOST_ROUTES.false in
    let of = of_outcome i c.args.nodes c.args.kept columns o told c.teams.ensures.limits c.requires.few c.requires.kept c.len.ensures.are
    (omega (arith, count, short)) c.requires.pooled c.requires.solved (subst (λ xs. AreTold xs told) c.deref.ensures.value c.in_ok-causes.ensures) in
    let parts = parts_of i c.args.nodes c.args.kept columns o told in
    let rounds : (d : Dossier) → IsDossierOf parts d → IsRoundOf handed parts d = λ d is. c.outcomes_are_rounds.ensures.dossier handed parts o d of kept is in
    let counts : (d : Dossier) → IsDossierOf parts d → c.counts_of-counts.result ≡ counts_of d = λ d is. c.outcomes_are_rounds.ensures.counts parts o d c.counts_of-counts.result of is (c.counts_of-counts.ensures parts (ap (map cause_of) (sym c.deref-2.ensures.value))) in
    let w = subst (λ xs. WritesDossier g.K.Sink (parts_of i c.args.nodes c.args.kept columns o (map cause_of xs)) c.args.sink.now c.write_dossier.new.sink (Ok tt)) c.deref-3.ensures.value c.in_ok-write_dossier.ensures in
    let loses = begun_loses i last begin o.plan begins stays (c.outcomes_are_rounds.ensures.plan parts o of) in
    put_whole g.K.Sink handed last parts c.args.sink.now c.write_dossier.new.sink (record { counts = c.counts_of-counts.result; carry = c.in_ok-carry.carry; jobs = c.in_ok-jobs.jobs }) rounds counts c.in_ok-carry.ensures c.in_ok-jobs.ensures
    loses w

pub returns-in_err-write_dossier-clause-tells : goal.returns-in_err-write_dossier-clause-tells
returns-in_err-write_dossier-clause-tells g c =
    let columns = g.C.Columns.columns c.args.columns.now in
    let i = c.args.instance.now in
    let o = c.args.outcome.now in
    let told = map cause_of c.in_ok-causes.causes.items in
    let parts = parts_of i c.args.nodes c.args.kept columns o told in
    let fault = c.in_err-write_dossier.field-0.0 in
    let w = subst (λ xs. WritesDossier g.K.Sink (parts_of i c.args.nodes c.args.kept columns o (map cause_of xs)) c.args.sink.now c.write_dossier.new.sink (Err fault)) c.deref-3.ensures.value c.in_err-write_dossier.ensures in
    let e = c.from_residual-in_err-write_dossier.ensures in
    tells_failed g.K.Sink parts c.args.sink.now c.write_dossier.new.sink fault c.from_residual-in_err-write_dossier.result
    (err_is c.from_residual-in_err-write_dossier.result (fault_of_put fault) e.0 e.1) w

pub returns-clause-tells : goal.returns-clause-tells
returns-clause-tells g c =
    let columns = g.C.Columns.columns c.args.columns.now in
    let i = c.args.instance.now in
    let o = c.args.outcome.now in
    let told = map cause_of c.in_ok-causes.causes.items in
    let parts = parts_of i c.args.nodes c.args.kept columns o told in
    let w = subst (λ xs. WritesDossier g.K.Sink (parts_of i c.args.nodes c.args.kept columns o (map cause_of xs)) c.args.sink.now c.write_dossier.new.sink (Ok tt)) c.deref-3.ensures.value c.in_ok-write_dossier.ensures in
    tells_whole g.K.Sink parts c.args.sink.now c.write_dossier.new.sink (record { counts = c.counts_of-counts.result; carry = c.in_ok-carry.carry; jobs = c.in_ok-jobs.jobs }) w
