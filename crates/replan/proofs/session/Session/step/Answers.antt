use Rattle.std.proofs.Common.{◌≡◌, Ok, Err, ap, subst, sym, refl, ◌∙◌}
use Rattle.crew_io.specs.Chains.{writes_none, writes_then}
use Rattle.crew_terms.specs.Legal.{IsLegal}
use Rattle.day_terms.specs.Instances.{day_instance}
use Rattle.day_terms.specs.Work.{jobs_by_names}
use Rattle.replan.specs.Entries.{no_round}
use Rattle.replan.specs.Planning.{IsEntered, Planning}
use Rattle.replan.specs.declared.faults.SessionFault.TheVariants.{OutOfMemory}
use Rattle.replan.specs.declared.session.Done.TheVariants.{Changed, Round as HasRound}
use Rattle.replan.specs.Kept.{planning_of}
use Rattle.replan.proofs.Dossiers.{err_is}
use Rattle.replan.proofs.Steps.{refusal_entered, changed_entered, fault_entered, want_entered, round_entered, with_day}
use Rattle.replan.proofs.session.Session.step.Goals as goal

pub returns-in-Err-clause-entered : goal.returns-in-Err-clause-entered
returns-in-Err-clause-entered g c =
    let s : Planning = planning_of c.self.inside in
    let yet = ap (λ (x : Planning). x.failed) c.self.view_is ∙ c.requires.open_yet in
    let e = c.args.entry.now in
    let day = c.apply.new.self in
    let got = g.K.Sink.got c.args.sink.now in
    subst (λ x. IsEntered x e (Err c.refusal.result) (with_day day s.handed (Err c.refusal.result)) got got) c.self.view_is
    (subst (λ f. IsEntered s e (Err f) (with_day day s.handed (Err f)) got got) (sym c.refusal.ensures)
    (refusal_entered s e day got got yet (Err c.in-Err.fault) c.in-Err.fault refl c.in-Err.ensures.by_lists c.in-Err.ensures.told c.in-Err.ensures.err))

pub returns-in_default-entry : goal.returns-in_default-entry
returns-in_default-entry g c =
    let s : Planning = planning_of c.self.inside in
    let yet = ap (λ (x : Planning). x.failed) c.self.view_is ∙ c.requires.open_yet in
    let e = c.args.entry.now in
    let day = c.apply.new.self in
    let got = g.K.Sink.got c.args.sink.now in
    record {
      entered = subst (λ x. IsEntered x e (Ok Changed) (with_day day s.handed (Ok Changed)) got got) c.self.view_is
          (changed_entered s e day got got yet c.in_default.ensures.taken (no_round s.day e c.in_default-entry.not-Plan) c.in_default.ensures.ok);
      tells = writes_then g.K.Sink _ _ _ (λ fault. fault) (writes_none g.K.Sink c.args.sink.now) (writes_none g.K.Sink c.args.sink.now) (λ e. absurd (cc)) (λ fault. absurd fault);
    }

pub returns-in_default-instance-clause-entered : goal.returns-in_default-instance-clause-entered
returns-in_default-instance-clause-entered g c =
    let s : Planning = planning_of c.self.inside in
    let yet = ap (λ (x : Planning). x.failed) c.self.view_is ∙ c.requires.open_yet in
    let e = c.args.entry.now in
    let day = c.apply.new.self in
    let got = g.K.Sink.got c.args.sink.now in
    subst (λ x. IsEntered x e (Err OutOfMemory) (with_day day s.handed (Err OutOfMemory)) got got) c.self.view_is
    (want_entered s e day got got yet c.in-Plan.nodes c.in-Plan.is c.in_default.ensures.taken c.in_default.ensures.unknown c.in_default.ensures.ok)

pub returns-in_err-planned-clause-entered : goal.returns-in_err-planned-clause-entered
returns-in_err-planned-clause-entered g c =
    let s : Planning = planning_of c.self.inside in
    let yet = ap (λ (x : Planning). x.failed) c.self.view_is ∙ c.requires.open_yet in
    let e = c.args.entry.now in
    let day = c.apply.new.self in
    let got = g.K.Sink.got c.args.sink.now in
    let later = g.K.Sink.got c.put_round.new.sink in
    let fault = c.in_err-planned.field-0.0 in
    let told = err_is c.from_residual-in_err-planned.result fault c.from_residual-in_err-planned.ensures.0 c.from_residual-in_err-planned.ensures.1 in
    subst (λ x. IsEntered x e c.from_residual-in_err-planned.result (with_day day s.handed c.from_residual-in_err-planned.result) got later) c.self.view_is
    (subst (λ r. IsEntered s e r (with_day day s.handed r) got later) (sym told)
    (fault_entered s e day got later yet c.in-Plan.nodes c.in-Plan.is c.in_default.ensures.taken c.in_default.ensures.unknown c.in_default.ensures.ok
    c.in-Ok.instance c.in_ok-last.last fault c.in-Ok.ensures.ok c.in_ok-last.ensures c.in_err-planned.ensures.put))

pub planned-requires : goal.planned-requires
planned-requires g c =
    let day = c.apply.new.self in
    let put = c.in_ok-planned.ensures.put in
    let same : put.0.instance ≡ day_instance day = put.1.instance ∙ c.in-Ok.ensures.ok in
    record {
      legal = (put.0.plan, subst (λ i. IsLegal i put.0.plan) same put.1.legal, put.4 ∙ ap (λ i. jobs_by_names i put.0.plan) same);
    }

pub returns-clause-entered : goal.returns-clause-entered
returns-clause-entered g c =
    let s : Planning = planning_of c.self.inside in
    let yet = ap (λ (x : Planning). x.failed) c.self.view_is ∙ c.requires.open_yet in
    let e = c.args.entry.now in
    let day = c.apply.new.self in
    let behind = c.planned.new.self in
    let got = g.K.Sink.got c.args.sink.now in
    let later = g.K.Sink.got c.put_round.new.sink in
    let planned = c.in_ok-planned.planned in
    subst (λ x. IsEntered x e (Ok (HasRound planned.counts)) (with_day behind planned.carry (Ok (HasRound planned.counts))) got later) c.self.view_is
    (round_entered s e day got later yet c.in-Plan.nodes c.in-Plan.is c.in_default.ensures.taken c.in_default.ensures.unknown c.in_default.ensures.ok
    c.in-Ok.instance c.in_ok-last.last planned behind c.in-Ok.ensures.ok c.in_ok-last.ensures c.planned.ensures c.in_ok-planned.ensures.put)

pub returns-clause-tells : goal.returns-clause-tells
returns-clause-tells g c =
    writes_then g.K.Sink _ _ _ (λ fault. fault) (writes_none g.K.Sink c.args.sink.now) c.in_ok-planned.ensures.tells (λ e. absurd (cc)) (λ e. absurd (cc))

pub returns-in_err-last-clause-entered : goal.returns-in_err-last-clause-entered
returns-in_err-last-clause-entered g c =
    let s : Planning = planning_of c.self.inside in
    let yet = ap (λ (x : Planning). x.failed) c.self.view_is ∙ c.requires.open_yet in
    let e = c.args.entry.now in
    let day = c.apply.new.self in
    let got = g.K.Sink.got c.args.sink.now in
    let told = err_is c.from_residual.result OutOfMemory c.from_residual.ensures.0 c.from_residual.ensures.1 in
    subst (λ x. IsEntered x e c.from_residual.result (with_day day s.handed c.from_residual.result) got got) c.self.view_is
    (subst (λ r. IsEntered s e r (with_day day s.handed r) got got) (sym told)
    (want_entered s e day got got yet c.in-Plan.nodes c.in-Plan.is c.in_default.ensures.taken c.in_default.ensures.unknown c.in_default.ensures.ok))
