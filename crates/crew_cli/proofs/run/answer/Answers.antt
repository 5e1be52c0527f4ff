use Rattle.std.proofs.Common.{sym, subst}
use Rattle.std.specs.Prelude.{codes}
use Rattle.crew_cli.specs.Run.{Answers, an_audit, of_delays, of_sheets, of_squeeze, of_trial, promises_of}
use Rattle.crew_cli.specs.declared.run.Command.{Command}
use Rattle.crew_cli.specs.declared.status.Status.{Status}
use Rattle.crew_cli.proofs.Top.{audit_answers, delays_answer, sheets_answer, squeeze_answer, trial_answers}
use Rattle.crew_cli.proofs.run.answer.Goals as goal

pub returns-in-Check : goal.returns-in-Check
returns-in-Check g c =
    subst (λ (a : Command). Answers g.S.Source g.K.Sink (promises_of a) c.args.src.now c.read_all.new.src c.args.out.now c.read_all.new.out c.read_all.result)
    (sym c.in-Check.is) (c.read_all.ensures (codes "check"))

pub returns-in-Rosters : goal.returns-in-Rosters
returns-in-Rosters g c =
    subst (λ (a : Command). Answers g.S.Source g.K.Sink (promises_of a) c.args.src.now c.read_all-in-Rosters.new.src c.args.out.now c.read_all-in-Rosters.new.out c.read_all-in-Rosters.result)
    (sym c.in-Rosters.is) (c.read_all-in-Rosters.ensures (codes "rosters"))

pub returns-in-Why : goal.returns-in-Why
returns-in-Why g c =
    subst (λ (a : Command). Answers g.S.Source g.K.Sink (promises_of a) c.args.src.now c.read_all-in-Why.new.src c.args.out.now c.read_all-in-Why.new.out c.read_all-in-Why.result)
    (sym c.in-Why.is) (c.read_all-in-Why.ensures (codes "why"))

pub returns-in-Delays : goal.returns-in-Delays
returns-in-Delays g c =
    subst (λ (a : Command). Answers g.S.Source g.K.Sink (promises_of a) c.args.src.now c.write_delays.new.src c.args.out.now c.write_delays.new.out c.of_dossiers.result)
    (sym c.in-Delays.is)
    (subst (λ (s : Status). Answers g.S.Source g.K.Sink of_delays c.args.src.now c.write_delays.new.src c.args.out.now c.write_delays.new.out s)
    (sym c.of_dossiers.ensures) (delays_answer g.S.Source g.K.Sink c.args.src.now c.write_delays.new.src c.args.out.now c.write_delays.new.out c.write_delays.result c.write_delays.ensures))

pub returns-in-Squeeze : goal.returns-in-Squeeze
returns-in-Squeeze g c =
    subst (λ (a : Command). Answers g.S.Source g.K.Sink (promises_of a) c.args.src.now c.squeeze_dossiers.new.src c.args.out.now c.squeeze_dossiers.new.out c.of_dossiers-in-Squeeze.result)
    (sym c.in-Squeeze.is)
    (subst (λ (s : Status). Answers g.S.Source g.K.Sink (of_squeeze c.in-Squeeze.squeeze) c.args.src.now c.squeeze_dossiers.new.src c.args.out.now c.squeeze_dossiers.new.out s)
    (sym c.of_dossiers-in-Squeeze.ensures) (squeeze_answer g.S.Source g.K.Sink c.args.src.now c.squeeze_dossiers.new.src c.args.out.now c.squeeze_dossiers.new.out c.in-Squeeze.squeeze c.squeeze_dossiers.result c.squeeze_dossiers.ensures))

pub returns-in-SqueezeCheck : goal.returns-in-SqueezeCheck
returns-in-SqueezeCheck g c =
    subst (λ (a : Command). Answers g.S.Source g.K.Sink (promises_of a) c.args.src.now c.read_sheets.new.src c.args.out.now c.read_sheets.new.out c.of_dossiers-in-SqueezeCheck.result)
    (sym c.in-SqueezeCheck.is)
    (subst (λ (s : Status). Answers g.S.Source g.K.Sink of_sheets c.args.src.now c.read_sheets.new.src c.args.out.now c.read_sheets.new.out s)
    (sym c.of_dossiers-in-SqueezeCheck.ensures) (sheets_answer g.S.Source g.K.Sink c.args.src.now c.read_sheets.new.src c.args.out.now c.read_sheets.new.out c.read_sheets.result c.read_sheets.ensures))

pub returns-in-Apply : goal.returns-in-Apply
returns-in-Apply g c =
    subst (λ (a : Command). Answers g.S.Source g.K.Sink (promises_of a) c.args.src.now c.plan_day.new.src c.args.out.now c.plan_day.new.out c.plan_day.result)
    (sym c.in-Apply.is) (c.plan_day.ensures (codes "apply"))

pub returns-in-Day : goal.returns-in-Day
returns-in-Day g c =
    subst (λ (a : Command). Answers g.S.Source g.K.Sink (promises_of a) c.args.src.now c.plan_day-in-Day.new.src c.args.out.now c.plan_day-in-Day.new.out c.plan_day-in-Day.result)
    (sym c.in-Day.is) (c.plan_day-in-Day.ensures (codes "day"))

pub returns-in-Audit : goal.returns-in-Audit
returns-in-Audit g c =
    subst (λ (a : Command). Answers g.S.Source g.K.Sink (promises_of a) c.args.src.now c.audit_day.new.src c.args.out.now c.audit_day.new.out c.of_audit.result)
    (sym c.in-Audit.is)
    (subst (λ (s : Status). Answers g.S.Source g.K.Sink an_audit c.args.src.now c.audit_day.new.src c.args.out.now c.audit_day.new.out s)
    (sym c.of_audit.ensures) (audit_answers g.S.Source g.K.Sink c.args.src.now c.audit_day.new.src c.args.out.now c.audit_day.new.out c.audit_day.result c.audit_day.ensures))

pub returns-in-Trial : goal.returns-in-Trial
returns-in-Trial g c =
    subst (λ (a : Command). Answers g.S.Source g.K.Sink (promises_of a) c.args.src.now c.args.src.now c.args.out.now c.write_trial.new.out c.of_trial.result)
    (sym c.in-Trial.is)
    (subst (λ (s : Status). Answers g.S.Source g.K.Sink (of_trial c.in-Trial.trial) c.args.src.now c.args.src.now c.args.out.now c.write_trial.new.out s)
    (sym c.of_trial.ensures) (trial_answers g.S.Source g.K.Sink c.args.src.now c.args.out.now c.write_trial.new.out c.in-Trial.trial c.write_trial.result c.write_trial.ensures))
