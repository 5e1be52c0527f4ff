use Rattle.crew_io.specs.Lines.{Reader}
use Rattle.late_lines.specs.First.{IsAfter}
use Rattle.late_lines.specs.Lines.{first_lines}
use Rattle.delay_command.specs.Tasks.{lates_in}
use Rattle.delay_command.proofs.Gives.{is_legal, waits_back}
use Rattle.delay_command.proofs.Tells.{halts_tell, tells_read, waits_tell}
use Rattle.delay_command.proofs.command.write_with.Goals as goal

pub instance-requires : goal.instance-requires
instance-requires g c = (c.in-Ok.ensures.waits.dossier, c.in-Ok.ensures.waits.whole)

pub plan-requires : goal.plan-requires
plan-requires g c = (c.in-Ok.ensures.waits.dossier, c.in-Ok.ensures.waits.whole)

pub put_waits-requires-clause-legal : goal.put_waits-requires-clause-legal
put_waits-requires-clause-legal g c =
    let has = c.in-Ok.ensures.waits in
    is_legal c.args.lines.now c.read_waits.new.checker c.instance.result.now c.plan.result.now c.instance.ensures c.plan.ensures.plan (record { dossier = has.dossier; whole = has.whole; true_yes = has.true_yes })

pub put_waits-requires-clause-waits : goal.put_waits-requires-clause-waits
put_waits-requires-clause-waits g c = (
  lates_in c.instance.result.now c.args.lines.now,
  waits_back c.args.lines.now c.read_waits.new.checker c.instance.result.now c.plan.result.now c.instance.ensures c.plan.ensures.plan c.in-Ok.waits c.in-Ok.ensures.waits,
)

pub returns-in-Ok : goal.returns-in-Ok
returns-in-Ok g c =
    waits_tell g.S.Source g.K.Sink (λ input. IsAfter (first_lines c.args.lines.now) input c.args.reader.now (g.S.Source.left c.args.src.now)) c.args.src.now c.read_waits.new.src c.args.out.now
    c.put_waits.new.out c.args.lines.now c.read_waits.new.checker c.instance.result.now c.plan.result.now c.instance.ensures c.plan.ensures.plan c.in-Ok.waits c.put_waits.result
    c.in-Ok.ensures.waits (λ input h. c.in-Ok.ensures.says input h) c.in-Ok.ensures.ended (tells_read g.S.Source g.K.Sink c.args.src.now c.read_waits.new.src c.in-Ok.ensures.tells (λ e. absurd e) (λ e. absurd (cc)))
    c.put_waits.ensures

pub returns-in-Err : goal.returns-in-Err
returns-in-Err g c =
    halts_tell g.S.Source g.K.Sink (λ input. IsAfter (first_lines c.args.lines.now) input c.args.reader.now (g.S.Source.left c.args.src.now)) c.args.src.now c.read_waits.new.src c.args.out.now
    c.refused_has_no_form.ensures c.put_halt.new.out c.in-Err.halt c.put_halt.result c.put_halt.ensures (λ input h. c.in-Err.ensures.says input h)
    (tells_read g.S.Source g.K.Sink c.args.src.now c.read_waits.new.src c.in-Err.ensures.tells (λ e. cc) (λ e. cc))
