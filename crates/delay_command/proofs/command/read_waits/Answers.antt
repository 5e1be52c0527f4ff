use Rattle.std.proofs.Common.{rules}
use Rattle.delay_command.specs.Delays.{late_front}
use Rattle.delay_command.specs.Halts.{HaltsAt}
use Rattle.delay_command.proofs.Begins.{between, can_go}
use Rattle.delay_command.proofs.Gives.{gives, has_waits, is_legal}
use Rattle.delay_command.proofs.Tells.{halts_past}
use Rattle.delay_command.proofs.command.read_waits.Goals as goal

pub read_alone-requires : goal.read_alone-requires
read_alone-requires g c = can_go c.args.lines.now c.args.reader.now c.args.checker.now c.requires.going c.requires.checker

pub returns-in_err-read_alone-clause-says : goal.returns-in_err-read_alone-clause-says
returns-in_err-read_alone-clause-says g c = λ input b.
    let later = g.S.Source.left c.read_alone.new.src in
    let h : HaltsAt input later c.in_err-read_alone.field-0.0 =
    halts_past input later c.args.lines.now c.requires.lines c.in_err-read_alone.field-0.0
    (c.in_err-read_alone.ensures.says (late_front c.args.lines.now) input (between c.args.lines.now input c.args.reader.now (g.S.Source.left c.args.src.now) c.args.checker.now c.requires.checker b)) in
    search (rules, h)

pub instance-requires : goal.instance-requires
instance-requires g c = (c.in_ok-read_alone.ensures.whole.dossier, c.in_ok-read_alone.ensures.whole.whole)

pub plan-requires : goal.plan-requires
plan-requires g c = (c.in_ok-read_alone.ensures.whole.dossier, c.in_ok-read_alone.ensures.whole.whole)

pub waits_in-requires-clause-legal : goal.waits_in-requires-clause-legal
waits_in-requires-clause-legal g c =
    is_legal c.args.lines.now c.read_alone.new.checker c.instance.result.now c.plan.result.now c.instance.ensures c.plan.ensures.plan c.in_ok-read_alone.ensures.whole

pub returns-clause-waits : goal.returns-clause-waits
returns-clause-waits g c =
    has_waits c.args.lines.now c.read_alone.new.checker c.instance.result.now c.plan.result.now c.instance.ensures c.plan.ensures.plan c.waits_in.result c.waits_in.ensures c.in_ok-read_alone.ensures.whole

pub returns-clause-says : goal.returns-clause-says
returns-clause-says g c = λ input b.
    gives c.args.lines.now c.read_alone.new.checker c.instance.result.now c.plan.result.now c.instance.ensures c.plan.ensures.plan input (g.S.Source.left c.read_alone.new.src) c.waits_in.result c.waits_in.ensures
    c.requires.lines
    (c.in_ok-read_alone.ensures.says (late_front c.args.lines.now) input (between c.args.lines.now input c.args.reader.now (g.S.Source.left c.args.src.now) c.args.checker.now c.requires.checker b))
