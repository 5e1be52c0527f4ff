use Rattle.std.proofs.Common.{arith}
use Rattle.crew_terms.specs.Instance.{no_task}
use Rattle.crew_io.specs.Chains.{puts_nothing, puts_done, puts_same}
use Rattle.dossier_out.specs.Tables.{may_begin, row_line}
use Rattle.dossier_out.proofs.TeamTables.{counted, none_passes, row_is_line, uncounted}
use Rattle.dossier_out.proofs.tables.put_if_open.Goals as goal

pub overflow_add-last : goal.overflow_add-last
overflow_add-last g c =
    let day = (c.instance-day.ensures.is_instance.parts.tasks c.args.j no_task c.requires.task).window.day in
    let late = c.in-Some.ensures.late in
    omega arith

pub returns-in-None : goal.returns-in-None
returns-in-None g c =
    let n = c.args.limits.now.limits in
    puts_same g.K.Sink _ _ _ _ _
    (none_passes (may_begin n c.args.k) (row_line n c.args.k c.args.table.now) c.args.j (uncounted c.minutes_are_permitted.ensures n c.args.k c.args.j c.requires.task c.in-None.ensures.exact))
    (puts_done g.K.Sink _ _ _ _ _ (puts_nothing g.K.Sink c.args.out.now))

pub returns-in-Some : goal.returns-in-Some
returns-in-Some g c =
    let n = c.args.limits.now.limits in
    puts_same g.K.Sink _ _ _ _ _
    (row_is_line n c.args.k c.args.j c.args.table.now _ _ (counted c.minutes_are_permitted.ensures n c.args.k c.args.j _ _ c.in-Some.ensures.exact))
    c.put_steps.ensures
