use Rattle.std.proofs.Common.{sym, subst, arith}
use Rattle.sheet_lines.specs.Rows.{HasRowsBefore, IsRowNext}
use Rattle.sheet_terms.specs.Table.{after_steps}
use Rattle.sheet_reader.specs.Reader.{SheetTells, sheet_of}
use Rattle.sheet_reader.proofs.TeamLines.{row_due, rows_whole}
use Rattle.sheet_reader.proofs.reader.SheetReader.after_row.Goals as goal

pub returns-in-Some : goal.returns-in-Some
returns-in-Some c = λ budget left tables table read begun.
    let n = c.args.limits.now.limits in
    let i = n.instance in
    let r = c.args.self.now in
    let team = c.args.team in
    let before : HasRowsBefore n team r.rows table.phi = subst (λ m. HasRowsBefore m team r.rows table.phi) (sym c.requires.root) begun.rows in
    let next = subst (λ o. IsRowNext n team r.rows c.pass_closed.new.self table.phi o) c.in-Some.is (c.in_ok-task.ensures table.phi before) in
    row_due i budget n r team c.in-Some.task left tables table c.pass_closed.new.self c.requires.root c.requires.worths read begun next

pub judge_team-requires-clause-rows : goal.judge_team-requires-clause-rows
judge_team-requires-clause-rows c =
    let n = c.args.limits.now.limits in
    let r = c.args.self.now in
    let team = c.args.team in
    let a = c.requires.begun in
    let before : HasRowsBefore n team r.rows a.0.phi = subst (λ m. HasRowsBefore m team r.rows a.0.phi) (sym c.requires.root) a.1.rows in
    let next = subst (λ o. IsRowNext n team r.rows c.pass_closed.new.self a.0.phi o) c.in-None.is (c.in_ok-task.ensures a.0.phi before) in
    record { count = next.1; minutes = λ j l. next.0.minutes j (let e = next.1 in omega arith) }

pub judge_team-requires-clause-worths : goal.judge_team-requires-clause-worths
judge_team-requires-clause-worths c =
    let has = c.requires.worths in
    record { roomy = record { room = has.roomy.room; possible = has.roomy.possible }; prices = has.prices; count = has.count; few = has.few }

pub returns-in-None : goal.returns-in-None
returns-in-None c = λ budget left tables table read begun.
    let n = c.args.limits.now.limits in
    let i = n.instance in
    let r = c.args.self.now in
    let team = c.args.team in
    let before : HasRowsBefore n team r.rows table.phi = subst (λ m. HasRowsBefore m team r.rows table.phi) (sym c.requires.root) begun.rows in
    let next = subst (λ o. IsRowNext n team r.rows c.pass_closed.new.self table.phi o) c.in-None.is (c.in_ok-task.ensures table.phi before) in
    let whole = rows_whole i n r team table c.pass_closed.new.self c.requires.root begun next in
    subst (λ ks. SheetTells i budget (after_steps (sheet_of i budget r tables) left table ks) c.judge_team.result c.judge_team.new.self) (sym whole.2)
    (c.judge_team.ensures budget left tables table (record { worths = read.worths; count = read.count }) whole.0)
