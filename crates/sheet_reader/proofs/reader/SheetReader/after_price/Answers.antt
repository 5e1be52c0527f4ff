use Rattle.std.proofs.Common.{[], length, ap, arith}
use Rattle.sheet_reader.proofs.Priced.{all_prices, no_table, price_due, teams_due}
use Rattle.sheet_reader.proofs.reader.SheetReader.after_price.Goals as goal

pub returns-then-tasks : goal.returns-then-tasks
returns-then-tasks c = λ budget left all.
    let size = ap (λ i. length i.tasks) c.instance.ensures.instance in
    let test = c.if-tasks.true in
    let end = c.tasks.ensures.count in
    price_due c.args.limits.now.limits.instance budget c.args.self.now c.args.tasks left c.requires.prices all (omega arith)

pub after_team-requires : goal.after_team-requires
after_team-requires c =
    let size = ap (λ i. length i.tasks) c.instance.ensures.instance in
    let test = c.if-tasks.false in
    let end = c.tasks.ensures.count in
    record { worths = all_prices c.prices_are_read_in_turn.ensures.all c.args.limits.now.limits.instance c.args.self.now c.args.tasks c.requires.prices (omega arith) }

pub returns : goal.returns
returns c = λ budget left all.
    let i = c.args.limits.now.limits.instance in
    let size = ap (λ i. length i.tasks) c.instance.ensures.instance in
    let test = c.if-tasks.false in
    let end = c.tasks.ensures.count in
    teams_due i budget c.args.self.now c.after_team.new.self c.after_team.result c.args.tasks left all (omega arith)
    (c.after_team.ensures budget (length i.teams) [] (no_table i c.args.self.now c.args.tasks c.requires.prices))
