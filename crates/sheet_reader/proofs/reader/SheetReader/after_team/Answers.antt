use Rattle.std.proofs.Common.{◌≡◌, length, ap, arith, subst}
use Rattle.sheet_reader.specs.Reader.{HasWorths}
use Rattle.sheet_reader.proofs.Priced.{bound_due, worth_due}
use Rattle.sheet_reader.proofs.TeamLines.{table_count}
use Rattle.sheet_reader.proofs.reader.SheetReader.after_team.Goals as goal

pub returns-then-teams : goal.returns-then-teams
returns-then-teams c = λ budget left tables read.
    let i = c.args.limits.now.limits.instance in
    let size = ap (λ i. length i.teams) c.instance.ensures.instance in
    let test = c.if-teams.true in
    let end = c.teams.ensures.count in
    worth_due i budget c.args.self.now c.args.teams left tables c.requires.worths read (table_count i c.args.self.now tables left c.args.teams read c.requires.worths) (omega arith)

pub judge_bound-requires : goal.judge_bound-requires
judge_bound-requires c =
    let i = c.args.limits.now.limits.instance in
    let size = ap (λ i. length i.teams) c.instance.ensures.instance in
    let test = c.if-teams.false in
    let end = c.teams.ensures.count in
    let few = c.requires.worths.few in
    let all : c.args.teams ≡ length i.teams = omega arith in
    subst (HasWorths i c.args.self.now) all c.requires.worths

pub returns : goal.returns
returns c = λ budget left tables read.
    let i = c.args.limits.now.limits.instance in
    let size = ap (λ i. length i.teams) c.instance.ensures.instance in
    let test = c.if-teams.false in
    let end = c.teams.ensures.count in
    bound_due i budget c.args.self.now c.judge_bound.new.self c.judge_bound.result c.args.teams left tables read (table_count i c.args.self.now tables left c.args.teams read c.requires.worths) (omega arith)
    (λ none. c.judge_bound.ensures budget tables none)
