use Rattle.std.proofs.Common.{◌≡◌, zero, length, ap, sym, subst, refl, ◌∙◌, arith}
use Rattle.crew_terms.specs.Limits.{teams_in}
use Rattle.dossier_terms.specs.LeafTable.{after_table}
use Rattle.leaf_check.specs.Reader.{LeafTells}
use Rattle.leaf_check.specs.declared.reader.LeafDue.TheVariants as due
use Rattle.leaf_check.proofs.Told.{worth_due}
use Rattle.leaf_check.proofs.reader.LeafReader.after_table.Goals as goal

pub returns-then-teams-clause-tells : goal.returns-then-teams-clause-tells
returns-then-teams-clause-tells c = λ a leaf left g upto.
    let n = c.args.limits.now.limits in
    let size = ap (λ i. length i.teams) c.instance.ensures.instance in
    let test = c.if-teams.true in
    let end = c.teams.ensures.count in
    worth_due a n (record c.args.self.now { due = due.Worth c.args.teams }) leaf c.args.teams left g.limits refl
    (record { read = record { prices = upto.read.prices; worths = upto.read.worths }; count = upto.count; teams = upto.teams }) (omega arith)

pub returns-clause-tells : goal.returns-clause-tells
returns-clause-tells c = λ a leaf left g upto.
    let n = c.args.limits.now.limits in
    let size = ap (λ i. length i.teams) c.instance.ensures.instance in
    let test = c.if-teams.false in
    let end = c.teams.ensures.count in
    let teams = upto.teams in
    let none : left ≡ zero = omega arith in
    let all : c.args.teams ≡ teams_in n = omega arith in
    subst (λ l. LeafTells a (after_table a leaf l) c.judge_bound.result c.args.self.now) (sym none) (c.judge_bound.ensures a leaf g upto.read (upto.count ∙ all))
