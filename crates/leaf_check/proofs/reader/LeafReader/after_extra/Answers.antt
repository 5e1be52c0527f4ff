use Rattle.std.proofs.Common.{ap, sym, subst, refl, ◌∙◌, zero-add}
use Rattle.crew_terms.specs.Limits.{teams_in}
use Rattle.dossier_terms.specs.Reading.{limits_of}
use Rattle.dossier_terms.specs.LeafTable.{after_extra}
use Rattle.leaf_check.specs.Keys.{AreExtrasLeft}
use Rattle.leaf_check.specs.Reader.{LeafTells, priced_leaf}
use Rattle.leaf_check.specs.declared.reader.LeafDue.TheVariants as due
use Rattle.leaf_check.proofs.Told.{extra_due}
use Rattle.leaf_check.proofs.reader.LeafReader.after_extra.Goals as goal

pub returns-in-Some-clause-tells : goal.returns-in-Some-clause-tells
returns-in-Some-clause-tells c = λ a prices rows js g read left.
    let n = c.args.limits.now.limits in
    let h = subst (λ next. AreExtrasLeft n rows next js) c.in-Some.is left in
    extra_due a n (record c.args.self.now { due = due.Extra c.in-Some.task }) prices rows c.in-Some.task h.0 js g.limits refl
    (record { prices = read.prices; worths = read.worths }) h.1 h.2

pub returns-in-None-clause-tells : goal.returns-in-None-clause-tells
returns-in-None-clause-tells c = λ a prices rows js g read left.
    let n = c.args.limits.now.limits in
    let h = subst (λ next. AreExtrasLeft n rows next js) c.in-None.is left in
    subst (λ ks. LeafTells a (after_extra a (priced_leaf prices rows) ks) c.after_table.result c.after_table.new.self) (sym h)
    (c.after_table.ensures.tells a (priced_leaf prices rows) (teams_in (limits_of a)) g
    (record { read = read; count = refl; teams = zero-add (teams_in (limits_of a)) ∙ ap teams_in g.limits }))
