use Rattle.std.proofs.Common.{sym, subst, refl}
use Rattle.dossier_terms.specs.LeafTable.{after_phi}
use Rattle.leaf_check.specs.Keys.{ArePhisLeft}
use Rattle.leaf_check.specs.Reader.{HasPotentials, LeafTells, below_next}
use Rattle.leaf_check.specs.declared.reader.LeafDue.TheVariants as due
use Rattle.leaf_check.proofs.Told.{phi_due}
use Rattle.leaf_check.proofs.reader.LeafReader.after_phi.Goals as goal

pub returns-in-Some-clause-tells : goal.returns-in-Some-clause-tells
returns-in-Some-clause-tells c = λ a leaf left table js g upto potentials keys.
    let n = c.args.limits.now.limits in
    let h = subst (λ next. ArePhisLeft n c.args.team table.phi next js) c.in-Some.is keys in
    let p = subst (λ next. HasPotentials n c.args.self.now c.args.team table (below_next n next)) c.in-Some.is potentials in
    phi_due a n (record c.args.self.now { due = due.Phi c.args.team c.in-Some.task }) leaf c.args.team left table c.in-Some.task h.0 js g.limits refl
    (record { read = record { prices = upto.read.prices; worths = upto.read.worths }; count = upto.count; teams = upto.teams }) (record { worth = p.worth; phi = p.phi }) h.1 h.2

pub returns-in-None-clause-tells : goal.returns-in-None-clause-tells
returns-in-None-clause-tells c = λ a leaf left table js g upto potentials keys.
    let n = c.args.limits.now.limits in
    let h = subst (λ next. ArePhisLeft n c.args.team table.phi next js) c.in-None.is keys in
    let p = subst (λ next. HasPotentials n c.args.self.now c.args.team table (below_next n next)) c.in-None.is potentials in
    subst (λ ks. LeafTells a (after_phi a leaf left table ks) c.judge_team.result c.judge_team.new.self) (sym h)
    (c.judge_team.ensures.tells a leaf left table g upto p)
