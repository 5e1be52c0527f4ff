use Rattle.std.proofs.Common.{◌<◌, length, sym, subst, ◌∙◌, arith, rules, true≢false, w64}
use Rattle.std.specs.Prelude.{FitsSigned}
use Rattle.std.proofs.lemmas.Int.{to_z-of_z}
use Rattle.master_run.specs.Rounding.{KeepsRounded}
use Rattle.master_run.proofs.Rounded.{free_pair, pairs_kept}
use Rattle.master_run.proofs.run.Run.round_pair.Goals as goal

pub returns-in_ok-extra-clause-keeps : goal.returns-in_ok-extra-clause-keeps
returns-in_ok-extra-clause-keeps c =
    let n = c.args.limits.now.limits in
    let t = c.args.self.now.master.rows in
    let old = c.args.prices.now in
    let fits : FitsSigned w64 c.in_ok-extra.extra = search rules in
    let is = simp to_z-of_z at c.set_rho.ensures.price in
    let team : c.args.k < length old.rho = omega (arith, c.requires.shape.teams, c.requires.team) in
    let task : c.args.j < length old.pi = omega (arith, c.requires.shape.tasks, c.requires.task) in
    subst (KeepsRounded n t old) (sym is)
    (pairs_kept old c.args.k c.args.j c.in_ok-extra.extra n t c.tasks.ensures.limits team task (c.in_ok-extra.ensures.rounded n c.requires.places))

pub returns-else-is_required-clause-here : goal.returns-else-is_required-clause-here
returns-else-is_required-clause-here c =
    let n = c.args.limits.now.limits in
    free_pair n c.args.self.now.master.rows c.args.prices.now c.args.k c.args.j
    (λ has. true≢false (sym (c.is_required.ensures.1 ((c.places_are.ensures.pairs n c.args.k c.args.j).0 has).2) ∙ c.if-is_required.false))
