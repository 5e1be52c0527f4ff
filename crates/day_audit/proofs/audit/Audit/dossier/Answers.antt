use Rattle.std.proofs.Common.{◌≡◌, refl, subst}
use Rattle.day_audit.specs.Belongs.{IsFit}
use Rattle.day_audit.specs.Kept.{handed_in}
use Rattle.day_audit.specs.declared.audit.Fit.TheVariants.{Fits}
use Rattle.day_audit.proofs.Follows.{day_of_fit, err_not_ok, fit_told, some_due}
use Rattle.day_audit.proofs.audit.Audit.dossier.Goals as goal

pub unreachable-requires : goal.unreachable-requires
unreachable-requires c = some_due c.self.inside c.args.self.now c.self.view_is c.requires.due c.in_default.is

pub returns-in_default-instance-clause-fits : goal.returns-in_default-instance-clause-fits
returns-in_default-instance-clause-fits c = λ d w g e. absurd (cc)

pub returns-in_default-instance-clause-same : goal.returns-in_default-instance-clause-same
returns-in_default-instance-clause-same c = λ _. refl

pub returns-in_err-other-clause-fits : goal.returns-in_err-other-clause-fits
returns-in_err-other-clause-fits c = λ d w g e. absurd (err_not_ok c.from_residual.result Fits c.from_residual.ensures.0 e)

pub returns-in_err-other-clause-same : goal.returns-in_err-other-clause-same
returns-in_err-other-clause-same c = λ _. refl

pub returns-in_default-2 : goal.returns-in_default-2
returns-in_default-2 c = record {
  fit = λ round d due w g.
      fit_told c.self.inside c.args.self.now c.self.view_is c.in-Some.nodes c.in-Some.is c.in-Ok.instance c.in-Ok.ensures.ok round due d c.in_ok-other.other (c.in_ok-other.ensures d w g);
  fits = λ d w g e. absurd (c.in_default-2.not-Fits (let x : c.in_ok-other.other ≡ Fits = cc in x));
  same = λ _. refl;
}

pub follow-requires-clause-instance : goal.follow-requires-clause-instance
follow-requires-clause-instance c = λ d w g.
    day_of_fit c.self.inside c.args.self.now c.self.view_is c.in-Some.nodes c.in-Ok.instance c.in-Ok.ensures.ok d c.in_ok-other.other c.in-Fits.is (c.in_ok-other.ensures d w g)

pub returns-in_err-follow-clause-fits : goal.returns-in_err-follow-clause-fits
returns-in_err-follow-clause-fits c = λ d w g e. absurd (err_not_ok c.from_residual-in_err-follow.result Fits c.from_residual-in_err-follow.ensures.0 e)

pub returns-clause-fit : goal.returns-clause-fit
returns-clause-fit c = λ round d due w g.
    fit_told c.self.inside c.args.self.now c.self.view_is c.in-Some.nodes c.in-Some.is c.in-Ok.instance c.in-Ok.ensures.ok round due d Fits
    (subst (IsFit (handed_in c.self.inside.carry) (record { instance = c.in-Ok.instance; nodes = c.in-Some.nodes }) d) c.in-Fits.is (c.in_ok-other.ensures d w g))

pub returns-clause-fits : goal.returns-clause-fits
returns-clause-fits c = λ d w g e. c.in_ok-follow.ensures.ok d w g

pub returns-clause-same : goal.returns-clause-same
returns-clause-same c = λ h. absurd (h refl)
