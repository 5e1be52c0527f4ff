use Rattle.std.proofs.Common.{◌≡◌, length, subst, sym}
use Rattle.crew_terms.specs.Legal.{IsFeasible}
use Rattle.crew_instance.specs.Draft.{filled}
use Rattle.crew_instance.specs.Kept.{kept}
use Rattle.crew_instance.proofs.Filled.{filled_all}
use Rattle.crew_instance.proofs.instances.Instance.with_frozen.Goals as goal

pub invariant_of-self : goal.invariant_of-self
invariant_of-self c =
    let i = kept c.self.inside in
    let p = filled (length i.tasks) c.args.frozen in
    let able : IsFeasible i c.args.frozen = subst (λ x. IsFeasible x c.args.frozen) (sym c.self.view_is) c.requires in
    let whole : p ≡ c.args.frozen = filled_all (length i.tasks) c.args.frozen able.whole in
    record {
      parts = c.self.invariant.parts;
      times = c.self.invariant.times;
      frozen = c.feasible_whatever_is_frozen.ensures i p p (subst (IsFeasible i) (sym whole) able);
    }
