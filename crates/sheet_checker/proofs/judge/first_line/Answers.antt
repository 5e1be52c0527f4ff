use Rattle.std.proofs.Common.{refl, subst, sym}
use Rattle.dossier_terms.specs.declared.DossierForm.TheVariants.{Two}
use Rattle.dossier_terms.specs.declared.Reason.TheVariants as reasons
use Rattle.dossier_terms.specs.Reading.{Sizes}
use Rattle.sheet_terms.specs.Reading.{Head as HeadIsDue, More as Goes, No as Refuses}
use Rattle.sheet_terms.specs.Rules.{Holds, Fails}
use Rattle.sheet_terms.specs.Table.{SaysOfSheet}
use Rattle.sheet_checker.proofs.judge.first_line.Goals as goal

pub returns-then-not-is_first : goal.returns-then-not-is_first
returns-then-not-is_first c = λ reading is. subst (λ s. SaysOfSheet s c.args.words (Refuses reasons.Shape)) (sym is)
    (Fails (λ first. let t = c.is_first.ensures.1 first in let f = c.if-not-is_first.true in cc) refl)

pub returns : goal.returns
returns c = λ reading is. (HeadIsDue (Sizes Two), subst (λ s. SaysOfSheet s c.args.words (Goes (HeadIsDue (Sizes Two)))) (sym is) (Holds (c.is_first.ensures.0 c.if-not-is_first.false) refl), (tt, tt, refl))
