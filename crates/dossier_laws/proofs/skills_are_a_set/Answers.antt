use Rattle.std.proofs.Common.{◌<◌}
use Rattle.std.proofs.lemmas.List.Elements.{recursion_from_All}
use Rattle.crew_terms.specs.declared.TheConstants.{SKILLS}
use Rattle.dossier_laws.proofs.Skills.{mask_small, skills_again}
use Rattle.dossier_laws.proofs.skills_are_a_set.Goals as goal

pub returns : goal.returns
returns c skills h = let k = recursion_from_All (λ s. s < SKILLS) skills h.known in (mask_small skills h.rising k, skills_again skills h.rising k)
