use Rattle.std.proofs.Common.{List, subst, sym, map}
use Rattle.dossier_terms.specs.Causes.{Cause as Told}
use Rattle.search_core.specs.Searching.{split_cause}
use Rattle.written_laws.specs.Told.{Tell}
use Rattle.written_laws.proofs.SameCauses.{causes_tell}
use Rattle.written_laws.proofs.solved.told_causes_tell.Goals as goal

pub returns : goal.returns
returns x = λ pool causes told are. subst (λ (ts : List Told). Tell pool ts (map (split_cause pool) causes)) (sym are.each) (causes_tell pool causes)
