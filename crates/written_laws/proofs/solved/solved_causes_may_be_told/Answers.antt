use Rattle.std.proofs.Common.{◌∙◌, List, ap, length, map, subst, sym}
use Rattle.std.proofs.lemmas.List.{length-map}
use Rattle.branch_tree.specs.Trees.{BranchTree}
use Rattle.crew_terms.specs.Limits.{root_limits}
use Rattle.crew_terms.specs.Plan.{unassigned_count}
use Rattle.dossier_terms.specs.Causes.{Cause}
use Rattle.search_core.specs.Outline.{handed_out}
use Rattle.written_laws.specs.Proved.{AreCauses}
use Rattle.written_laws.specs.Told.{told_of}
use Rattle.written_laws.proofs.Told.{causes_may}
use Rattle.written_laws.proofs.solved.solved_causes_may_be_told.Goals as goal

pub returns-clause-causes : goal.returns-clause-causes
returns-clause-causes x = λ i nodes kept pool o tree told solved few is are.
    let u = unassigned_count o.plan in
    let t = handed_out solved.state in
    let same = x.one_tree.ensures t tree (sym solved.outcome.tree ∙ is) in
    subst (λ (cs : List Cause). AreCauses pool u (root_limits i) tree cs) (sym are.each)
    (subst (λ (v : BranchTree). AreCauses pool u (root_limits i) v (map told_of o.causes.items)) same
    (causes_may pool u few (root_limits i) t o.causes.items solved.shown are.range))

pub returns-clause-count : goal.returns-clause-count
returns-clause-count x = λ o told are. ap length are.each ∙ length-map o.causes.items told_of
