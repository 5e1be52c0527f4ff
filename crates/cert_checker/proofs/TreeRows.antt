-- the row of the table for the line `tree`
use Rattle.std.proofs.Common.{◌≡◌, [], map, ap, subst, refl}
use Rattle.std.specs.Prelude.{Ok, Err}
use Rattle.std.specs.Global.{Box}
use Rattle.crew_terms.specs.Words.{Words}
use Rattle.crew_terms.specs.Instance.{Instance}
use Rattle.crew_terms.specs.Limits.{root_limits}
use Rattle.dossier_terms.specs.declared.Reason.{Reason}
use Rattle.dossier_terms.specs.Lines.{tree_line}
use Rattle.dossier_terms.specs.Reading.{Answer, More as Goes, No as Refuses, Nodes, Begun}
use Rattle.crew_terms.specs.declared.TreeCounts.{TreeCounts}
use Rattle.dossier_terms.specs.Rules.{Holds, Spelled, On}
use Rattle.dossier_terms.specs.Ranges.{IsCounts}
use Rattle.dossier_terms.specs.BodyTable.{tree_row, after_counts}
use Rattle.node_limits.specs.Rest.{Rest, limits_over, trail_over}
use Rattle.node_limits.specs.Trail.{Trail}
use Rattle.tree_walk.specs.Way.{Walked, IsAt}
use Rattle.cert_checker.specs.Due.{Awaits, IsRoot, Tells, draft_of}
use Rattle.cert_checker.specs.Rules.{TellsCounts}
use Rattle.cert_checker.specs.declared.due.BegunDossier.{BegunDossier as Held}
use Rattle.cert_checker.specs.declared.due.Due.{Due}
use Rattle.cert_checker.specs.declared.due.Step.TheVariants.{More}

tree_says : (b : Begun) (c : TreeCounts) (ws : Words) (said : Answer) → IsCounts c → ws ≡ tree_line c
    → after_counts b c said → tree_row b ws said
tree_says b c ws said fits is rest = Holds (_, is, refl) (Spelled c fits is rest)

pub tree_faulty : (b : Box Held) (claimed : TreeCounts) (ws : Words) (reason : Reason) → IsCounts claimed
    → ws ≡ tree_line claimed → TellsCounts (draft_of b.value) claimed (Err reason)
    → Tells (tree_row (draft_of b.value) ws) (Err reason)
tree_faulty b claimed ws reason fits is broken = tree_says (draft_of b.value) claimed ws (Refuses reason) fits is broken

-- the numbers of a tree break no rule, and its root is due
pub tree_begun : (b : Box Held) (claimed : TreeCounts) (due : Due) (ws : Words) → IsCounts claimed → ws ≡ tree_line claimed → TellsCounts (draft_of b.value) claimed (Ok tt)
    → Awaits due (Nodes (draft_of b.value) claimed []) → Tells (tree_row (draft_of b.value) ws) (Ok (More due))
tree_begun b claimed due ws fits is good awaits =
    let root = Nodes (draft_of b.value) claimed [] in
    (root, tree_says (draft_of b.value) claimed ws (Goes root) fits is (good (Goes root) (On refl)), awaits)

-- a walk begins at the root
pub at_root : (i : Instance) (limits : Rest) (walk : Walked) → IsRoot i limits → ((t : Trail) → t.past ≡ [] → IsAt t.limits t walk []) → IsAt (root_limits i) (trail_over i limits) walk []
at_root i limits walk root begins = subst (λ n. IsAt n (trail_over i limits) walk []) root.root (begins (trail_over i limits) (ap (map (limits_over i)) root.past))
