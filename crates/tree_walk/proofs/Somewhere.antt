-- a walk that stands at a node of some tree
use Rattle.std.proofs.Common.{◌≡◌, Bool, false, [], ◌∷◌, ◌∙◌}
use Rattle.crew_terms.specs.Branches.{InFirst}
use Rattle.crew_terms.specs.declared.Choice.{Choice}
use Rattle.dossier_terms.specs.Causes.{NoCause}
use Rattle.dossier_terms.specs.declared.DossierForm.TheVariants.{One}
use Rattle.dossier_terms.specs.Reading.{nothing, Begun}
use Rattle.crew_terms.specs.declared.TreeCounts.{TreeCounts}
use Rattle.node_limits.specs.Trail.{Trail}
use Rattle.tree_walk.specs.Way.{Walked, Enters, IsAt, IsSomewhere, LeavesLeaf}
use Rattle.tree_walk.proofs.Leaves.{some_leaf}

some_draft : Begun
some_draft = record { form = One; instance = nothing; budget = 0; kept = 0; pool = []; plan = []; bound = 0 }

some_counts : TreeCounts
some_counts = record { splits = 0; closed = 0; left_open = 0; depth = 0 }

pub at_root : (t : Trail) (w : Walked) → ((u : Trail) → u.past ≡ [] → IsAt u.limits u w []) → t.past ≡ [] → IsSomewhere t w
at_root t w at fresh = (t.limits, [], at t fresh)

-- into a first child, where the limits have more room than before
pub entered : (choice : Choice) (t old new : Trail) (from to : Walked) → Enters choice old from new to → old.limits ≡ t.limits → old.past ≡ t.past → IsSomewhere t from → IsSomewhere new to
entered choice t old new from to enters limits past (root, fs, at) =
    let way = at.way in
    let here : IsAt root old from fs = record {
      way = record { limits = limits ∙ way.limits; past = past ∙ way.past; splits = way.splits; kept = way.kept };
      seen = at.seen;
    } in
    (root, InFirst (record { choice = choice; cause = NoCause }) ∷ fs, enters root fs NoCause here)

-- past a leaf, where the tree is not whole
pub went_on : (is_closed : Bool) (old new : Trail) (from to : Walked) → LeavesLeaf is_closed old from new to false → IsSomewhere old from → IsSomewhere new to
went_on is_closed old new from to leaves (root, fs, at) =
    let leaf = some_leaf is_closed in
    let next = leaves root fs leaf.0 some_draft some_counts at leaf.1 in
    (root, next.0, next.2)
