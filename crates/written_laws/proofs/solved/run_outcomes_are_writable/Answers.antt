use Rattle.std.proofs.Common.{◌≡◌, ◌∙◌, ℕ, List, length, ap, sym, subst, arith}
use Rattle.std.specs.Prelude.{All, ◌==◌}
use Rattle.std.proofs.lemmas.Bool.{eqb-true}
use Rattle.std.proofs.lemmas.List.{length-map}
use Rattle.branch_tree.specs.declared.tree.Node.{Node}
use Rattle.crew_terms.specs.Limits.{root_limits}
use Rattle.search_core.specs.Counts.{causes_count}
use Rattle.search_core.specs.Searching.{split_cause}
use Rattle.search_terms.specs.Search.{best}
use Rattle.search_core.specs.Outline.{handed_out}
use Rattle.search_core.specs.Visited.{HasPricesOf}
use Rattle.written_laws.specs.Proved.{proved_is_writable}
use Rattle.written_laws.proofs.SolvedTrees.{outline_splits, proved_with}
use Rattle.written_laws.proofs.solved.run_outcomes_are_writable.Goals as goal

pub returns-clause-tree : goal.returns-clause-tree
returns-clause-tree x = λ i budget pool s o run out.
    let sound = x.run_is_sound.ensures i budget s o.bound run out.bound.proved in
    let less = out.bound.proved.plan in
    let bare = best s == 0 in
    proved_is_writable (root_limits i) o.bound (best s) (handed_out s)
    (proved_with s.tree sound.0 (root_limits i) o.bound (best s) bare (λ none. let z = eqb-true (best s) 0 none in omega arith) sound.1 sound.2
    (subst (λ (xs : List Node). All (HasPricesOf (root_limits i)) xs) out.tree out.prices))

pub returns-clause-causes : goal.returns-clause-causes
returns-clause-causes x = λ i pool s o out.
    let a = outline_splits s.tree (best s == 0) in
    let e = ap length out.causes in
    let f = length-map o.causes.items (split_cause pool) in
    let h = causes_count s.tree in
    omega arith
