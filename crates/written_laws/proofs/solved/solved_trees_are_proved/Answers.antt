use Rattle.std.proofs.Common.{◌≡◌, ◌≢◌, ◌≤◌, ◌<◌, ◌∙◌, ◌+◌, ◌⊎◌, inl, inr, ℕ, List, length, ap, sym, subst, arith}
use Rattle.std.specs.Prelude.{All, ◌==◌}
use Rattle.std.proofs.lemmas.Bool.{eqb-true}
use Rattle.std.proofs.lemmas.List.{length-map}
use Rattle.branch_tree.specs.Trees.{closed}
use Rattle.branch_tree.specs.declared.tree.Node.{Node}
use Rattle.crew_terms.specs.Branches.{splits}
use Rattle.crew_terms.specs.Limits.{root_limits}
use Rattle.crew_terms.specs.Plan.{Plan, unassigned_count}
use Rattle.search_core.specs.Counts.{causes_count, few_unassigned}
use Rattle.search_core.specs.Searching.{split_cause}
use Rattle.search_core.specs.Steps.{IsDone}
use Rattle.search_terms.specs.Search.{IsBound, IsKeepable, SearchState, best}
use Rattle.search_terms.specs.SearchTree.{closed_leaves}
use Rattle.search_core.specs.Outline.{handed_out}
use Rattle.search_core.specs.Visited.{HasPricesOf}
use Rattle.written_laws.specs.Proved.{IsProvedTree}
use Rattle.written_laws.proofs.SolvedTrees.{outline_closed, outline_splits, proved_with}
use Rattle.written_laws.proofs.solved.solved_trees_are_proved.Goals as goal

pub returns : goal.returns
returns x = λ i nodes kept pool o solved.
    let s : SearchState = solved.state in
    let out = solved.outcome in
    let run = x.search_run_is_run.ensures i nodes kept pool s solved.run in
    let keep : IsKeepable i s.plan = x.run_keeps.ensures.plan i nodes s run in
    let count = x.run_keeps.ensures.count i nodes s run in
    let sound = x.run_is_sound.ensures i nodes s o.bound run out.bound.proved in
    let same : unassigned_count o.plan ≡ best s = ap unassigned_count out.plan in
    let less = out.bound.proved.plan in
    let few = few_unassigned i s.plan keep in
    let bare = best s == 0 in
    let a = outline_splits s.tree bare in
    let b = outline_closed s.tree bare in
    let e = ap length out.causes in
    let f = length-map o.causes.items (split_cause pool) in
    let h = causes_count s.tree in
    let full : IsDone i s → o.bound < best s → s.left ≡ 0 =
    λ (done : IsDone i s) (below : o.bound < best s). elim done [
      | inl proved ↦ absurd (let g = out.bound.greatest (best s) proved.proved in omega arith)
      | inr none ↦ none
    ] in
    record {
      plan = subst (λ (p : Plan). IsKeepable i p) (sym out.plan) keep;
      least = omega arith;
      bound = omega arith;
      tree = handed_out s;
      nodes = out.tree;
      proved = subst (λ (u : ℕ). IsProvedTree (root_limits i) o.bound u (handed_out s)) (sym same)
          (proved_with s.tree sound.0 (root_limits i) o.bound (best s) bare (λ none. let z = eqb-true (best s) 0 none in omega arith) sound.1 sound.2
          (subst (λ (xs : List Node). All (HasPricesOf (root_limits i)) xs) out.tree out.prices));
      causes = omega arith;
      within = omega arith;
      spent = λ below. let z = full solved.done (omega arith) in omega arith;
    }
