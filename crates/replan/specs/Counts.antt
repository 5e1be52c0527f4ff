-- the numbers of a dossier
use Rattle.crew_terms.specs.Branches.{splits, closed, left_open}
use Rattle.crew_terms.specs.Plan.{unassigned_count}
use Rattle.dossier_terms.specs.Dossier.{Dossier, unshown}
use Rattle.replan.specs.declared.counts.Counts.{Counts}

-- what the plan leaves unassigned, the bound, and the numbers of the tree
abbrev pub counts_of : Dossier → Counts
counts_of d = record {
  unassigned = unassigned_count d.plan;
  bound = d.bound;
  splits = splits d.tree;
  closed = closed d.tree;
  left_open = left_open d.tree;
  unshown = unshown d.tree;
}
