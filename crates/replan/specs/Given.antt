-- the parts of a round's dossier
use Rattle.std.specs.Prelude.{◌≡◌, ◌≤◌, ℕ, List, length, take, All}
use Rattle.std.specs.List.{sum_by}
use Rattle.branch_tree.specs.Trees.{IsCountIn, closed, left_open}
use Rattle.crew_terms.specs.Branches.{splits}
use Rattle.crew_terms.specs.Plan.{unassigned_count}
use Rattle.crew_terms.specs.Instance.{Instance}
use Rattle.crew_terms.specs.Limits.{Route}
use Rattle.crew_terms.specs.Rules.{IsInstance}
use Rattle.crew_terms.specs.declared.TheConstants.{MOST_NODES, MOST_NUMBER}
use Rattle.dossier_terms.specs.Causes.{Cause, unshown_in}
use Rattle.dossier_terms.specs.Dossier.{IsPooled}
use Rattle.cert_write.specs.Given.{Given}
use Rattle.column_arena.specs.Columns.{AreColumns}
use Rattle.replan.specs.declared.counts.Counts.{Counts}
use Rattle.search_core.specs.Steps.{IsSolved}
use Rattle.search_core.specs.declared.causes.Outcome.{Outcome}
use Rattle.written_laws.specs.Told.{AreTold}

-- the columns that were kept
abbrev pub kept_in : Given → List Route
kept_in g = take g.kept g.columns

-- the parts are those of an outcome to which the search over the columns comes, from the kept ones on
pub record IsOfOutcome (g : Given) (o : Outcome) : Type 0 where
  pub instance : IsInstance g.instance
  pub nodes : g.nodes ≤ MOST_NODES
  pub kept : g.kept ≤ length g.columns
  pub columns : AreColumns g.columns
  pub few : length g.columns ≤ MOST_NUMBER
  pub pooled : All (IsPooled g.instance) (kept_in g)
  pub solved : IsSolved g.instance g.nodes (kept_in g) g.columns o
  pub plan : g.plan ≡ o.plan
  pub bound : g.bound ≡ o.bound
  pub tree : g.tree ≡ o.tree
  pub causes : AreTold o.causes.items g.causes

-- the numbers of the outcome's plan and tree, and of the causes
pub record AreNumbersOf (g : Given) (o : Outcome) (c : Counts) : Type 0 where
  pub unassigned : c.unassigned ≡ unassigned_count o.plan
  pub bound : c.bound ≡ o.bound
  pub splits : IsCountIn splits o.tree c.splits
  pub closed : IsCountIn closed o.tree c.closed
  pub left_open : IsCountIn left_open o.tree c.left_open
  pub unshown : c.unshown ≡ sum_by unshown_in g.causes

-- the parts of a dossier of the outcome, with these causes
abbrev pub parts_of : Instance → ℕ → ℕ → List Route → Outcome → List Cause → Given
parts_of i nodes kept columns o told = record {
  instance = i;
  nodes = nodes;
  kept = kept;
  columns = columns;
  plan = o.plan;
  bound = o.bound;
  tree = o.tree;
  causes = told;
}
