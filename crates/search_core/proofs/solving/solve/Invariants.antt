use Rattle.std.proofs.Common.{◌≡◌, List}
use Rattle.std.specs.Prelude.{option_copied}
use Rattle.crew_terms.specs.Limits.{Route}
use Rattle.plan_again.specs.Stays.{StaysOrBetters}
use Rattle.search_tree.specs.Aged.{leaves_of}
use Rattle.search_core.specs.Searching.{state_of}
use Rattle.search_core.specs.Shown.{AreLoosePriced, AreShown}
use Rattle.search_core.specs.Solved.{IsGrown}
use Rattle.search_terms.specs.BestFirst.{IsBestFirst}
use Rattle.search_terms.specs.Search.{IsSearchRun}
use Rattle.search_core.proofs.solving.solve.Given as goal

abbrev pub invariant-loop-key : goal.invariant-loop-key
invariant-loop-key g l = record {
  run : (held : List Route) → IsSearchRun l.instance l.nodes (g.C.Columns.columns l.initial.columns) (g.C.Columns.columns l.columns) (state_of held l.search);
  order : (held : List Route) → IsBestFirst l.instance l.nodes (g.C.Columns.columns l.initial.columns) (g.C.Columns.columns l.columns) (state_of held l.search)
      (leaves_of l.search.keyed);
  instance : l.search.instance ≡ l.instance;
  priced : AreLoosePriced (g.C.Columns.columns l.columns) l.search;
  shown : AreShown (g.C.Columns.columns l.columns) l.search;
  stays : StaysOrBetters (option_copied l.initial.begin) l.search.plan;
  grown : IsGrown (g.C.Columns.columns l.initial.columns) (g.C.Columns.columns l.columns);
}

abbrev pub decreases-loop-key : goal.decreases-loop-key
decreases-loop-key g l = l.search.left
