-- what a search shows of the causes of its splits
use Rattle.std.specs.Prelude.{◌≡◌, ◌≤◌, ◌<ℤ◌, ◌*ℤ◌, ◌*◌, ◌+◌, ℕ, zero, suc, pos, List}
use Rattle.crew_terms.specs.Instance.{Instance}
use Rattle.crew_terms.specs.Limits.{Limits, Route, root_limits, tasks_in}
use Rattle.crew_terms.specs.Leaf.{Prices}
use Rattle.crew_terms.specs.declared.TheConstants.{D}
use Rattle.share_terms.specs.declared.TheConstants.{MARGIN}
use Rattle.search_terms.specs.declared.TheConstants.{PIVOTS}
use Rattle.share_terms.specs.Shares.{FractionalChoice, choice_value}
use Rattle.search_terms.specs.Proven.{PricesProve}
use Rattle.search_terms.specs.Earned.{Why, Loose, Overflowed, Spent, RunIsSpent, RunOverflows}
use Rattle.search_terms.specs.SearchTree.{SearchTree, SplitCause, EachOpen, EachSplit, causes}
use Rattle.search_terms.specs.Search.{SearchState, SearchOutcome, IsSearched}

-- the value of a choice, less a thousandth of a task, proves l
abbrev pub NearlyProves : Limits → FractionalChoice → ℕ → Type 0
NearlyProves n c zero = Unit {0}
NearlyProves n c (suc l) = pos ((l * D + MARGIN) * c.whole) <ℤ (pos D *ℤ choice_value n c)

-- what a choice in the node n nearly proves the prices prove in the node m
abbrev pub ProveNearly : Limits → FractionalChoice → Limits → Prices → Type 0
ProveNearly n c m prices = (l : ℕ) → NearlyProves n c l → (l ≤ tasks_in n) × PricesProve m prices l

-- each open leaf from a loose split on proves what the split's choice nearly proves
abbrev pub IsLooseShown : Limits → SearchTree → Why → Type 0
IsLooseShown n t (Loose c) = EachOpen (ProveNearly n c) n t
IsLooseShown n t (Overflowed fault) = Unit {0}
IsLooseShown n t Spent = Unit {0}

-- each loose split shows its cause by the open leaves below it
abbrev pub AreLooseShown : Limits → SearchTree → Type 0
AreLooseShown n t = EachSplit (λ m cause u. IsLooseShown m u cause.why) n t

-- the run in the node over the whole pool shows the overflow, or that its pivots are spent
abbrev pub IsRunShown : List Route → Limits → Why → Type 0
IsRunShown pool n (Loose c) = Unit {0}
IsRunShown pool n (Overflowed fault) = RunOverflows n PIVOTS pool fault
IsRunShown pool n Spent = RunIsSpent n PIVOTS pool

-- each split with another cause shows it by its run
abbrev pub AreRunsShown : List Route → Limits → SearchTree → Type 0
AreRunsShown pool n t = EachSplit (λ m cause u. IsRunShown pool m cause.why) n t

-- a loose split's prices prove in its node what its choice nearly proves
abbrev pub LooseProves : Limits → Prices → Why → Type 0
LooseProves n found (Loose c) = ProveNearly n c n found
LooseProves n found (Overflowed fault) = Unit {0}
LooseProves n found Spent = Unit {0}

-- a run of the search made the outcome, with these causes of its splits in preorder, and each split shows its own
pub record IsCaused (i : Instance) (budget : ℕ) (kept : List Route) (outcome : SearchOutcome) (whys : List SplitCause) : Type 0 where
  pub state : SearchState
  pub searched : IsSearched i budget kept outcome state
  pub causes : whys ≡ causes state.tree
  pub loose : AreLooseShown (root_limits i) state.tree
  pub runs : AreRunsShown outcome.pool (root_limits i) state.tree
