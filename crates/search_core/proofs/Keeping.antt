-- what always holds of a search, where limits were walked and taken back
use Rattle.std.proofs.Common.{◌≡◌, ◌∙◌, ℕ, List, ap, sym, subst}
use Rattle.crew_terms.specs.Instance.{Instance}
use Rattle.crew_terms.specs.Leaf.{Prices}
use Rattle.crew_terms.specs.Limits.{Limits, root_limits}
use Rattle.crew_terms.specs.Plan.{Plan}
use Rattle.search_tree.specs.Keyed.{Keyed}
use Rattle.label_pricing.specs.Pricing.{HasRoom}
use Rattle.node_limits.specs.Walks.{IsBack}
use Rattle.search_core.specs.Kept.{IsKept, IsKeptSearch, searching}
use Rattle.search_core.specs.Searching.{Searching}
use Rattle.search_core.specs.declared.causes.Cause.{Cause}
use Rattle.search_core.specs.declared.searches.Search.TheInside.{Inside}

abbrev pub search_of : Instance → ℕ → Plan → ℕ → Keyed → List Prices → List Cause → Searching
search_of i budget plan left keyed prices causes = record {
  instance = i;
  budget = budget;
  plan = plan;
  left = left;
  keyed = keyed;
  prices = prices;
  causes = causes;
}

-- the same parts make the same search
pub same_search : (i j : Instance) (budget : ℕ) (plan other : Plan) (left less : ℕ) (keyed k : Keyed) (prices ps : List Prices) (causes cs : List Cause)
    → i ≡ j → plan ≡ other → left ≡ less → keyed ≡ k → prices ≡ ps → causes ≡ cs
    → search_of i budget plan left keyed prices causes ≡ search_of j budget other less k ps cs
same_search i j budget plan other left less keyed k prices ps causes cs a b c d e f =
    ap (λ (x : Instance). search_of x budget plan left keyed prices causes) a
    ∙ ap (λ (x : Plan). search_of j budget x left keyed prices causes) b
    ∙ ap (λ (x : ℕ). search_of j budget other x keyed prices causes) c
    ∙ ap (λ (x : Keyed). search_of j budget other less x prices causes) d
    ∙ ap (λ (x : List Prices). search_of j budget other less k x causes) e
    ∙ ap (λ (x : List Cause). search_of j budget other less k ps x) f

-- what is kept beside the search stays
pub kept_with : (a b : Inside) → IsKept a → IsBack b.limits a.limits → b.pricer.places ≡ a.pricer.places → IsKeptSearch (searching b) → IsKept b
kept_with a b kept back places search = record {
  search = search;
  root = subst (λ (n : Limits). n ≡ root_limits n.instance) (sym back.limits) kept.root;
  unchanged = back.past ∙ kept.unchanged;
  pricer = subst (λ (i : Instance). HasRoom i b.pricer) (ap (λ (n : Limits). n.instance) (sym back.limits)) (kept.pricer ∙ sym places);
}
