-- the dossier that stands first in a bundle
use Rattle.std.specs.Prelude.{◌≡◌, ◌≤◌, ◌<◌, ℕ, List, ◌∷◌, []}
use Rattle.crew_terms.specs.Instance.{Instance}
use Rattle.crew_terms.specs.Leaf.{zero_prices}
use Rattle.crew_terms.specs.Limits.{root_limits}
use Rattle.crew_terms.specs.Plan.{Plan, unassigned_count}
use Rattle.branch_tree.specs.declared.tree.LeafState.TheVariants as states
use Rattle.branch_tree.specs.declared.tree.Node.{Node}
use Rattle.branch_tree.specs.declared.tree.Node.TheVariants as nodes
use Rattle.cert_write.specs.Given.{IsPriced}
use Rattle.dossier_terms.specs.Dossier.{Dossier, IsGood}
use Rattle.dossier_terms.specs.Lines.{text_of}
use Rattle.bundle_join.specs.declared.day.Day.{Day}
use Rattle.bundle_join.specs.declared.first.First.{First}

-- what is told of the day is of this good dossier
pub record IsDayOf (day : Day) (d : Dossier) : Type 0 where
  pub good : IsGood d
  pub instance : day.instance.now ≡ d.instance
  pub text : day.text.now ≡ text_of d
  pub unassigned : day.unassigned ≡ unassigned_count d.plan
  pub bound : day.bound ≡ d.bound

-- one leaf that is open at prices that are all 0
pub record IsOpenRoot (i : Instance) (tree : List Node) : Type 0 where
  pub is : tree ≡ nodes.Leaf states.Open (zero_prices (root_limits i)) ∷ []
  pub priced : IsPriced (root_limits i) (zero_prices (root_limits i))

-- a good dossier of the instance and the plan
pub record IsPlanned (i : Instance) (p : Plan) (e : Dossier) : Type 0 where
  pub good : IsGood e
  pub instance : e.instance ≡ i
  pub plan : e.plan ≡ p
  pub bound : e.bound ≡ 0

-- a good dossier of the day whose plan leaves fewer tasks
pub record IsBetter (d e : Dossier) : Type 0 where
  pub good : IsGood e
  pub instance : e.instance ≡ d.instance
  pub fewer : unassigned_count e.plan < unassigned_count d.plan

-- the day's own dossier, or one whose plan leaves fewer tasks, where the sum of the parts' bounds is no less than the day's own bound
pub data IsChosen (d : Dossier) (sum : ℕ) (e : Dossier) : Type 0 where
  Own : (is : e ≡ d) → IsChosen d sum e
  Joined : (better : IsBetter d e) (proves : d.bound ≤ sum) → IsChosen d sum e

-- what is told of the first dossier is so
pub record IsFirst (e : Dossier) (first : First) : Type 0 where
  pub text : first.text.items ≡ text_of e
  pub unassigned : first.unassigned ≡ unassigned_count e.plan
  pub bound : first.bound ≡ e.bound
