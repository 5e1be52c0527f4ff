-- the dossiers of rounds: what each holds, and what it hands on to the next
use Rattle.std.specs.Prelude.{◌≡◌, ◌≤◌, ℕ, List, [], ◌∷◌, map, take}
use Rattle.crew_terms.specs.Plan.{Plan, unassigned_count}
use Rattle.crew_terms.specs.Legal.{IsLegal, IsPacked}
use Rattle.crew_terms.specs.Limits.{Limits, Route, root_limits}
use Rattle.crew_terms.specs.Branches.{LeafNode, SplitNode, Claim, Bare, Open, Closed}
use Rattle.crew_terms.specs.Tree.{Tree, Priced, child}
use Rattle.crew_terms.specs.declared.Side.TheVariants.{First, Second}
use Rattle.dossier_terms.specs.declared.DossierForm.TheVariants.{Two}
use Rattle.dossier_terms.specs.Dossier.{Dossier, IsGood, tree_of}
use Rattle.route_terms.specs.Named.{NamedRoute, by_names}
use Rattle.route_terms.specs.Kept.{AreKeptIn}
use Rattle.search_terms.specs.Proven.{PricesProve}
use Rattle.cert_write.specs.Dossiers.{causes_of}
use Rattle.search_terms.specs.Caused.{IsCaused}
use Rattle.search_terms.specs.Search.{SearchOutcome}
use Rattle.search_terms.specs.SearchTree.{SplitCause}
use Rattle.written_laws.specs.Told.{Tell}
use Rattle.day_terms.specs.Rounds.{Round}

-- ---- what the leaves prove that are not closed

-- the leaf is closed, or it is open and its prices prove l, or it is bare and l is 0
abbrev pub LeftProves : Limits → ℕ → Claim Priced → Type 0
LeftProves n l Bare = l ≡ 0
LeftProves n l (Open leaf) = PricesProve n leaf.prices l
LeftProves n l (Closed leaf) = Unit {0}

-- each bare and open leaf of the tree proves l in its node
abbrev pub EachLeftProves : Limits → ℕ → Tree → Type 0
EachLeftProves n l (LeafNode claim) = LeftProves n l claim
EachLeftProves n l (SplitNode choice first second) = EachLeftProves (child n choice First) l first × EachLeftProves (child n choice Second) l second

-- the plan leaves at least l tasks unassigned, and each bare and open leaf proves l
pub record IsLeft (d : Dossier) (l : ℕ) : Type 0 where
  pub plan : l ≤ unassigned_count d.plan
  pub leaves : EachLeftProves (root_limits d.instance) l (tree_of (root_limits d.instance) d.tree)

-- the bound is the least of what the plan leaves unassigned and of what the bare and open leaves prove
pub record IsLeastLeft (d : Dossier) : Type 0 where
  pub left : IsLeft d d.bound
  pub greatest : (l : ℕ) → IsLeft d l → l ≤ d.bound

-- ---- a round's dossier

-- the routes that the round keeps
abbrev pub kept_of : Dossier → List Route
kept_of d = take d.kept d.pool

-- the routes of the pool by names, which the next round is handed
abbrev pub handed_on : Dossier → List NamedRoute
handed_on d = map (by_names d.instance) d.pool

-- the dossier's plan, tree and pool
abbrev pub outcome_of : Dossier → SearchOutcome
outcome_of d = record { plan = d.plan; tree = tree_of (root_limits d.instance) d.tree; pool = d.pool }

-- a dossier of the round, which is handed these routes: a good one of its instance and its budget. Its plan is packed, and
-- no legal plan leaves fewer tasks unassigned than its bound. It keeps the routes that are routes at its root, and a run of
-- the search that begins with these made its plan, its tree and its pool. It tells why each node was split, and each split shows
-- that by the search over the pool
pub record IsRoundDossier (handed : List NamedRoute) (round : Round) (d : Dossier) : Type 0 where
  pub good : IsGood d
  pub form : d.form ≡ Two
  pub instance : d.instance ≡ round.instance
  pub budget : d.budget ≡ round.nodes
  pub legal : IsLegal d.instance d.plan
  pub packed : IsPacked d.instance d.plan
  pub least : (p : Plan) → IsLegal d.instance p → d.bound ≤ unassigned_count p
  pub bound : IsLeastLeft d
  pub kept : AreKeptIn (root_limits d.instance) handed (kept_of d)
  pub causes : List SplitCause
  pub told : Tell d.pool (causes_of d.tree) causes
  pub caused : IsCaused d.instance d.budget (kept_of d) (outcome_of d) causes

-- a dossier for each of the rounds, in order: the first is handed these routes, and each further one those of the pool
-- before it
abbrev pub AreRoundDossiers : List NamedRoute → List Round → List Dossier → Type 0
AreRoundDossiers handed [] [] = Unit {0}
AreRoundDossiers handed [] (d ∷ ds) = ⊥
AreRoundDossiers handed (round ∷ rounds) [] = ⊥
AreRoundDossiers handed (round ∷ rounds) (d ∷ ds) = IsRoundDossier handed round d × AreRoundDossiers (handed_on d) rounds ds
