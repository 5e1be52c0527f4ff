-- the dossier of its parts: what is written of them
use Rattle.std.proofs.Common.{ap, ◌∙◌}
use Rattle.std.specs.Prelude.{◌≡◌, ◌<◌, ◌+◌, ◌++◌, ℕ, suc, ℤ, pos, List, [], ◌∷◌, Result, Ok, Err, length, map, slice_index_or}
use Rattle.crew_terms.specs.Limits.{Limits, root_limits, teams_in}
use Rattle.crew_terms.specs.Minutes.{first_minute, minute_count, open_tasks, priced, required_teams}
use Rattle.crew_terms.specs.Leaf.{Prices, IsWorth, rho_of, earned}
use Rattle.crew_terms.specs.Branches.{LeafNode, SplitNode, Claim, Bare, Open, Closed}
use Rattle.crew_terms.specs.Tree.{child}
use Rattle.crew_terms.specs.declared.Side.TheVariants.{First, Second}
use Rattle.dossier_terms.specs.Causes.{Cause}
use Rattle.dossier_terms.specs.Dossier.{Dossier, Written, Leaf, Potentials}
use Rattle.dossier_terms.specs.Lines.{text_of}
use Rattle.dossier_terms.specs.declared.DossierForm.TheVariants.{Two}
use Rattle.branch_tree.specs.Trees.{BranchTree, ClaimedLeaf, preorder}
use Rattle.branch_tree.specs.declared.tree.LeafState.TheVariants as states
use Rattle.crew_io.specs.Puts.{Puts}
use Rattle.crew_io.specs.declared.sink.Sink.{Ghosts}
use Rattle.label_pricing.specs.Best.{IsBest}
use Rattle.cert_write.specs.Given.{Given}
use Rattle.cert_write.specs.declared.faults.PutFault.{PutFault}
use Rattle.cert_write.specs.declared.faults.PutFault.TheVariants.{WriteFault, OutOfMemory}

-- a potential for each minute at which team k may begin task j: the most that the team can earn from there on
pub record IsBestRow (n : Limits) (k : ℕ) (p : Prices) (j : ℕ) (row : List ℤ) : Type 0 where
  pub count : length row ≡ minute_count n k j
  pub each : (m : ℕ) → m < length row → IsBest n k (earned p k) j (first_minute n k j + m) (slice_index_or row m (pos 0))

-- such a row for each of these tasks
abbrev pub AreBestRows : Limits → ℕ → Prices → List ℕ → List (List ℤ) → Type 0
AreBestRows n k p [] [] = Unit {0}
AreBestRows n k p [] (row ∷ rows) = ⊥
AreBestRows n k p (j ∷ js) [] = ⊥
AreBestRows n k p (j ∷ js) (row ∷ rows) = IsBestRow n k p j row × AreBestRows n k p js rows

-- the worth of team k, and the potentials that pricing gives
pub record IsPricedTable (n : Limits) (k : ℕ) (p : Prices) (t : Potentials) : Type 0 where
  pub worth : IsWorth n k (earned p k) t.worth
  pub rows : AreBestRows n k p (open_tasks n k) t.phi

-- such tables for the teams from k on
abbrev pub ArePricedTables : Limits → Prices → ℕ → List Potentials → Type 0
ArePricedTables n p k [] = k ≡ teams_in n
ArePricedTables n p k (t ∷ ts) = IsPricedTable n k p t × ArePricedTables n p (suc k) ts

-- the leaf of these prices, with the worths and potentials that pricing gives
pub record IsPricedLeaf (n : Limits) (p : Prices) (leaf : Leaf) : Type 0 where
  pub prices : leaf.prices ≡ p.pi
  pub extras : leaf.extras ≡ map (λ j. map (λ k. rho_of p k j) (required_teams n j)) (priced n)
  pub tables : ArePricedTables n p 0 leaf.tables

-- the leaf claims what is given; a bare one has no numbers
abbrev pub IsPricedClaim : Limits → ClaimedLeaf → Claim Leaf → Type 0
IsPricedClaim n given Bare = given.state ≡ states.Bare
IsPricedClaim n given (Open leaf) = (given.state ≡ states.Open) × IsPricedLeaf n given.prices leaf
IsPricedClaim n given (Closed leaf) = (given.state ≡ states.Closed) × IsPricedLeaf n given.prices leaf

-- the tree that is written has the splits of the tree that is given, and its leaves
abbrev pub IsPricedTree : Limits → BranchTree → Written → Type 0
IsPricedTree n (LeafNode given) (LeafNode claim) = IsPricedClaim n given claim
IsPricedTree n (LeafNode given) (SplitNode split low high) = ⊥
IsPricedTree n (SplitNode choice first second) (LeafNode claim) = ⊥
IsPricedTree n (SplitNode choice first second) (SplitNode split low high) =
    (choice ≡ split.choice) × IsPricedTree (child n choice First) first low × IsPricedTree (child n choice Second) second high

-- the causes of the splits in preorder
abbrev pub causes_of : Written → List Cause
causes_of (LeafNode claim) = []
causes_of (SplitNode split first second) = split.cause ∷ (causes_of first ++ causes_of second)

-- the tree that is written is that of the nodes that are given, with their causes
pub record IsTreeOfGiven (g : Given) (written : Written) : Type 0 where
  pub tree : BranchTree
  pub nodes : g.tree ≡ preorder tree
  pub same : IsPricedTree (root_limits g.instance) tree written
  pub causes : causes_of written ≡ g.causes

-- the dossier of these parts, in form 2
pub record IsDossierOf (g : Given) (d : Dossier) : Type 0 where
  pub form : d.form ≡ Two
  pub instance : d.instance ≡ g.instance
  pub budget : d.budget ≡ g.nodes
  pub kept : d.kept ≡ g.kept
  pub pool : d.pool ≡ g.columns
  pub plan : d.plan ≡ g.plan
  pub bound : d.bound ≡ g.bound
  pub tree : IsTreeOfGiven g d.tree

-- the dossier of these parts with this tree
abbrev pub dossier_with : Given → Written → Dossier
dossier_with g tree = record { form = Two; instance = g.instance; budget = g.nodes; kept = g.kept; pool = g.columns; plan = g.plan; bound = g.bound; tree = tree }

-- it is that of its own tree
pub dossier_is : (g : Given) (d : Dossier) → IsDossierOf g d → d ≡ dossier_with g d.tree
dossier_is g d is =
    ap (λ x. record d { form = x }) is.form
    ∙ ap (λ x. record d { form = Two; instance = x }) is.instance
    ∙ ap (λ x. record d { form = Two; instance = g.instance; budget = x }) is.budget
    ∙ ap (λ x. record d { form = Two; instance = g.instance; budget = g.nodes; kept = x }) is.kept
    ∙ ap (λ x. record d { form = Two; instance = g.instance; budget = g.nodes; kept = g.kept; pool = x }) is.pool
    ∙ ap (λ x. record d { form = Two; instance = g.instance; budget = g.nodes; kept = g.kept; pool = g.columns; plan = x }) is.plan
    ∙ ap (λ x. record d { form = Two; instance = g.instance; budget = g.nodes; kept = g.kept; pool = g.columns; plan = g.plan; bound = x }) is.bound

-- the call writes the dossier of these parts: all of it, or after a write fault a front of it
pub record PutsDossier {K T E : Type 0} (sink : Ghosts K) (g : Given) (old new : K) (result : Result T E) : Type 0 where
  pub dossier : Dossier
  pub parts : IsDossierOf g dossier
  pub puts : Puts sink (text_of dossier) old new result

-- the same; for want of memory nothing is written
abbrev pub WritesDossier : {K : Type 0} → Ghosts K → Given → K → K → Result (Unit {0}) PutFault → Type 0
WritesDossier sink g old new (Ok done) = PutsDossier {T = Unit {0}} {E = PutFault} sink g old new (Ok done)
WritesDossier sink g old new (Err WriteFault) = PutsDossier {T = Unit {0}} {E = PutFault} sink g old new (Err WriteFault)
WritesDossier sink g old new (Err OutOfMemory) = new ≡ old
