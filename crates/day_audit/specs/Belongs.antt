-- when dossiers belong to a day
use Rattle.std.specs.Prelude.{◌≡◌, ◌≢◌, List, [], ◌∷◌, map, take}
use Rattle.crew_terms.specs.Limits.{Route, root_limits}
use Rattle.crew_terms.specs.Plan.{Plan}
use Rattle.dossier_terms.specs.Dossier.{Dossier, IsGood}
use Rattle.route_terms.specs.Named.{NamedRoute, by_names}
use Rattle.route_terms.specs.Kept.{AreKeptIn}
use Rattle.day_terms.specs.State.{start_with}
use Rattle.day_terms.specs.Refusal.{AreTaken}
use Rattle.day_terms.specs.Rounds.{Round, rounds_of}
use Rattle.day_terms.specs.declared.Entry.{Entry}
use Rattle.day_audit.specs.declared.audit.Fit.{Fit}
use Rattle.day_audit.specs.declared.audit.Fit.TheVariants as fits

-- the routes that the dossier keeps from the round before
abbrev pub kept_of : Dossier → List Route
kept_of d = take d.kept d.pool

-- the routes of its pool by names, which the next round is handed
abbrev pub handed_on : Dossier → List NamedRoute
handed_on d = map (by_names d.instance) d.pool

-- the dossier's kept routes are those of the handed ones that are routes at the root of the round
abbrev pub KeepsHanded : List NamedRoute → Round → Dossier → Type 0
KeepsHanded handed round d = AreKeptIn (root_limits round.instance) handed (kept_of d)

-- the dossier belongs to the round, which is handed these routes: it is good, its instance is the round's, with all frozen
-- jobs, its budget is the round's, and it keeps those of the routes that the round keeps
pub record BelongsToRound (handed : List NamedRoute) (round : Round) (d : Dossier) : Type 0 where
  pub good : IsGood d
  pub instance : d.instance ≡ round.instance
  pub budget : d.budget ≡ round.nodes
  pub kept : KeepsHanded handed round d

-- a dossier for each of the rounds, in order: the first is handed these routes, and each further one those of the pool
-- before it
abbrev pub BelongToRounds : List NamedRoute → List Round → List Dossier → Type 0
BelongToRounds handed [] [] = Unit {0}
BelongToRounds handed [] (d ∷ ds) = ⊥
BelongToRounds handed (round ∷ rounds) [] = ⊥
BelongToRounds handed (round ∷ rounds) (d ∷ ds) = BelongsToRound handed round d × BelongToRounds (handed_on d) rounds ds

-- the plans of the dossiers
abbrev pub plans_of : List Dossier → List Plan
plans_of ds = map (λ (d : Dossier). d.plan) ds

-- the dossiers belong to the day of these entries: with their plans it takes each entry, and there is one for each of its
-- rounds. The first keeps no route
pub record BelongToDay (entries : List Entry) (ds : List Dossier) : Type 0 where
  pub taken : AreTaken (start_with (plans_of ds)) entries
  pub rounds : BelongToRounds [] (rounds_of (plans_of ds) entries) ds

-- what is told of a good dossier beside a round: it belongs to it, or else the first that differs
abbrev pub IsFit : List NamedRoute → Round → Dossier → Fit → Type 0
IsFit handed round d fits.Fits = BelongsToRound handed round d
IsFit handed round d fits.Instance = d.instance ≢ round.instance
IsFit handed round d fits.Nodes = (d.instance ≡ round.instance) × (d.budget ≢ round.nodes)
IsFit handed round d fits.Kept = (d.instance ≡ round.instance) × (d.budget ≡ round.nodes) × (KeepsHanded handed round d → ⊥)
