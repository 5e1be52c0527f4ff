-- the worths and the potentials of the teams, as they are written
use Rattle.std.specs.Prelude.{◌≡◌, ℕ, suc, List, [], ◌∷◌, Result}
use Rattle.std.specs.List.{flat_map}
use Rattle.crew_terms.specs.Leaf.{HoldsLocally, IsWorth}
use Rattle.crew_terms.specs.Limits.{Limits, teams_in}
use Rattle.crew_terms.specs.Words.{line_text}
use Rattle.crew_io.specs.Puts.{Puts}
use Rattle.crew_io.specs.declared.sink.Sink.{Ghosts}
use Rattle.dossier_out.specs.Tables.{team_lines}
use Rattle.dossier_terms.specs.Dossier.{IsTable, Potentials, phi_in}
use Rattle.dossier_terms.specs.Lines.{table_lines}
use Rattle.dossier_terms.specs.declared.DossierForm.TheVariants.{Two}
use Rattle.squeeze_terms.specs.MinutePrices.{MinutePrices, minute_price}

-- the worth of team k by minute prices, with potentials that hold
pub record IsTeamTable (n : Limits) (p : MinutePrices) (k : ℕ) (t : Potentials) : Type 0 where
  pub table : IsTable n k t
  pub worth : IsWorth n k (minute_price n.instance p) t.worth
  pub holds : HoldsLocally n k (minute_price n.instance p) (phi_in n k t) t.worth

-- those of the teams from k on, up to team `past`
abbrev pub AreTeamTables : Limits → MinutePrices → ℕ → ℕ → List Potentials → Type 0
AreTeamTables n p k past [] = k ≡ past
AreTeamTables n p k past (t ∷ ts) = IsTeamTable n p k t × AreTeamTables n p (suc k) past ts

-- the call writes the lines of team k: all of them, or after a fault a front of them
pub record PutsTeam {K T E : Type 0} (sink : Ghosts K) (n : Limits) (p : MinutePrices) (k : ℕ) (old new : K) (result : Result T E) : Type 0 where
  pub table : Potentials
  pub is : IsTeamTable n p k table
  pub puts : Puts sink (flat_map line_text (team_lines n k table)) old new result

-- the same of all teams
pub record PutsTeams {K T E : Type 0} (sink : Ghosts K) (n : Limits) (p : MinutePrices) (old new : K) (result : Result T E) : Type 0 where
  pub tables : List Potentials
  pub are : AreTeamTables n p 0 (teams_in n) tables
  pub puts : Puts sink (flat_map line_text (table_lines Two n 0 tables)) old new result
