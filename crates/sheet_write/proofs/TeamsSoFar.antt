-- what is written of the teams so far
use Rattle.std.proofs.Common.{◌≡◌, ◌<◌, ◌+◌, ◌++◌, ◌∷◌, [], ℕ, suc, List, ap, sym, subst, refl, ◌∙◌, arith}
use Rattle.std.specs.Prelude.{Result, Ok, Err, IsErr}
use Rattle.crew_terms.specs.Limits.{Limits, teams_in}
use Rattle.crew_io.specs.Chains.{fine, puts_done, puts_front, puts_nothing, puts_same, puts_then}
use Rattle.crew_io.specs.Puts.{Puts}
use Rattle.crew_io.specs.declared.sink.Sink.{Ghosts}
use Rattle.dossier_out.specs.Tables.{team_lines}
use Rattle.dossier_out.specs.Texts.{front_of, text}
use Rattle.dossier_terms.specs.Dossier.{Potentials}
use Rattle.dossier_terms.specs.Lines.{table_lines}
use Rattle.dossier_terms.specs.declared.DossierForm.TheVariants.{Two}
use Rattle.squeeze_terms.specs.MinutePrices.{MinutePrices}
use Rattle.sheet_write.specs.Teams.{AreTeamTables, PutsTeam, PutsTeams}
use Rattle.sheet_write.proofs.Tables.{tables_append}
use Rattle.sheet_write.proofs.Texts.{text_further, text_more}

-- the lines of the first k teams are written
pub record TeamsSoFar {K : Type 0} (sink : Ghosts K) (n : Limits) (p : MinutePrices) (k : ℕ) (old new : K) : Type 0 where
  pub tables : List Potentials
  pub are : AreTeamTables n p 0 k tables
  pub puts : Puts sink (text (table_lines Two n 0 tables)) old new fine

module _ {K : Type 0} (sink : Ghosts K) (n : Limits) (p : MinutePrices) where
  pub no_team_yet : (old : K) → TeamsSoFar sink n p 0 old old
  no_team_yet old = record { tables = []; are = refl; puts = puts_nothing sink old }

  pub one_team_more : {T E : Type 0} (k : ℕ) (old mid new : K) (x : T) → TeamsSoFar sink n p k old mid → PutsTeam {E = E} sink n p k mid new (Ok x) → TeamsSoFar sink n p (k + 1) old new
  one_team_more k old mid new x so_far team = record {
    tables = so_far.tables ++ team.table ∷ [];
    are = tables_append n p 0 k (k + 1) so_far.tables (team.table ∷ []) so_far.are (team.is, (let e : suc k ≡ k + 1 = omega arith in e));
    puts =
        puts_done sink _ old new x tt
        (puts_same sink _ _ old new _ (text_more n p k so_far.tables team.table so_far.are) (puts_then sink _ _ old mid new tt _ so_far.puts team.puts));
  }

  pub all_teams : {T E : Type 0} (k : ℕ) (old new : K) (x : T) → k ≡ teams_in n → TeamsSoFar sink n p k old new → PutsTeams {E = E} sink n p old new (Ok x)
  all_teams k old new x e so_far = record {
    tables = so_far.tables;
    are = subst (λ past. AreTeamTables n p 0 past so_far.tables) e so_far.are;
    puts = puts_done sink _ old new tt x so_far.puts;
  }

  -- a write failed in the lines of team k; these are the tables of the teams behind it
  pub team_fails : {T E U F : Type 0} (k : ℕ) (old mid new : K) (e : E) (result : Result U F) → IsErr result → TeamsSoFar sink n p k old mid → PutsTeam {T = T} sink n p k mid new (Err e)
      → (us : List Potentials) → AreTeamTables n p (suc k) (teams_in n) us → PutsTeams sink n p old new result
  team_fails k old mid new e result fails so_far team us rest = record {
    tables = so_far.tables ++ team.table ∷ us;
    are = tables_append n p 0 k (teams_in n) so_far.tables (team.table ∷ us) so_far.are (team.is, rest);
    puts =
        puts_front sink (text (table_lines Two n 0 so_far.tables) ++ text (team_lines n k team.table)) _ old new e result fails
        (puts_then sink _ _ old mid new tt _ so_far.puts team.puts)
        (front_of _ (text (table_lines Two n (suc k) us)) _ (text_further n p k so_far.tables us team.table so_far.are));
  }

-- the same of other limits that are the same
pub at_root : {K T E : Type 0} (sink : Ghosts K) (n m : Limits) (p : MinutePrices) (old new : K) (result : Result T E) → n ≡ m → PutsTeams sink n p old new result → PutsTeams sink m p old new result
at_root sink n m p old new result e = subst (λ x. PutsTeams sink x p old new result) e
