-- what the verdict on a team's rules says of its last line
use Rattle.std.proofs.Common.{◌≡◌, ℕ, suc, ℤ, List, [], ◌∷◌, ◌++◌, length, sym, subst}
use Rattle.std.specs.Prelude.{Result}
use Rattle.crew_terms.specs.Instance.{Instance}
use Rattle.crew_terms.specs.Limits.{Limits, root_limits}
use Rattle.dossier_terms.specs.Dossier.{Potentials, phi_in}
use Rattle.dossier_terms.specs.declared.Reason.TheVariants.{Potential, Worth as LowWorth}
use Rattle.line_in.specs.declared.refusals.Refusal.{Refusal}
use Rattle.potentials.specs.Rules.{IsLocalVerdict}
use Rattle.potentials.specs.declared.rules.LocalVerdict.{LocalVerdict}
use Rattle.potentials.specs.declared.rules.LocalVerdict.TheVariants as verdicts
use Rattle.squeeze_terms.specs.MinutePrices.{minute_price}
use Rattle.minute_rules.specs.Rules.{phi_by}
use Rattle.sheet_lines.specs.Rows.{HasRowsBefore}
use Rattle.sheet_terms.specs.Reading.{SheetAnswer, No as Refuses}
use Rattle.sheet_terms.specs.Table.{after_steps, after_team}
use Rattle.sheet_reader.specs.Reader.{HasTable, HasTables, HasWorths, SheetTells, sheet_of}
use Rattle.sheet_reader.specs.declared.reader.SheetReader.{SheetReader}
use Rattle.sheet_reader.specs.declared.reader.SheetStep.{SheetStep}
use Rattle.sheet_reader.proofs.Judged.{team_holds, team_low, team_worth}
use Rattle.sheet_reader.proofs.Rows.{same_phi}
use Rattle.sheet_reader.proofs.TeamLines.{table_count}
use Rattle.sheet_reader.proofs.Told.{tells_rest}

-- the verdict by what the lists of prices and of rows are
pub verdict_by : (n : Limits) (team : ℕ) (worth : ℤ) (prices others rows more : List (List ℤ)) (v : LocalVerdict) → prices ≡ others → rows ≡ more
    → IsLocalVerdict n team (minute_price n.instance prices) (phi_by n team rows) worth v → IsLocalVerdict n team (minute_price n.instance others) (phi_by n team more) worth v
verdict_by n team worth prices others rows more v e f h = subst (λ p. IsLocalVerdict n team (minute_price n.instance p) (phi_by n team more) worth v) e
    (subst (λ q. IsLocalVerdict n team (minute_price n.instance prices) (phi_by n team q) worth v) f h)

module _ (i : Instance) (budget : ℕ) (n : Limits) (r : SheetReader) (team left : ℕ) (tables : List Potentials) (table : Potentials) (worth : ℤ) (root : n ≡ root_limits i)
    (has : HasWorths i r team) (read : HasTables i r tables (suc left)) (begun : HasTable i r team table) (whole : length r.rows ≡ length i.tasks) (worth_is : worth ≡ table.worth) where
  abbrev at : Limits
  at = root_limits i

  abbrev k : ℕ
  k = length tables

  abbrev w : ℕ → ℕ → ℤ
  w = minute_price i r.prices

  count : k ≡ team
  count = table_count i r tables (suc left) team read has

  abbrev rest : SheetAnswer → Type 0
  rest = after_team (sheet_of i budget r (tables ++ table ∷ [])) left

  -- what is said of the team at the limits of the node
  abbrev pub Verdict : LocalVerdict → Type 0
  Verdict v = IsLocalVerdict n team (minute_price n.instance r.prices) (phi_by n team r.rows) worth v

  at_root : (v : LocalVerdict) → Verdict v → IsLocalVerdict at k w (phi_by at k r.rows) table.worth v
  at_root v h =
      subst (λ x. IsLocalVerdict at k w (phi_by at k r.rows) x v) worth_is
      (subst (λ h. IsLocalVerdict at h w (phi_by at h r.rows) worth v) (sym count)
      (subst (λ m. IsLocalVerdict m team (minute_price m.instance r.prices) (phi_by m team r.rows) worth v) root h))

  same : (j t : ℕ) → phi_by at k r.rows j t ≡ phi_in at k table j t
  same = same_phi at k r.rows table (subst (λ h. HasRowsBefore at h r.rows table.phi) (sym count) begun.rows) whole

  pub potential_fails : (j : ℕ) → Verdict (verdicts.Low j) → after_steps (sheet_of i budget r tables) left table [] (Refuses (Potential team j))
  potential_fails j h = subst (λ h. after_steps (sheet_of i budget r tables) left table [] (Refuses (Potential h j))) count
      (team_low at k w (phi_by at k r.rows) (phi_in at k table) table.worth same rest j (at_root (verdicts.Low j) h))

  pub worth_fails : Verdict verdicts.Worth → after_steps (sheet_of i budget r tables) left table [] (Refuses (LowWorth team))
  worth_fails h = subst (λ h. after_steps (sheet_of i budget r tables) left table [] (Refuses (LowWorth h))) count
      (team_worth at k w (phi_by at k r.rows) (phi_in at k table) table.worth same rest (at_root verdicts.Worth h))

  pub rules_hold : (step : Result SheetStep Refusal) (new : SheetReader) → Verdict verdicts.Holds → SheetTells i budget rest step new
      → SheetTells i budget (after_steps (sheet_of i budget r tables) left table []) step new
  rules_hold step new h told = tells_rest i budget rest (after_steps (sheet_of i budget r tables) left table []) step new
      (team_holds at k w (phi_by at k r.rows) (phi_in at k table) table.worth same rest (at_root verdicts.Holds h)) told
