-- what is written of a dossier that is drawn
use Rattle.std.proofs.Common.{◌≡◌, ℕ, Option, ap, ◌∙◌}
use Rattle.crew_terms.specs.Instance.{Instance}
use Rattle.crew_terms.specs.Plan.{Plan}
use Rattle.dossier_terms.specs.Dossier.{Dossier}
use Rattle.round_changes.specs.Named.{RoundByNames}
use Rattle.plan_chart.specs.Charts.{chart_text}
use Rattle.desk_commands.specs.Rounds.{kept_of}

-- the chart of what the dossier holds
pub chart_is : (n bound : ℕ) (before : Option RoundByNames) (now : RoundByNames) (i : Instance) (p : Plan) (d : Dossier) → bound ≡ d.bound → now ≡ kept_of d → i ≡ d.instance → p ≡ d.plan
    → chart_text n bound before now i p ≡ chart_text n d.bound before (kept_of d) d.instance d.plan
chart_is n bound before now i p d same_bound same_round same_instance same_plan =
    ap (λ b. chart_text n b before now i p) same_bound ∙ ap (λ r. chart_text n d.bound before r i p) same_round
    ∙ ap (λ j. chart_text n d.bound before (kept_of d) j p) same_instance ∙ ap (chart_text n d.bound before (kept_of d) d.instance) same_plan
