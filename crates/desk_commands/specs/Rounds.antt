-- what is written for dossiers, each with what is kept of the one before
use Rattle.std.specs.Prelude.{◌+◌, ◌++◌, ℕ, List, [], ◌∷◌, length, Option, None, Some}
use Rattle.std.specs.Option.{option_map_or}
use Rattle.dossier_terms.specs.Dossier.{Dossier}
use Rattle.round_changes.specs.Named.{RoundByNames, round_of}
use Rattle.plan_changes.specs.Changes.{changes_text}
use Rattle.plan_chart.specs.Charts.{chart_text}
use Rattle.plan_chart.specs.Pages.{page_end, page_head}
use Rattle.desk_commands.specs.declared.output.DeskOutput.{DeskOutput}
use Rattle.desk_commands.specs.declared.output.DeskOutput.TheVariants.{Changes, Picture}

-- what is kept of a dossier when the next one is read
abbrev pub kept_of : Dossier → RoundByNames
kept_of d = round_of d.instance d.plan

-- what is kept behind these dossiers
abbrev pub kept_behind : Option RoundByNames → List Dossier → Option RoundByNames
kept_behind before [] = before
kept_behind before (d ∷ ds) = kept_behind (Some (kept_of d)) ds

-- what changed since the round before, if there was one
abbrev pub changes_since : ℕ → Option RoundByNames → RoundByNames → List ℕ
changes_since n before now = option_map_or (λ (old : RoundByNames). changes_text n old now) before []

-- what comes before the rounds
abbrev pub head_of : DeskOutput → List ℕ
head_of Changes = []
head_of Picture = page_head

-- the part of round n
abbrev pub round_text : DeskOutput → ℕ → Option RoundByNames → Dossier → List ℕ
round_text Changes n before d = changes_since n before (kept_of d)
round_text Picture n before d = chart_text n d.bound before (kept_of d) d.instance d.plan

-- what comes after so many rounds
abbrev pub end_of : DeskOutput → ℕ → List ℕ
end_of Changes rounds = []
end_of Picture rounds = page_end rounds

-- the parts of these dossiers, the first of which is round n
abbrev pub rounds_from : DeskOutput → ℕ → Option RoundByNames → List Dossier → List ℕ
rounds_from output n before [] = []
rounds_from output n before (d ∷ ds) = round_text output n before d ++ rounds_from output (n + 1) (Some (kept_of d)) ds

-- what is written of these dossiers before the end
unfoldable pub begun_text : DeskOutput → List Dossier → List ℕ
begun_text output dossiers = head_of output ++ rounds_from output 1 None dossiers

-- all that is written of these dossiers
abbrev pub desk_text : DeskOutput → List Dossier → List ℕ
desk_text output dossiers = begun_text output dossiers ++ end_of output (length dossiers)
