-- what is written for a good dossier
use Rattle.std.specs.Prelude.{ℕ, List}
use Rattle.dossier_terms.specs.Dossier.{Dossier}
use Rattle.dossier_terms.specs.Texts.{yes_line}
use Rattle.roster_print.specs.Roster.{roster_text}
use Rattle.why_not.specs.Why.{why_text}
use Rattle.dossier_commands.specs.declared.output.Output.{Output}
use Rattle.dossier_commands.specs.declared.output.Output.TheVariants.{YesLines, Rosters, Why}

-- the roster of its plan
abbrev pub roster_of : Dossier → List ℕ
roster_of d = roster_text d.instance d.plan

-- why its plan's open tasks are open
abbrev pub why_of : Dossier → List ℕ
why_of d = why_text d.instance d.plan

-- the text of one good dossier, by what is asked for
abbrev pub output_of : Output → Dossier → List ℕ
output_of YesLines = yes_line
output_of Rosters = roster_of
output_of Why = why_of
