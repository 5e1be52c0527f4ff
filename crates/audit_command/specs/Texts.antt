-- the line that an audit writes
use Rattle.std.specs.Prelude.{ℕ, List, [], ◌∷◌, codes}
use Rattle.std.specs.Fmt.{decimal}
use Rattle.crew_terms.specs.Words.{Words, line_text}
use Rattle.dossier_terms.specs.Texts.{reason_words}
use Rattle.cert_checker.specs.Checked.{stop_reason_of}
use Rattle.day_commands.specs.Refused.{refused_line}
use Rattle.audit_command.specs.declared.event.Event.{Event}
use Rattle.audit_command.specs.declared.event.Event.TheVariants.{NoDossiers, Refused, BadDossier, Instance, Nodes, Kept, More, Belong}

-- the line of a round with these words
abbrev pub no_line : ℕ → Words → List ℕ
no_line round words = line_text (codes "audit" ∷ codes "no" ∷ decimal round ∷ words)

-- the line of an event
abbrev pub event_text : Event → List ℕ
event_text (NoDossiers why) = no_line 0 (reason_words (stop_reason_of why))
event_text (Refused number cause) = refused_line number cause
event_text (BadDossier round line reason) = no_line round (decimal line ∷ reason_words reason)
event_text (Instance round) = no_line round (codes "Instance" ∷ [])
event_text (Nodes round) = no_line round (codes "Nodes" ∷ [])
event_text (Kept round) = no_line round (codes "Kept" ∷ [])
event_text (More rounds) = no_line rounds (codes "More" ∷ [])
event_text (Belong rounds) = line_text (codes "audit" ∷ decimal rounds ∷ codes "yes" ∷ [])
