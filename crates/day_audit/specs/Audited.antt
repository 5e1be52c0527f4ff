-- what an audit stands for, and what an entry and a dossier make of it
use Rattle.std.specs.Prelude.{◌≡◌, List, [], ◌∷◌, Option, None, slice_get}
use Rattle.dossier_terms.specs.Dossier.{Dossier}
use Rattle.route_terms.specs.Named.{NamedRoute}
use Rattle.day_terms.specs.State.{DayState, start}
use Rattle.day_terms.specs.Entries.{after_entry}
use Rattle.day_terms.specs.Rounds.{Round, round_at}
use Rattle.day_terms.specs.Work.{after_plan}
use Rattle.day_terms.specs.declared.Entry.{Entry}
use Rattle.day_audit.specs.Belongs.{handed_on}
use Rattle.day_audit.specs.declared.audit.Next.{Next}
use Rattle.day_audit.specs.declared.audit.Next.TheVariants.{Changed, Due}

-- the day's state, the round whose dossier is due, if one is, and the routes that the round is handed
pub record Audited : Type 0 where
  pub day : DayState
  pub due : Option Round
  pub handed : List NamedRoute

-- before the day's first entry
abbrev pub no_entry_yet : Audited
no_entry_yet = record { day = start; due = None; handed = [] }

-- behind an entry that is taken: the round is due that it begins, if it begins one
abbrev pub behind_entry : Audited → Entry → Audited
behind_entry a entry = record a { day = after_entry a.day entry; due = slice_get (round_at a.day entry) 0 }

-- what is told of an entry that is taken
abbrev pub IsNext : DayState → Entry → Next → Type 0
IsNext s entry Changed = round_at s entry ≡ []
IsNext s entry Due = (round : Round) × (round_at s entry ≡ round ∷ [])

-- behind a dossier of the round that was due: its plan is the last one, and its pool is handed on
abbrev pub behind_dossier : Audited → Dossier → Audited
behind_dossier a d = record { day = after_plan a.day d.plan; due = None; handed = handed_on d }
