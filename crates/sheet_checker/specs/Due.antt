-- what the checker keeps stands for what has been read of a sheet
use Rattle.std.specs.Prelude.{◌≡◌, Result, Ok, Err}
use Rattle.crew_terms.specs.Words.{Words}
use Rattle.crew_terms.specs.Instance.{Instance}
use Rattle.crew_terms.specs.Limits.{root_limits}
use Rattle.node_limits.specs.Rest.{Rest, IsRestOver, limits_over}
use Rattle.head_check.specs.Head.{Holds as HoldsHead, IsLineDue, reading_of}
use Rattle.line_in.specs.declared.refusals.Refusal.{Refusal}
use Rattle.line_in.specs.declared.refusals.Refusal.TheVariants.{No, OutOfMemory}
use Rattle.sheet_terms.specs.Sheet.{Sheet}
use Rattle.sheet_terms.specs.Reading.{SheetReading, SheetAnswer, First as FirstDue, Head as HeadIsDue, More as Goes, Whole as Ends, No as Refuses}
use Rattle.sheet_terms.specs.Table.{SaysOfSheet}
use Rattle.sheet_reader.specs.Reader.{StandsFor}
use Rattle.sheet_checker.specs.declared.due.SheetDraft.{SheetDraft}
use Rattle.sheet_checker.specs.declared.due.Due.{Due}
use Rattle.sheet_checker.specs.declared.due.Due.TheVariants.{First, Head, Body}
use Rattle.sheet_checker.specs.declared.due.Step.{Step}
use Rattle.sheet_checker.specs.declared.due.Step.TheVariants.{More, Whole}

-- these limits at rest are those of the root
pub record AreRoot (i : Instance) (limits : Rest) : Type 0 where
  pub over : IsRestOver i limits
  pub root : limits_over i limits.present ≡ root_limits i

-- the reader stands for what is read of the sheet behind its instance
pub record IsInBody (draft : SheetDraft) (reading : SheetReading) : Type 0 where
  pub root : AreRoot draft.base.instance draft.root
  pub stands : StandsFor draft.base.instance draft.base.nodes draft.reader reading

-- what is kept stands for this state of the table of a sheet's lines
abbrev pub Awaits : Due → SheetReading → Type 0
Awaits First reading = reading ≡ FirstDue
Awaits (Head due) reading = IsLineDue due × HoldsHead due × (reading ≡ HeadIsDue (reading_of due))
Awaits (Body draft) reading = IsInBody draft.value reading

-- what is kept stands for some state of the table
abbrev pub IsAwaited : Due → Type 0
IsAwaited due = (reading : SheetReading) × Awaits due reading

-- the step, or the reason, is what these rules say, and what is kept stands for what they lead to, or has the bound of the whole
-- sheet; for want of memory nothing is said
abbrev pub Tells : (SheetAnswer → Type 0) → Result Step Refusal → Type 0
Tells Rules (Ok (More due)) = (next : SheetReading) × Rules (Goes next) × Awaits due next
Tells Rules (Ok (Whole bound)) = (s : Sheet) × Rules (Ends s) × (bound ≡ s.bound)
Tells Rules (Err (No reason)) = Rules (Refuses reason)
Tells Rules (Err OutOfMemory) = Unit {0}

-- it is what the table says of the line, in each of its states that what is kept stands for
abbrev pub IsStep : Due → Words → Result Step Refusal → Type 0
IsStep due words step = (reading : SheetReading) → Awaits due reading → Tells (SaysOfSheet reading words) step
