-- what a node is split by stands within its limits
use Rattle.std.specs.Prelude.{◌<◌}
use Rattle.crew_terms.specs.Limits.{Limits, tasks_in}
use Rattle.branch_choice.specs.Uses.{IsPermittedUse}
use Rattle.branch_choice.specs.declared.uses.Use.{Use}
use Rattle.split_uses.specs.declared.picks.Pick.{Pick}
use Rattle.split_uses.specs.declared.picks.Pick.TheVariants.{Pair, Window}
use Rattle.split_uses.specs.declared.picks.Scored.{Scored}
use Rattle.split_uses.specs.declared.spans.Span.{Span}
use Rattle.split_uses.specs.declared.spans.Stop.{Stop}

-- the team of the span may begin the task at the minute
abbrev pub IsPermittedSpan : Limits → Span → Type 0
IsPermittedSpan n s = IsPermittedUse n s.one

-- the task is one of the node's
abbrev pub IsKnownStop : Limits → Stop → Type 0
IsKnownStop n s = s.task < tasks_in n

-- the teams of the uses may begin the task at the minutes
abbrev pub IsPermittedPick : Limits → Pick → Type 0
IsPermittedPick n (Pair one) = IsPermittedUse n one
IsPermittedPick n (Window early late) = IsPermittedUse n early × IsPermittedUse n late

-- so they may of what has a score
abbrev pub IsPermittedScored : Limits → Scored → Type 0
IsPermittedScored n s = IsPermittedPick n s.pick
