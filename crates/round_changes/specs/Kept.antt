-- what the fields stand for
use Rattle.round_changes.specs.Named.{JobByNames, RoundByNames}
use Rattle.round_changes.specs.declared.rounds.NamedJob.TheInside.{Inside as JobParts}
use Rattle.round_changes.specs.declared.rounds.Round.TheInside.{Inside as RoundParts}

abbrev pub named : JobParts → JobByNames
named a = record { task = a.task; start = a.start; teams = a.teams.items }

abbrev pub noted : RoundParts → RoundByNames
noted a = record { tasks = a.tasks.items; jobs = a.jobs.items }
