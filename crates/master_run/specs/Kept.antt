-- what the fields of a run stand for
use Rattle.master_run.specs.State.{RunState}
use Rattle.master_run.specs.declared.run.Run.TheInside.{Inside}

abbrev pub kept : Inside → RunState
kept a = record { master = a.master; ids = a.ids.items; pivots = a.pivots; left = a.left }
