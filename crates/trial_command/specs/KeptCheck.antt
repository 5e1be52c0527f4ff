-- what the fields of a sink that checks stand for
use Rattle.std.specs.Prelude.{◌≡◌}
use Rattle.trial_command.specs.Checking.{Checking}
use Rattle.trial_command.specs.Findings.{Holds}
use Rattle.trial_command.specs.declared.check_sink.CheckSink.TheInside.{Inside}

abbrev pub checking_of : Inside → Checking
checking_of a = record { got = a.written.bytes; faults = a.failed }

-- while no write has failed, what was found is so of the bytes
abbrev pub IsChecking : Inside → Type 0
IsChecking a = a.failed ≡ 0 → Holds a.finding a.written.bytes a.front a.checker
