-- the counts of the ranges of a line that is due
use Rattle.std.specs.Prelude.{◌<◌, ◌^◌, ◌<ℤ◌, pos}
use Rattle.cert_format.specs.declared.kinds.Expect.{Expect}
use Rattle.cert_format.specs.declared.kinds.Expect.TheVariants as expected

-- each count is one of 32 bits
abbrev pub HasCounts : Expect → Type 0
HasCounts expected.Form = Unit {0}
HasCounts expected.Size = Unit {0}
HasCounts expected.Place = Unit {0}
HasCounts (expected.Travel places) = places < 2 ^ 32
HasCounts (expected.Team places) = places < 2 ^ 32
HasCounts (expected.Task places) = places < 2 ^ 32
HasCounts (expected.Frozen most) = most < 2 ^ 32
HasCounts (expected.Keep teams tasks) = (teams < 2 ^ 32) × (tasks < 2 ^ 32)
HasCounts expected.Pool = Unit {0}
HasCounts (expected.Route teams tasks) = (teams < 2 ^ 32) × (tasks < 2 ^ 32)
HasCounts (expected.Plan tasks) = tasks < 2 ^ 32
HasCounts (expected.Job teams tasks) = (teams < 2 ^ 32) × (tasks < 2 ^ 32)
HasCounts expected.Tree = Unit {0}
HasCounts (expected.Node teams tasks) = (teams < 2 ^ 32) × (tasks < 2 ^ 32)
HasCounts (expected.Why tasks) = tasks < 2 ^ 32
HasCounts (expected.Share columns whole) = (columns < 2 ^ 64) × (whole <ℤ pos 170141183460469231731687303715884105728)
HasCounts (expected.Spare tasks whole) = (tasks < 2 ^ 32) × (whole <ℤ pos 170141183460469231731687303715884105728)
HasCounts (expected.Price tasks) = tasks < 2 ^ 32
HasCounts (expected.Extra task count) = (task < 2 ^ 32) × (count < 2 ^ 32)
HasCounts expected.Worth = Unit {0}
HasCounts (expected.Phi task count) = (task < 2 ^ 32) × (count < 2 ^ 32)
HasCounts (expected.Steps task) = task < 2 ^ 32
HasCounts expected.End = Unit {0}
