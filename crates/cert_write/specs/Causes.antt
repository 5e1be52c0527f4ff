-- what a cause is that is given
use Rattle.std.specs.Prelude.{map, unsigned_abs}
use Rattle.dossier_terms.specs.Causes.{Cause, NoCause, Loose, Overflowed, Spent, Part}
use Rattle.frac_master.specs.declared.shares.Share.{Share}
use Rattle.cert_write.specs.declared.causes.Cause.{Cause as GivenCause}
use Rattle.cert_write.specs.declared.causes.Cause.TheVariants as given

-- a share of a column as it is written
abbrev pub part_of : Share → Part
part_of s = record { column = s.column; parts = unsigned_abs s.num }

-- a cause as it is written
abbrev pub cause_of : GivenCause → Cause
cause_of given.None = NoCause
cause_of (given.Loose now den shares left_open) =
    Loose now (record { whole = unsigned_abs den; parts = map part_of shares.now; spare = map unsigned_abs left_open.now })
cause_of (given.Overflow now fault) = Overflowed now fault
cause_of (given.Spent now) = Spent now
