-- what the fields of a list of entries stand for
use Rattle.std.specs.Prelude.{List}
use Rattle.day_terms.specs.declared.Entry.{Entry}
use Rattle.day_records.specs.declared.day.Entries.TheInside.{Inside}

-- the entries themselves
abbrev pub entries_of : Inside → List Entry
entries_of a = a.items.items
