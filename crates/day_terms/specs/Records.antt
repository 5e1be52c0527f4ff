-- the records of a day's text
use Rattle.std.specs.Prelude.{ℕ, List, [], slice_index_or}
use Rattle.csv.specs.Reading.{default_config, records, strip_bom}
use Rattle.crew_terms.specs.Words.{Words}

-- the records of a text, each a list of fields: those that csv reads, without a header, of any lengths, and with no field trimmed
abbrev pub records_of_text : List ℕ → List Words
records_of_text text = records default_config (strip_bom text)

-- the field with this number, from 0
abbrev pub field_of : Words → ℕ → List ℕ
field_of fields place = slice_index_or fields place []
