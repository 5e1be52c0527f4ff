use Rattle.day_terms.proofs.Fields.{entry_where_good}
use Rattle.day_terms.proofs.laws.good_fields_make_an_entry.Goals as goal

pub returns : goal.returns
returns c = entry_where_good
