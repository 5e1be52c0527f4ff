-- entries that a session takes
use Rattle.std.specs.Prelude.{◌≡◌, List, [], fold}
use Rattle.day_terms.specs.declared.Entry.{Entry}
use Rattle.day_terms.specs.Entries.{after_entry}
use Rattle.day_terms.specs.Rounds.{rounds_from}
use Rattle.replan.specs.Planning.{Planning}

-- the session has taken these entries, and none of them begins a round
pub record HasTaken (first : Planning) (entries : List Entry) (s : Planning) : Type 0 where
  pub state : s ≡ record first { day = fold after_entry first.day entries }
  pub rounds : rounds_from first.day entries ≡ []
