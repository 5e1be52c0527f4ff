use Rattle.std.proofs.Common.{◌≡◌, drop}
use Rattle.std.specs.Prelude.{fold}
use Rattle.day_terms.specs.Entries.{after_entry}
use Rattle.day_terms.specs.Refusal.{AreTaken}
use Rattle.print_tests.proofs.days.put_all.Given as goal

abbrev pub invariant-loop-entry : goal.invariant-loop-entry
invariant-loop-entry l = record {
  taken : AreTaken l.desk (drop l.entry-index l.entries);
  state : fold after_entry l.desk (drop l.entry-index l.entries) ≡ fold after_entry l.fn.desk l.entries;
}
