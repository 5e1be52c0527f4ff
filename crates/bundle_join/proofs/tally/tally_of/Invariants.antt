use Rattle.std.proofs.Common.{◌≡◌, ◌≤◌, ◌*◌, List, take}
use Rattle.crew_instance.specs.Draft.{rows_of}
use Rattle.crew_terms.specs.declared.TheConstants.{MOST_TASKS}
use Rattle.dossier_terms.specs.Dossier.{Dossier, IsGood}
use Rattle.bundle_join.specs.Tallies.{IsTally}
use Rattle.bundle_join.specs.Texts.{AreTexts}
use Rattle.bundle_join.proofs.tally.tally_of.Given as goal

abbrev pub invariant-loop-k : goal.invariant-loop-k
invariant-loop-k l = record {
  says : (day : Dossier) (parts : List Dossier) → IsGood day → day.instance ≡ l.whole → AreTexts (rows_of l.texts) parts → IsTally day (take l.k parts) l.tally;
  room : l.tally.bounds ≤ l.k * 4294967295;
  few : l.k ≤ MOST_TASKS;
}
