use Rattle.std.proofs.Common.{◌≡◌, ◌≤◌, ◌*◌, ℕ, List, [], length}
use Rattle.crew_io.specs.Draws.{TellsReads}
use Rattle.dossier_terms.specs.Dossier.{Dossier}
use Rattle.dossier_commands.specs.Input.{IsGoing}
use Rattle.part_texts.specs.Bundle.{Bundle}
use Rattle.parts_reader.specs.Stages.{IsTallied}
use Rattle.parts_reader.proofs.parts.add_parts.Given as goal

abbrev pub invariant-parts : goal.invariant-parts
invariant-parts g l = record {
  going : IsGoing l.reader l.tally.lines;
  more : l.fn.reader.handed ≤ l.reader.handed;
  room : l.tally.bounds ≤ l.counter * 4294967296;
  says : (input : List ℕ) (done : List Bundle) (day : Dossier) → day.instance ≡ l.fn.whole
      → IsTallied input done day l.fn.k [] l.fn.reader (g.S.Source.left l.fn.src) l.fn.tally
      → (parts : List Dossier) × (length parts ≡ l.counter) × IsTallied input done day l.fn.k parts l.reader (g.S.Source.left l.src) l.tally;
  tells : TellsReads g.S.Source l.fn.src l.src ⊥;
}
