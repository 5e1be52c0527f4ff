-- the faults of the lines of a bundle between its dossiers
use Rattle.std.specs.Prelude.{◌≡◌, ◌≢◌, ◌≤◌, ℕ}
use Rattle.crew_terms.specs.Words.{Words}
use Rattle.crew_terms.specs.declared.TheConstants.{MOST_TASKS}
use Rattle.dossier_terms.specs.Rules.{IsShape}
use Rattle.line_in.specs.declared.faults.LineFault.{LineFault}
use Rattle.line_in.specs.declared.faults.LineFault.TheVariants.{Shape, Number}
use Rattle.part_texts.specs.Lines.{count_words, first_words, parts_word}

-- the words are not those of the line `crew parts 1`
pub record IsFirstFault (words : Words) (fault : LineFault) : Type 0 where
  pub other : words ≢ first_words
  pub is : fault ≡ Shape

-- the first fault of a line `parts`: its shape, or a number out of range
pub data IsCountFault (words : Words) (fault : LineFault) : Type 0 where
  Misshapen : (shape : IsShape parts_word 1 words → ⊥) (is : fault ≡ Shape) → IsCountFault words fault
  OutOfRange : (shape : IsShape parts_word 1 words) (none : (k : ℕ) → k ≤ MOST_TASKS → words ≢ count_words k) (is : fault ≡ Number) → IsCountFault words fault
