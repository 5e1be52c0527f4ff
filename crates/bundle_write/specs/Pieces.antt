-- what is written of one dossier
use Rattle.std.specs.Prelude.{◌≡◌, ◌≤◌, ◌<◌, ◌↔◌, ℕ, Bool, List, [], Option, Result, Ok, Err, IsTrue, length, slice_index_or}
use Rattle.crew_terms.specs.Plan.{unassigned_count}
use Rattle.crew_terms.specs.Words.{line_text}
use Rattle.crew_terms.specs.declared.TheConstants.{MOST_NODES}
use Rattle.crew_io.specs.Io.{Appended, AppendedPart}
use Rattle.dossier_terms.specs.Dossier.{Dossier}
use Rattle.dossier_terms.specs.Lines.{text_of}
use Rattle.cert_write.specs.declared.faults.PutFault.{PutFault}
use Rattle.cert_write.specs.declared.faults.PutFault.TheVariants.{WriteFault, OutOfMemory}
use Rattle.part_texts.specs.Bundle.{Bundle as WholeBundle, bound_of}
use Rattle.part_texts.specs.Lines.{count_words, text_of_bundle}
use Rattle.bundle_write.specs.Bundles.{AreApart, IsBundleOf}
use Rattle.bundle_write.specs.Parts.{IsPartDossier}
use Rattle.bundle_write.specs.declared.piece.Job.{Job}
use Rattle.bundle_write.specs.declared.piece.Job.TheVariants.{Bundle, Count, Part}

-- the numbers of steps are in their range
abbrev pub IsWithin : Job → Type 0
IsWithin (Bundle nodes) = nodes ≤ MOST_NODES
IsWithin Count = Unit {0}
IsWithin (Part nodes number) = nodes ≤ MOST_NODES

-- what is written, and whether no dossier in it leaves open whether another plan does more tasks
pub record Piece : Type 0 where
  pub proved : Bool
  pub text : List ℕ

-- a bundle proves that no legal plan leaves fewer tasks unassigned than its first one
abbrev pub IsProved : WholeBundle → Type 0
IsProved b = bound_of b ≡ unassigned_count b.day.plan

-- the text of a bundle of the dossier
pub record IsBundlePiece (d : Dossier) (nodes : ℕ) (p : Piece) : Type 0 where
  pub bundle : WholeBundle
  pub of : IsBundleOf d nodes bundle
  pub is : p.text ≡ text_of_bundle bundle
  pub proves : IsTrue p.proved ↔ IsProved bundle

-- the line with the number of parts that its day has
pub record IsCountPiece (d : Dossier) (p : Piece) : Type 0 where
  pub lists : List (List ℕ)
  pub apart : AreApart d.instance lists
  pub is : p.text ≡ line_text (count_words (length lists))
  pub proves : IsTrue p.proved

-- the dossier of the part with this number, or nothing where there are fewer
pub data IsPartPiece (d : Dossier) (nodes number : ℕ) (p : Piece) : Type 0 where
  NoSuchPart : (lists : List (List ℕ)) (apart : AreApart d.instance lists) (few : length lists ≤ number) (is : p.text ≡ []) (proves : IsTrue p.proved)
      → IsPartPiece d nodes number p
  ThePart : (lists : List (List ℕ)) (apart : AreApart d.instance lists) (within : number < length lists) (e : Dossier)
      (of : IsPartDossier d.instance nodes (slice_index_or lists number []) e) (is : p.text ≡ text_of e) (proves : IsTrue p.proved ↔ (e.bound ≡ unassigned_count e.plan))
      → IsPartPiece d nodes number p

-- what is to be written of a dossier
abbrev pub IsPieceOf : Job → Dossier → Piece → Type 0
IsPieceOf (Bundle nodes) d p = IsBundlePiece d nodes p
IsPieceOf Count d p = IsCountPiece d p
IsPieceOf (Part nodes number) d p = IsPartPiece d nodes number p

-- what was written: all of it; after a write fault a front of it; for want of memory nothing
abbrev pub IsPiecePut : Job → Dossier → Result Bool PutFault → Option (List ℕ) → Option (List ℕ) → Type 0
IsPiecePut job d (Ok proved) got later = (text : List ℕ) × IsPieceOf job d (record { proved = proved; text = text }) × Appended got later text
IsPiecePut job d (Err WriteFault) got later = (p : Piece) × IsPieceOf job d p × AppendedPart got later p.text
IsPiecePut job d (Err OutOfMemory) got later = later ≡ got
