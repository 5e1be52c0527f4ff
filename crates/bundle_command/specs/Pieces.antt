-- what is written of dossiers
use Rattle.std.specs.Prelude.{◌≡◌, ℕ, List, [], ◌∷◌, IsTrue}
use Rattle.std.specs.List.{flat_map}
use Rattle.dossier_terms.specs.Dossier.{Dossier}
use Rattle.bundle_write.specs.Pieces.{IsPieceOf, Piece}
use Rattle.bundle_write.specs.declared.piece.Job.{Job}

-- one for each dossier, in order
abbrev pub ArePiecesOf : Job → List Dossier → List Piece → Type 0
ArePiecesOf job [] [] = Unit {0}
ArePiecesOf job [] (p ∷ ps) = ⊥
ArePiecesOf job (d ∷ ds) [] = ⊥
ArePiecesOf job (d ∷ ds) (p ∷ ps) = IsPieceOf job d p × ArePiecesOf job ds ps

-- the texts of pieces, one after another
abbrev pub texts_of : List Piece → List ℕ
texts_of pieces = flat_map (λ (p : Piece). p.text) pieces

-- the text is that of these pieces of the dossiers
pub record AreTexts (job : Job) (dossiers : List Dossier) (pieces : List Piece) (text : List ℕ) : Type 0 where
  pub each : ArePiecesOf job dossiers pieces
  pub is : text ≡ texts_of pieces

-- no dossier in it leaves open whether another plan does more tasks
abbrev pub HasNoneOpen : Piece → Type 0
HasNoneOpen p = IsTrue p.proved
