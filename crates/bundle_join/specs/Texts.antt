-- texts of dossiers in memory
use Rattle.std.specs.Prelude.{◌≡◌, ◌++◌, ℕ, List, All, length, map}
use Rattle.std.specs.List.{flat_map}
use Rattle.crew_terms.specs.Words.{line_text}
use Rattle.cert_checker.specs.Checked.{IsWholeAt, verdict_of}
use Rattle.dossier_terms.specs.Dossier.{Dossier, IsGood}
use Rattle.dossier_terms.specs.Lines.{text_of}
use Rattle.part_texts.specs.Lines.{count_words, first_words}
use Rattle.bundle_join.specs.declared.judged.JudgedText.{JudgedText}
use Rattle.bundle_join.specs.declared.kept.KeptText.{KeptText}

-- the bytes that were written
abbrev pub kept_bytes : KeptText → List ℕ
kept_bytes s = s.bytes.items

-- how often memory was wanting
abbrev pub kept_faults : KeptText → ℕ
kept_faults s = s.failed

-- the checker has read this dossier, of which this is said
pub record IsJudgedAs (judged : JudgedText) (d : Dossier) : Type 0 where
  pub whole : IsWholeAt judged.checker.at d
  pub says : judged.verdict ≡ verdict_of d

-- these are the texts of good dossiers
pub record AreTexts (texts : List (List ℕ)) (dossiers : List Dossier) : Type 0 where
  pub good : All IsGood dossiers
  pub are : texts ≡ map text_of dossiers

-- the text of a bundle whose dossiers have these texts
abbrev pub text_with : List ℕ → List (List ℕ) → List ℕ
text_with first texts = line_text first_words ++ (first ++ (line_text (count_words (length texts)) ++ flat_map (λ (text : List ℕ). text) texts))
