-- the no lines of a check of bundles
use Rattle.std.specs.Prelude.{ℕ, List, [], ◌∷◌, codes}
use Rattle.std.specs.Fmt.{decimal}
use Rattle.crew_terms.specs.Words.{line_text}
use Rattle.dossier_terms.specs.Texts.{no_line}
use Rattle.parts_reader.specs.declared.reason.BundleReason.{BundleReason}
use Rattle.parts_reader.specs.declared.reason.BundleReason.TheVariants.{Line, Part}

-- what is written for the line of this number that is refused
abbrev pub no_bundle_line : ℕ → BundleReason → List ℕ
no_bundle_line line (Line reason) = no_line line reason
no_bundle_line line Part = line_text (codes "no" ∷ decimal line ∷ codes "Part" ∷ [])
