-- an instance that is planned on its own
use Rattle.std.specs.Prelude.{◌≡◌, ℕ, [], List, Option, Result, Ok, Err}
use Rattle.crew_terms.specs.Instance.{Instance}
use Rattle.crew_io.specs.Io.{Appended, AppendedPart}
use Rattle.dossier_terms.specs.Dossier.{Dossier}
use Rattle.dossier_terms.specs.Lines.{text_of}
use Rattle.cert_write.specs.declared.faults.PutFault.{PutFault}
use Rattle.cert_write.specs.declared.faults.PutFault.TheVariants.{WriteFault, OutOfMemory}
use Rattle.replan.specs.Counts.{counts_of}
use Rattle.replan.specs.Rounds.{IsRoundDossier}
use Rattle.replan.specs.declared.counts.Counts.{Counts}

-- a dossier of the instance and the budget, as of a round that is handed no routes
abbrev pub IsDossierAlone : Instance → ℕ → Dossier → Type 0
IsDossierAlone i nodes d = IsRoundDossier [] (record { instance = i; nodes = nodes }) d

-- what was written: a dossier, with these numbers; after a write fault a front of one; for want of memory nothing
abbrev pub IsPutAlone : Instance → ℕ → Result Counts PutFault → Option (List ℕ) → Option (List ℕ) → Type 0
IsPutAlone i nodes (Ok counts) got later = (d : Dossier) × IsDossierAlone i nodes d × (counts ≡ counts_of d) × Appended got later (text_of d)
IsPutAlone i nodes (Err WriteFault) got later = (d : Dossier) × IsDossierAlone i nodes d × AppendedPart got later (text_of d)
IsPutAlone i nodes (Err OutOfMemory) got later = later ≡ got
