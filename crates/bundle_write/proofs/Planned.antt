-- dossiers of parts, one more at a time
use Rattle.std.proofs.Common.{◌≡◌, ◌<◌, ◌+◌, ◌++◌, ℕ, List, [], ◌∷◌, length, take, get_or, ap, subst, sym, ◌∙◌}
use Rattle.std.specs.Prelude.{All}
use Rattle.std.proofs.lemmas.List.{take_more}
use Rattle.std.proofs.lemmas.List.Elements.{All-nil, All-cons}
use Rattle.crew_terms.specs.Instance.{Instance}
use Rattle.dossier_terms.specs.Dossier.{Dossier, IsGood}
use Rattle.bundle_write.specs.Parts.{ArePartDossiers, IsPartDossier}

-- ---- one more

one_behind : (i : Instance) (nodes : ℕ) (lists : List (List ℕ)) (ds : List Dossier) (tasks : List ℕ) (d : Dossier) → ArePartDossiers i nodes lists ds → IsPartDossier i nodes tasks d
    → ArePartDossiers i nodes (lists ++ tasks ∷ []) (ds ++ d ∷ [])
one_behind i nodes [] [] tasks d are is = (is, tt)
one_behind i nodes [] (e ∷ ds) tasks d are is = absurd are
one_behind i nodes (more ∷ lists) [] tasks d are is = absurd are
one_behind i nodes (more ∷ lists) (e ∷ ds) tasks d are is = (are.0, one_behind i nodes lists ds tasks d are.1 is)

pub one_more : (i : Instance) (nodes : ℕ) (lists : List (List ℕ)) (k : ℕ) (ds : List Dossier) (tasks : List ℕ) (d : Dossier) → k < length lists → get_or lists k [] ≡ tasks
    → ArePartDossiers i nodes (take k lists) ds → IsPartDossier i nodes tasks d → ArePartDossiers i nodes (take (k + 1) lists) (ds ++ d ∷ [])
one_more i nodes lists k ds tasks d l e are is =
    subst (λ ls. ArePartDossiers i nodes ls (ds ++ d ∷ [])) (ap (λ t. take k lists ++ t ∷ []) (sym e) ∙ sym (take_more lists k [] l)) (one_behind i nodes (take k lists) ds tasks d are is)

-- ---- they are good

pub all_good : (i : Instance) (nodes : ℕ) (lists : List (List ℕ)) (ds : List Dossier) → ArePartDossiers i nodes lists ds → All IsGood ds
all_good i nodes [] [] are = All-nil IsGood
all_good i nodes [] (d ∷ ds) are = absurd are
all_good i nodes (tasks ∷ lists) [] are = absurd are
all_good i nodes (tasks ∷ lists) (d ∷ ds) are = All-cons IsGood d ds are.0.alone.good (all_good i nodes lists ds are.1)
