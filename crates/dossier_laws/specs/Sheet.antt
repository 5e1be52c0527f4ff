-- a small dossier, and its lines
use Rattle.std.specs.Prelude.{List, [], ◌∷◌, None, Some, codes}
use Rattle.std.specs.Fmt.{decimal}
use Rattle.crew_terms.specs.Words.{Words}
use Rattle.crew_terms.specs.Instance.{Instance}
use Rattle.crew_terms.specs.Plan.{Plan}
use Rattle.dossier_terms.specs.declared.DossierForm.TheVariants.{One}
use Rattle.dossier_terms.specs.Dossier.{Dossier}
use Rattle.crew_terms.specs.Branches.{LeafNode, Bare}

-- a team of skills 0 and 2, a task that needs skill 2, and one that needs two teams
abbrev pub sheet_instance : Instance
sheet_instance = record {
  places = codes "BASE" ∷ codes "G1" ∷ [];
  teams = record { name = codes "T1"; home = 0; from = 360; until = 840; skills = 5 } ∷ [];
  tasks = record { name = codes "J1"; place = 1; earliest = 400; latest = 410; minutes = 30; teams = 1; skills = 4 }
      ∷ record { name = codes "J2"; place = 0; earliest = 500; latest = 500; minutes = 15; teams = 2; skills = 0 } ∷ [];
  travel = (0 ∷ 7 ∷ []) ∷ (8 ∷ 0 ∷ []) ∷ [];
  frozen = None ∷ None ∷ [];
}

-- the first task is begun at 405, and the second one is not
abbrev pub sheet_plan : Plan
sheet_plan = Some (record { start = 405; teams = 0 ∷ [] }) ∷ None ∷ []

abbrev pub sheet : Dossier
sheet = record { form = One; instance = sheet_instance; budget = 0; kept = 0; pool = []; plan = sheet_plan; bound = 0; tree = LeafNode Bare }

abbrev pub sheet_lines : List Words
sheet_lines = (codes "crew" ∷ codes "dossier" ∷ codes "1" ∷ [])
    ∷ (codes "size" ∷ decimal 1 ∷ decimal 2 ∷ decimal 2 ∷ decimal 0 ∷ [])
    ∷ (codes "place" ∷ codes "BASE" ∷ [])
    ∷ (codes "place" ∷ codes "G1" ∷ [])
    ∷ (codes "travel" ∷ decimal 0 ∷ decimal 7 ∷ [])
    ∷ (codes "travel" ∷ decimal 8 ∷ decimal 0 ∷ [])
    ∷ (codes "team" ∷ codes "T1" ∷ decimal 0 ∷ decimal 360 ∷ decimal 840 ∷ decimal 0 ∷ decimal 2 ∷ [])
    ∷ (codes "task" ∷ codes "J1" ∷ decimal 1 ∷ decimal 400 ∷ decimal 410 ∷ decimal 30 ∷ decimal 1 ∷ decimal 2 ∷ [])
    ∷ (codes "task" ∷ codes "J2" ∷ decimal 0 ∷ decimal 500 ∷ decimal 500 ∷ decimal 15 ∷ decimal 2 ∷ [])
    ∷ (codes "pool" ∷ decimal 0 ∷ decimal 0 ∷ [])
    ∷ (codes "plan" ∷ decimal 1 ∷ decimal 0 ∷ [])
    ∷ (codes "do" ∷ decimal 0 ∷ decimal 405 ∷ decimal 0 ∷ [])
    ∷ (codes "tree" ∷ decimal 0 ∷ decimal 0 ∷ decimal 1 ∷ decimal 0 ∷ [])
    ∷ (codes "leaf" ∷ codes "bare" ∷ [])
    ∷ (codes "end" ∷ [])
    ∷ []
