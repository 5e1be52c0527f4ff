-- the opening rows of one team, and one task for two teams that it is required at
use Rattle.std.proofs.Common.{◌≡◌, [], ◌∷◌, refl, None}
use Rattle.std.specs.Prelude.{pos, negsuc}
use Rattle.crew_terms.specs.Instance.{no_team}
use Rattle.crew_terms.specs.Limits.{Limits, Route}
use Rattle.crew_terms.specs.declared.Pair.TheVariants.{Free, Required}
use Rattle.search_terms.specs.declared.Place.TheVariants.{Right, Value, Unused, Shortage, Excess, Missed, Repeated}
use Rattle.search_terms.specs.Opening.{places, opening, entered}

abbrev one : Limits
one = record {
  instance = record { places = []; teams = no_team ∷ []; tasks = record { name = []; place = 0; earliest = 0; latest = 0; minutes = 0; teams = 2; skills = 0 } ∷ []; travel = []; frozen = None ∷ [] };
  windows = (0, 0) ∷ [];
  pairs = (Required ∷ []) ∷ [];
}

abbrev free : Limits
free = record one { pairs = (Free ∷ []) ∷ [] }

places_one : places one ≡ Right ∷ Value ∷ Unused 0 ∷ Shortage 0 ∷ Excess 0 ∷ Missed 0 0 ∷ Repeated 0 0 ∷ []
places_one = refl

rows_one : (opening one).rows ≡
    (pos 1 ∷ pos 0 ∷ pos 1 ∷ pos 0 ∷ pos 0 ∷ pos 0 ∷ pos 0 ∷ []) ∷
    (pos 2 ∷ pos 0 ∷ pos 0 ∷ pos 1 ∷ negsuc 0 ∷ pos 0 ∷ pos 0 ∷ []) ∷
    (pos 1 ∷ pos 0 ∷ pos 0 ∷ pos 0 ∷ pos 0 ∷ pos 1 ∷ negsuc 0 ∷ []) ∷
    (pos 3000000 ∷ pos 1 ∷ pos 0 ∷ pos 0 ∷ negsuc 1999999 ∷ pos 0 ∷ negsuc 1999999 ∷ []) ∷ []
rows_one = refl

basis_one : (opening one).basis ≡ 2 ∷ 3 ∷ 5 ∷ 1 ∷ []
basis_one = refl

rows_free : (opening free).rows ≡
    (pos 1 ∷ pos 0 ∷ pos 1 ∷ pos 0 ∷ pos 0 ∷ pos 0 ∷ []) ∷
    (pos 2 ∷ pos 0 ∷ pos 0 ∷ pos 2 ∷ pos 1 ∷ negsuc 0 ∷ []) ∷
    (pos 2000000 ∷ pos 1 ∷ pos 0 ∷ pos 1999999 ∷ pos 0 ∷ negsuc 1999999 ∷ []) ∷ []
rows_free = refl

abbrev visit_once : Route
visit_once = record { team = 0; visits = record { task = 0; start = 0 } ∷ [] }

entered_one : (entered (places one) visit_once (opening one)).rows ≡
    (pos 1 ∷ pos 0 ∷ pos 1 ∷ pos 0 ∷ pos 0 ∷ pos 0 ∷ pos 0 ∷ pos 1 ∷ []) ∷
    (pos 2 ∷ pos 0 ∷ pos 0 ∷ pos 1 ∷ negsuc 0 ∷ pos 0 ∷ pos 0 ∷ pos 1 ∷ []) ∷
    (pos 1 ∷ pos 0 ∷ pos 0 ∷ pos 0 ∷ pos 0 ∷ pos 1 ∷ negsuc 0 ∷ pos 1 ∷ []) ∷
    (pos 3000000 ∷ pos 1 ∷ pos 0 ∷ pos 0 ∷ negsuc 1999999 ∷ pos 0 ∷ negsuc 1999999 ∷ pos 2000000 ∷ []) ∷ []
entered_one = refl
