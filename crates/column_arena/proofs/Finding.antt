-- what a look-up in order tells
use Rattle.std.proofs.Common.{◌≡◌, ◌<◌, inl, inr, ℕ, Bool, false, List, [], ◌∷◌, ◌++◌, length, get_or, Option, None, Some, sym, ◌∙◌, arith, true≢false}
use Rattle.std.specs.Prelude.{MatchOption}
use Rattle.std.specs.List.{list_any, position, position_or_len}
use Rattle.std.proofs.lemmas.Bool.{cases_lt, cond_below, cond-false, false_from_ne_true}
use Rattle.std.proofs.lemmas.List.Quantifiers.{position-Some}
use Rattle.std.proofs.lemmas.List.Folds.{list_any_none}
use Rattle.indexmap.specs.IndexSet.{insert_key}
use Rattle.std.proofs.lemmas.List.Sums.{fails_before_first}
use Rattle.crew_terms.specs.Limits.{Route}
use Rattle.route_terms.specs.Keys.{same_route}
use Rattle.route_terms.specs.KeyLaws.{same_route_decides}
use Rattle.route_terms.specs.Routes.{IsNew}
use Rattle.column_arena.specs.Columns.{column_of, no_column}

pub position-None : {X : Type 0} (p : X → Bool) (xs : List X) (k : ℕ) (d : X) → position p xs ≡ None → k < length xs → p (get_or xs k d) ≡ false
position-None p xs k d none below = elim (cases_lt (position_or_len p xs) (length xs)) [
  | inl l ↦ absurd (let some : Some (position_or_len p xs) ≡ position p xs = cond_below (position_or_len p xs) (length xs) (Some (position_or_len p xs)) None l in cc)
  | inr past ↦ fails_before_first p xs k d (omega arith)
]

-- the place of an equal column, or that there is none
pub found : (cs : List Route) (r : Route) (at : Option ℕ) → at ≡ position (same_route r) cs
    → MatchOption at (IsNew cs r) (λ id. (id < length cs) × (column_of cs id ≡ r))
found cs r None e = λ k d below same.
    true≢false (sym ((same_route_decides r (get_or cs k d)).1 (sym same)) ∙ position-None (same_route r) cs k d (sym e) below)
found cs r (Some id) e =
    let at = position-Some (same_route r) cs id no_column (sym e) in
    (at.0, sym ((same_route_decides r (column_of cs id)).0 at.1))

-- a column that has no equal goes last
pub inserted : (cs : List Route) (r : Route) → IsNew cs r → insert_key same_route cs r ≡ cs ++ r ∷ []
inserted cs r fresh = cond-false (list_any (same_route r) cs) cs (cs ++ r ∷ [])
    (list_any_none (same_route r) cs (λ k d below. false_from_ne_true _ (λ same. fresh k d below (sym ((same_route_decides r (get_or cs k d)).0 same)))))
