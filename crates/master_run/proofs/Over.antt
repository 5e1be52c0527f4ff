-- the run over all legal columns, and over one more
use Rattle.std.proofs.Common.{◌≡◌, ◌<◌, ◌≤◌, ◌+◌, ℕ, List, [], ◌∷◌, ◌++◌, length, length-append, get_or, take, drop, All, sym, ap, subst, refl, ◌∙◌, arith}
use Rattle.std.specs.List.Sorted.{IsStrictlyIncreasing}
use Rattle.std.proofs.lemmas.List.{append-nil, map-append, get_or-take, length-take, take_more, take-append-drop, get_or_push}
use Rattle.std.proofs.lemmas.Grind.{get_or_default_zero}
use Rattle.std.proofs.lemmas.List.Elements.{All-weaker}
use Rattle.std.proofs.lemmas.List.Kept.{AllPairs-from_increasing}
use Rattle.std.specs.Prelude.{Result, Ok, Err, OnOk, IfErr, Contains}
use Rattle.crew_terms.specs.Limits.{Limits, Route, teams_in}
use Rattle.search_terms.specs.Opening.{places}
use Rattle.search_terms.specs.declared.Place.TheVariants.{Unused}
use Rattle.search_terms.specs.Earned.{AreLegalOf}
use Rattle.search_terms.specs.Search.{IsColumn}
use Rattle.frac_master.specs.Follows.{FollowsList}
use Rattle.column_arena.specs.Columns.{IsAdded, column_of, no_column}
use Rattle.master_run.specs.State.{routes_of}
use Rattle.column_arena.specs.Columns.IsAdded.{Stood, Last}
use Rattle.master_run.specs.State.{RunState}
use Rattle.master_run.specs.Along.{Halts, HaltsAfter, IsAtOptimum, IsOver}
use Rattle.master_run.specs.declared.halt.Halt.{Halt}
use Rattle.master_run.proofs.Growing.{legal_one, routes_of-grown, routes_of-last}

-- numbers before one of a rising list are below it
pub below_next : (ids : List ℕ) (i id : ℕ) → IsStrictlyIncreasing ids → i < length ids → get_or ids i 0 ≡ id → All (λ other. other < id) (take i ids)
below_next ids i id rising known is k d below =
    let short : k < i = omega (arith, length-take {A = ℕ}) in
    let less = AllPairs-from_increasing ids rising k i 0 short known in
    let within : k < length ids = omega arith in
    subst (λ x. x < id) (sym (get_or-take i ids k d short ∙ get_or_default_zero ids k d within)) (subst (λ x. get_or ids k 0 < x) is less)

-- a run that goes no further after the first of the legal columns goes no further over all of them
pub halts_within : (n : Limits) (pivots : ℕ) (cs : List Route) (ids front back : List ℕ) (h : Halt) → HaltsAfter n pivots (routes_of cs front) h
    → ids ≡ front ++ back → AreLegalOf n cs (routes_of cs ids) → Halts n pivots cs h
halts_within n pivots cs ids front back h halts is legal =
    halts cs (routes_of cs back) (subst (AreLegalOf n cs) (ap (routes_of cs) is ∙ map-append (column_of cs) front back) legal)

-- the first numbers of a list, the next one, and the others
pub parted : (ids front : List ℕ) (i : ℕ) → front ≡ take i ids → i < length ids → ids ≡ (front ++ get_or ids i 0 ∷ []) ++ drop (i + 1) ids
parted ids front i is known =
    sym (ap (λ l. l ++ drop (i + 1) ids) (ap (λ l. l ++ get_or ids i 0 ∷ []) is ∙ sym (take_more ids i 0 known)) ∙ take-append-drop (i + 1) ids)

-- ---- a column more

module _ (n : Limits) (cs : List Route) (c : Route) (r : RunState) where
  pub at_grown : IsAtOptimum n cs r → IsAtOptimum n (cs ++ c ∷ []) r
  at_grown at = record {
    along = record {
      known = All-weaker (λ id. id < length cs) (λ id. id < length (cs ++ c ∷ [])) (λ id below. let e = length-append cs (c ∷ []) in omega arith) r.ids at.along.known;
      rise = at.along.rise;
      entered = at.along.entered;
      made = at.along.made;
      count = at.along.count;
      follows = subst (λ rs. FollowsList n rs at.along.made r.master) (sym (routes_of-grown cs c r.ids at.along.known)) at.along.follows;
    };
    done = at.done;
    some = at.some;
  }

  -- the last column's route is the last of the legal ones
  pub legal_last : IsOver n cs r → IsColumn n c → AreLegalOf n (cs ++ c ∷ []) (routes_of (cs ++ c ∷ []) (r.ids ++ length cs ∷ []))
  legal_last over is = subst (AreLegalOf n (cs ++ c ∷ [])) (sym (routes_of-last cs c r.ids over.at.along.known))
      (legal_one n cs (routes_of cs r.ids) c over.legal is.legal)

-- ---- a route that was added

pub added_column : (cs more : List Route) (c : Route) (id : ℕ) → IsAdded cs c id more → column_of more id ≡ c
added_column cs more c id (Stood known equal same) = ap (λ l. column_of l id) same ∙ equal
added_column cs more c id (Last fresh number last) =
    ap (λ l. column_of l id) last ∙ ap (column_of (cs ++ c ∷ [])) number ∙ get_or_push cs c no_column (length cs) refl

added_last : (cs more : List Route) (c : Route) (id : ℕ) → IsAdded cs c id more → length cs ≤ id → (id ≡ length cs) × (more ≡ cs ++ c ∷ [])
added_last cs more c id (Stood known equal same) past = absurd (omega arith)
added_last cs more c id (Last fresh number last) past = (number, last)

module _ (n : Limits) (cs more : List Route) (c : Route) (id : ℕ) (old : RunState) (over : IsOver n cs old) (is : IsColumn n c)
    (added : IsAdded cs c id more) (past : length cs ≤ id) where
  pub at_more : IsAtOptimum n more old
  at_more = subst (λ l. IsAtOptimum n l old) (sym (added_last cs more c id added past).1) (at_grown n cs c old over.at)

  legal_more : AreLegalOf n more (routes_of more (old.ids ++ id ∷ []))
  legal_more =
      let (number, last) = added_last cs more c id added past in
      subst (λ l. AreLegalOf n l (routes_of l (old.ids ++ id ∷ []))) (sym last)
      (subst (λ i. AreLegalOf n (cs ++ c ∷ []) (routes_of (cs ++ c ∷ []) (old.ids ++ i ∷ []))) (sym number) (legal_last n cs c old over is))

  pub over_more : (new : RunState) (r : Result (Unit {0}) Halt) → OnOk r (new.ids ≡ old.ids ++ id ∷ []) → OnOk r (IsAtOptimum n more new)
      → OnOk r (IsOver n more new)
  over_more new (Ok x) ids at = record { at = at; legal = subst (λ l. AreLegalOf n more (routes_of more l)) (sym ids) legal_more }
  over_more new (Err e) ids at = tt

  pub halts_more : (r : Result (Unit {0}) Halt) → IfErr r (HaltsAfter n old.pivots (routes_of more (old.ids ++ id ∷ [])))
      → IfErr r (Halts n old.pivots more)
  halts_more (Ok x) halts = tt
  halts_more (Err e) halts = halts more [] (subst (AreLegalOf n more) (sym (append-nil (routes_of more (old.ids ++ id ∷ [])))) legal_more)

  -- a team of the node has an unused share
  pub team_stands : ((k : ℕ) → k < teams_in n → Contains (places n) (Unused k)) → Contains old.master.places (Unused (column_of more id).team)
  team_stands stand = subst (λ ps. Contains ps (Unused (column_of more id).team)) (sym over.at.along.follows.places)
      (stand (column_of more id).team (subst (λ (r : Route). r.team < teams_in n) (sym (added_column cs more c id added)) is.legal.team))
