-- columns of forbidden pairs are no routes, and the legal ones so far
use Rattle.std.proofs.Common.{◌≡◌, ◌<◌, ◌≤◌, ◌+◌, inl, inr, ℕ, zero, suc, Bool, true, false, List, [], ◌∷◌, ◌++◌, length, map, take, get_or, set, length-set, sym, ap, subst, ◌∙◌, arith}
use Rattle.std.proofs.lemmas.Bool.{cases_eq, cases_lt}
use Rattle.std.proofs.lemmas.List.{get_or-set_other, map-append, take_more, take_all}
use Rattle.crew_terms.specs.declared.Visit.{Visit}
use Rattle.crew_terms.specs.declared.Pair.TheVariants.{Forbidden}
use Rattle.crew_terms.specs.Limits.{Limits, IsRoute, GoesOn, IsPermittedVisit, pair_of}
use Rattle.crew_terms.specs.Limits.{Route}
use Rattle.search_terms.specs.Earned.{AreLegalOf}
use Rattle.search_terms.specs.Earned.AreLegalOf.{None, Kept, Left}
use Rattle.share_terms.specs.Shares.{IsRouteIn}
use Rattle.column_arena.specs.Columns.{AreNumbersWith, IsUsing, column_of, no_column}
use Rattle.column_arena.specs.Legal.{AreRuledOut, IsLegalColumn}
use Rattle.column_arena.proofs.Numbers.{numbers_of_none, numbers_same, numbers_push}

later_permitted : (n : Limits) (k : ℕ) (v : Visit) (vs : List Visit) → GoesOn n k v vs → (m : ℕ) (d : Visit) → m < length vs
    → IsPermittedVisit n k (get_or vs m d).task (get_or vs m d).start
later_permitted n k v [] h m d below = absurd (omega arith)
later_permitted n k v (w ∷ ws) h zero d below = h.1
later_permitted n k v (w ∷ ws) h (suc m) d below = later_permitted n k w ws h.2 m d (omega arith)

pub visit_permitted : (n : Limits) (k : ℕ) (vs : List Visit) → IsRoute n k vs → (m : ℕ) (d : Visit) → m < length vs
    → IsPermittedVisit n k (get_or vs m d).task (get_or vs m d).start
visit_permitted n k [] h m d below = absurd (omega arith)
visit_permitted n k (v ∷ vs) h zero d below = h.0
visit_permitted n k (v ∷ vs) h (suc m) d below = later_permitted n k v vs h.1 m d (omega arith)

pub not_legal : (n : Limits) (cs : List Route) (k j id : ℕ) → pair_of n k j ≡ Forbidden → IsUsing cs k j id → IsLegalColumn n cs id → ⊥
not_legal n cs k j id forbidden uses legal =
    let (m, v, below, is, task) = uses.visits in
    let vs = (column_of cs id).visits in
    let p = visit_permitted n (column_of cs id).team vs legal.route.route m v below in
    let e : pair_of n (column_of cs id).team (get_or vs m v).task ≡ pair_of n k j =
    ap (λ t. pair_of n t (get_or vs m v).task) uses.team ∙ ap (λ (w : Visit). pair_of n k w.task) is ∙ ap (pair_of n k) task in
    p.allowed (e ∙ forbidden)

pub ruled_more : (n : Limits) (cs : List Route) (marks : List Bool) (id : ℕ) → AreRuledOut n cs marks → (IsLegalColumn n cs id → ⊥)
    → AreRuledOut n cs (set marks id true)
ruled_more n cs marks id are not = record {
  each = length-set marks id true ∙ are.each;
  out = λ i marked legal. elim (cases_eq i id) [
    | inl e ↦ not (subst (IsLegalColumn n cs) e legal)
    | inr ne ↦ are.out i (sym (get_or-set_other marks id i true false ne) ∙ marked) legal
  ];
}

-- the legal columns with numbers below id
pub record IsLegalBelow (n : Limits) (cs : List Route) (id i : ℕ) : Type 0 where
  pub below : i < id
  pub legal : IsLegalColumn n cs i

-- the numbers of the legal columns below id, and the routes that they name
pub record AreLegalSoFar (n : Limits) (cs : List Route) (id : ℕ) (ids : List ℕ) : Type 0 where
  pub numbers : AreNumbersWith (IsLegalBelow n cs id) ids
  pub routes : AreLegalOf n (take id cs) (map (column_of cs) ids)

module _ (n : Limits) where
  legal_none : (cs rs : List Route) (c : Route) → AreLegalOf n cs rs → (IsRouteIn n c → ⊥) → AreLegalOf n (cs ++ c ∷ []) rs
  legal_none cs rs c None not = Left c not None
  legal_none cs rs c (Kept r legal rest) not = Kept r legal (legal_none _ _ c rest not)
  legal_none cs rs c (Left r illegal rest) not = Left r illegal (legal_none _ _ c rest not)

  legal_one : (cs rs : List Route) (c : Route) → AreLegalOf n cs rs → IsRouteIn n c → AreLegalOf n (cs ++ c ∷ []) (rs ++ c ∷ [])
  legal_one cs rs c None is = Kept c is None
  legal_one cs rs c (Kept r legal rest) is = Kept r legal (legal_one _ _ c rest is)
  legal_one cs rs c (Left r illegal rest) is = Left r illegal (legal_one _ _ c rest is)

  module _ (cs : List Route) (id : ℕ) (below : id < length cs) (ids : List ℕ) (so : AreLegalSoFar n cs id ids) where
    pub legal_skip : (IsRouteIn n (column_of cs id) → ⊥) → AreLegalSoFar n cs (id + 1) ids
    legal_skip not = record {
      numbers = numbers_same ids so.numbers (λ i. (
        (λ h. record { below = let b = h.below in omega arith; legal = h.legal }),
        (λ h. elim (cases_lt i id) [
          | inl l ↦ record { below = l; legal = h.legal }
          | inr l ↦ absurd (let b = h.below in let e : i ≡ id = omega arith in not (subst (λ i. IsRouteIn n (column_of cs i)) e h.legal.route))
        ]),
      ));
      routes = subst (λ front. AreLegalOf n front (map (column_of cs) ids)) (sym (take_more cs id no_column below))
          (legal_none (take id cs) (map (column_of cs) ids) (column_of cs id) so.routes not);
    }

    pub legal_push : IsRouteIn n (column_of cs id) → AreLegalSoFar n cs (id + 1) (ids ++ id ∷ [])
    legal_push legal = record {
      numbers = numbers_push ids id so.numbers (λ i h. h.below)
          (λ i h. record { below = let b = h.below in omega arith; legal = h.legal })
          (record { below = omega arith; legal = record { known = below; route = legal } })
          (λ i h. elim (cases_lt i id) [
            | inl l ↦ inl (record { below = l; legal = h.legal })
            | inr l ↦ inr (let b = h.below in omega arith)
          ]);
      routes = subst (λ front. AreLegalOf n front (map (column_of cs) (ids ++ id ∷ []))) (sym (take_more cs id no_column below))
          (subst (AreLegalOf n (take id cs ++ column_of cs id ∷ [])) (sym (map-append (column_of cs) ids (id ∷ [])))
          (legal_one (take id cs) (map (column_of cs) ids) (column_of cs id) so.routes legal));
    }

  pub legal_end : (cs : List Route) (id : ℕ) (ids : List ℕ) → length cs ≤ id → AreLegalSoFar n cs id ids
      → AreNumbersWith (IsLegalColumn n cs) ids × AreLegalOf n cs (map (column_of cs) ids)
  legal_end cs id ids long so = (
    numbers_same ids so.numbers (λ i. ((λ h. h.legal), (λ h. record { below = let b = h.known in omega arith; legal = h }))),
    subst (λ front. AreLegalOf n front (map (column_of cs) ids)) (take_all id cs long) so.routes,
  )

  pub legal_start : (cs : List Route) → AreLegalSoFar n cs 0 []
  legal_start cs = record { numbers = numbers_of_none (λ i h. let b = h.below in omega arith); routes = None }
