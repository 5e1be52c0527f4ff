-- the tasks of a route's visits are the node's
use Rattle.std.proofs.Common.{◌≡◌, ◌<◌, ℕ, zero, suc, List, [], ◌∷◌, ◌++◌, length, set, get_or, cond, ap, sym, ◌∙◌, subst, append-nil, arith, ◌⊎◌, inl, inr}
use Rattle.std.specs.Prelude.{◌==◌}
use Rattle.std.proofs.lemmas.Bool.{cases_eq, eq-eqb, ne_eqb}
use Rattle.std.proofs.lemmas.List.{get_or-set_same, get_or-set_other}
use Rattle.std.proofs.lemmas.List.Elements.{filter-append}
use Rattle.crew_terms.specs.Limits.{Limits, IsRoute, GoesOn, tasks_in, teams_in}
use Rattle.crew_terms.specs.declared.Visit.{Visit}
use Rattle.share_terms.specs.Shares.{Share, shares_of}
use Rattle.share_check.specs.CellSums.{visit_at}
use Rattle.share_check.specs.Summed.{IsSumsOf}
use Rattle.share_check.specs.declared.sums.Sums.{Sums}

goes_known : (n : Limits) (k : ℕ) (v : Visit) (vs : List Visit) → GoesOn n k v vs → (i : ℕ) → i < length vs → (visit_at vs i).task < tasks_in n
goes_known n k v [] g i l = absurd (omega arith)
goes_known n k v (w ∷ ws) g zero l = g.1.known
goes_known n k v (w ∷ ws) g (suc i) l = goes_known n k w ws g.2 i (omega arith)

pub route_known : (n : Limits) (k : ℕ) (vs : List Visit) → IsRoute n k vs → (i : ℕ) → i < length vs → (visit_at vs i).task < tasks_in n
route_known n k [] g i l = absurd (omega arith)
route_known n k (v ∷ vs) g zero l = g.0.known
route_known n k (v ∷ vs) g (suc i) l = goes_known n k v vs g.1 i (omega arith)

-- the same of visits that are these
pub known_at : (n : Limits) (k : ℕ) (vs us : List Visit) → us ≡ vs → IsRoute n k vs → (i : ℕ) → i < length us → (visit_at us i).task < tasks_in n
known_at n k vs us same g i l = route_known n k us (subst (IsRoute n k) (sym same) g) i l

-- ---- the shares of a team, with one more share

pub pushed_own : (shares : List Share) (r : Share) (k : ℕ) → k ≡ r.route.team → shares_of (shares ++ r ∷ []) k ≡ shares_of shares k ++ r ∷ []
pushed_own shares r k e = filter-append (λ (s : Share). k == s.route.team) shares (r ∷ []) ∙ ap (λ b. shares_of shares k ++ cond b (r ∷ []) []) (eq-eqb k r.route.team e)

pub pushed_other : (shares : List Share) (r : Share) (k : ℕ) → (k ≡ r.route.team → ⊥) → shares_of (shares ++ r ∷ []) k ≡ shares_of shares k
pushed_other shares r k e = filter-append (λ (s : Share). k == s.route.team) shares (r ∷ []) ∙ ap (λ b. shares_of shares k ++ cond b (r ∷ []) []) (ne_eqb k r.route.team e) ∙ append-nil (shares_of shares k)

-- the sums of each team, where those of one are put in place of others
pub teams_put : (n : Limits) (whole : ℕ) (shares : List Share) (r : Share) (teams : List Sums) (new : Sums) → length teams ≡ teams_in n → r.route.team < teams_in n
    → ((k : ℕ) (d : Sums) → k < teams_in n → IsSumsOf (tasks_in n) whole (shares_of shares k) (get_or teams k d)) → IsSumsOf (tasks_in n) whole (shares_of shares r.route.team ++ r ∷ []) new
    → (k : ℕ) (d : Sums) → k < teams_in n → IsSumsOf (tasks_in n) whole (shares_of (shares ++ r ∷ []) k) (get_or (set teams r.route.team new) k d)
teams_put n whole shares r teams new count known h one k d l = at (cases_eq k r.route.team)
  where
    at : (k ≡ r.route.team) ⊎ (k ≡ r.route.team → ⊥) → IsSumsOf (tasks_in n) whole (shares_of (shares ++ r ∷ []) k) (get_or (set teams r.route.team new) k d)
    at (inl e) =
        let here : get_or (set teams r.route.team new) k d ≡ new = ap (λ i. get_or (set teams r.route.team new) i d) e ∙ get_or-set_same teams r.route.team new d (omega arith) in
        let own : shares_of shares r.route.team ++ r ∷ [] ≡ shares_of (shares ++ r ∷ []) k = ap (λ i. shares_of shares i ++ r ∷ []) (sym e) ∙ sym (pushed_own shares r k e) in
        subst (λ (s : Sums). IsSumsOf (tasks_in n) whole (shares_of (shares ++ r ∷ []) k) s) (sym here) (subst (λ (ss : List Share). IsSumsOf (tasks_in n) whole ss new) own one)
    at (inr e) =
        subst (λ (s : Sums). IsSumsOf (tasks_in n) whole (shares_of (shares ++ r ∷ []) k) s) (sym (get_or-set_other teams r.route.team k new d e))
        (subst (λ (ss : List Share). IsSumsOf (tasks_in n) whole ss (get_or teams k d)) (sym (pushed_other shares r k e)) (h k d l))
