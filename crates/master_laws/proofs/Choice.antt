-- at an optimum the shares of routes and of unassigned tasks are a fractional choice, of the value of the value's row
use Rattle.std.proofs.Common.{◌≡◌, ◌≢◌, ◌≤◌, ◌<◌, ◌+◌, ◌-◌, ◌*◌, ◌∙◌, ℕ, suc, zero, List, [], ◌∷◌, length, get_or, refl, ap, sym, arith, subst, Bool, true, false, cond, filter, ◌⊎◌, inl, inr}
use Rattle.std.specs.Prelude.{ℤ, pos, ◌+ℤ◌, ◌-ℤ◌, ◌*ℤ◌, ◌≤ℤ◌, ◌<ℤ◌, sum_by}
use Rattle.std.proofs.Math.Dec.{eqb}
use Rattle.std.proofs.lemmas.Bool.{cases_eq}
use Rattle.std.proofs.lemmas.Bool.Decides.{eqb_tells}
use Rattle.std.proofs.lemmas.Int.{ints}
use Rattle.std.proofs.lemmas.List.Sums.{sum_by-cons}
use Rattle.std.proofs.Math.IntN.{*ℤ_comm, *ℤ-zero, zero-*ℤ}
use Rattle.crew_terms.specs.Limits.{Limits, Route}
use Rattle.crew_terms.specs.Total.{total}
use Rattle.search_terms.specs.declared.Place.{Place}
use Rattle.search_terms.specs.declared.Place.TheVariants.{Right, Value, Unused, Unassigned, Shortage, Excess, Missed, Repeated}
use Rattle.search_terms.specs.Rows.{Rows, number, row_of, basic_of, last, AreBasic}
use Rattle.search_terms.specs.Opening.{variables, places, places_where, one_if}
use Rattle.share_terms.specs.Shares.{Share, distance}
use Rattle.crew_num.specs.Ring.{assoc, swap, scale_sum, scale_diff, cancel_zero, not_negative, cancel_up_to, difference_times}
use Rattle.crew_terms.specs.Totals.{total-same, total-front}
use Rattle.master_laws.proofs.Totals.{total-scale}
use Rattle.master_laws.proofs.Duals.{no_route}
use Rattle.master_laws.proofs.Basic.{IsBasicSolution}
use Rattle.master_laws.proofs.Known.{variable_at, amount}
use Rattle.master_laws.proofs.Amounts.{open_at}
use Rattle.search_terms.specs.declared.TheConstants.{RIGHT, VALUE}
use Rattle.search_terms.specs.BasicChoice.{HasParts, is_unassigned_at, route_shares}
use Rattle.master_laws.proofs.Below.{is_of}

-- ---- numbers
pub cancel_equal : (c a b : ℤ) → pos 0 <ℤ c → c *ℤ a ≡ c *ℤ b → a ≡ b
cancel_equal c a b up e =
    let f = scale_diff c a b in
    let h : c *ℤ (a -ℤ b) ≡ pos 0 = omega (arith, ints) in
    let i = cancel_zero c (a -ℤ b) up h in
    omega (arith, ints)

pub cancel_equal_right : (a b c : ℤ) → pos 0 <ℤ c → a *ℤ c ≡ b *ℤ c → a ≡ b
cancel_equal_right a b c up e = cancel_equal c a b up (*ℤ_comm c a ∙ e ∙ *ℤ_comm b c)

-- so many parts of q each against x of w each
pub record AreSame (q w : ℤ) (parts : ℕ) (x : ℤ) : Type 0 where
  pub is : pos parts *ℤ w ≡ q *ℤ x

-- ---- is a variable basic?
find : (m : ℕ) (f : ℕ → ℕ) (j : ℕ) → ((h : ℕ) × (h < m) × (f h ≡ j)) ⊎ ((h : ℕ) → h < m → f h ≡ j → ⊥)
find zero f j = inr (λ h lt e. absurd (omega arith))
find (suc m) f j = by_case (find m f j) (cases_eq (f m) j)
  where
    by_case : ((h : ℕ) × (h < m) × (f h ≡ j)) ⊎ ((h : ℕ) → h < m → f h ≡ j → ⊥) → (f m ≡ j) ⊎ (f m ≢ j)
        → ((h : ℕ) × (h < suc m) × (f h ≡ j)) ⊎ ((h : ℕ) → h < suc m → f h ≡ j → ⊥)
    by_case (inl q) r = inl (q.0, omega (arith, q.1), q.2)
    by_case (inr q) (inl e) = inl (m, omega arith, e)
    by_case (inr q) (inr ne) = inr (λ h lt e. by_last h lt e (cases_eq h m))
      where
        by_last : (h : ℕ) → h < suc m → f h ≡ j → (h ≡ m) ⊎ (h ≢ m) → ⊥
        by_last h lt e (inl s) = ne (sym (ap f s) ∙ e)
        by_last h lt e (inr s) = q h (omega arith) e

-- shares of one basic solution, in different parts
pub same_parts : (t : Rows) (whole : ℕ) (w : ℤ) (x : ℕ → ℤ) (j parts : ℕ) → AreBasic t → IsBasicSolution t w x → HasParts t whole j parts → VALUE < j → AreSame (pos whole) w parts (x j)
same_parts t whole w x j parts b s h above = by_case (find (last t) (basic_of t) j)
  where
    by_case : ((i : ℕ) × (i < last t) × (basic_of t i ≡ j)) ⊎ ((i : ℕ) → i < last t → basic_of t i ≡ j → ⊥) → AreSame (pos whole) w parts (x j)
    by_case (inr none) =
        let e = ap (λ k. pos k *ℤ w) (h.idle none) ∙ zero-*ℤ w in
        let f = ap (λ z. pos whole *ℤ z) (s.idle j above none) ∙ *ℤ-zero (pos whole) in
        record { is = e ∙ sym f }
    by_case (inl (i, lt, e)) =
        let q = pos whole in
        let in_i : i < length t.rows = omega arith in
        let c = number (row_of t i) j in
        let r = number (row_of t i) RIGHT in
        let one = h.basic i lt e in
        let two = ap (λ k. number (row_of t i) k *ℤ x k) (sym e) ∙ s.is i in_i in
        let up : pos 0 <ℤ c = subst (λ k. pos 0 <ℤ number (row_of t i) k) e (b.positive i in_i) in
        let left = sym (assoc c (pos parts) w) ∙ ap (λ z. z *ℤ w) one ∙ assoc r q w in
        let right = swap c q (x j) ∙ ap (λ z. q *ℤ z) two ∙ swap q r w in
        record { is = cancel_equal c (pos parts *ℤ w) (q *ℤ x j) up (left ∙ sym right) }

-- ---- the unassigned shares
where_total : (test : Place → Bool) (x : ℕ → ℕ) (ps : List Place) (at : ℕ) → pos (sum_by x (places_where test at ps)) ≡ total (length ps) (λ i. cond (test (get_or ps i Right)) (pos (x (at + i))) (pos 0))
where_total test x [] at = refl
where_total test x (p ∷ ps) at = by_test (test p) refl (where_total test x ps (suc at))
  where
    by_test : (b : Bool) → test p ≡ b → pos (sum_by x (places_where test (suc at) ps)) ≡ total (length ps) (λ i. cond (test (get_or ps i Right)) (pos (x (suc at + i))) (pos 0))
        → pos (sum_by x (cond b (at ∷ places_where test (suc at) ps) (places_where test (suc at) ps))) ≡ total (suc (length ps)) (λ i. cond (test (get_or (p ∷ ps) i Right)) (pos (x (at + i))) (pos 0))
    by_test true e h =
        let f = total-front (length ps) (λ i. cond (test (get_or (p ∷ ps) i Right)) (pos (x (at + i))) (pos 0)) in
        let g = total-same (length ps) (λ i. cond (test (get_or ps i Right)) (pos (x (suc at + i))) (pos 0)) (λ i. cond (test (get_or ps i Right)) (pos (x (at + suc i))) (pos 0))
        (λ i _. ap (λ k. cond (test (get_or ps i Right)) (pos (x k)) (pos 0)) (omega arith)) in
        let c = ap pos (sum_by-cons x at (places_where test (suc at) ps)) in
        let d : cond (test p) (pos (x (at + 0))) (pos 0) ≡ pos (x at) = ap (λ b. cond b (pos (x (at + 0))) (pos 0)) e ∙ ap (λ k. pos (x k)) (omega arith) in
        omega (arith, ints)
    by_test false e h =
        let f = total-front (length ps) (λ i. cond (test (get_or (p ∷ ps) i Right)) (pos (x (at + i))) (pos 0)) in
        let g = total-same (length ps) (λ i. cond (test (get_or ps i Right)) (pos (x (suc at + i))) (pos 0)) (λ i. cond (test (get_or ps i Right)) (pos (x (at + suc i))) (pos 0))
        (λ i _. ap (λ k. cond (test (get_or ps i Right)) (pos (x k)) (pos 0)) (omega arith)) in
        let d : cond (test p) (pos (x (at + 0))) (pos 0) ≡ pos 0 = ap (λ b. cond b (pos (x (at + 0))) (pos 0)) e in
        omega (arith, ints)

abbrev pub open_parts : Limits → (ℕ → ℕ) → ℕ → ℕ
open_parts n x j = sum_by x (places_where (is_unassigned_at j) 0 (places n))

-- whole numbers of parts, against the basic solution
pub record AreAll (n : Limits) (routes : List Route) (q w : ℤ) (parts : ℕ → ℕ) (x : ℕ → ℤ) : Type 0 where
  pub of_routes : (i : ℕ) → i < length routes → AreSame q w (parts (length (places n) + i)) (x (length (places n) + i))
  pub of_tasks : (i j : ℕ) → i < length (variables n) → variable_at n i ≡ Unassigned j → AreSame q w (parts (suc (suc i))) (x (suc (suc i)))

pub open_same : (n : Limits) (routes : List Route) (q w : ℤ) (parts : ℕ → ℕ) (x : ℕ → ℤ) (j : ℕ) → AreAll n routes q w parts x → pos (open_parts n parts j) *ℤ w ≡ q *ℤ amount n x (open_at j)
open_same n routes q w parts x j a =
    let l = length (variables n) in
    let f : ℕ → ℤ = λ i. cond (is_unassigned_at j (variable_at n i)) (pos (parts (2 + i))) (pos 0) in
    let g : ℕ → ℤ = λ i. open_at j (variable_at n i) *ℤ x (suc (suc i)) in
    let e = ap (λ z. z *ℤ w) (where_total (is_unassigned_at j) parts (variables n) 2) in
    let c = *ℤ_comm (total l f) w ∙ total-scale l w f in
    let d = total-same l (λ i. w *ℤ f i) (λ i. q *ℤ g i) (λ i lt. *ℤ_comm w (f i) ∙ each i lt (variable_at n i) refl) in
    e ∙ c ∙ d ∙ sym (total-scale l q g)
  where
    zeros : (y : ℤ) → pos 0 *ℤ w ≡ q *ℤ (pos 0 *ℤ y)
    zeros y = zero-*ℤ w ∙ sym (ap (λ z. q *ℤ z) (zero-*ℤ y) ∙ *ℤ-zero q)

    each : (i : ℕ) → i < length (variables n) → (p : Place) → variable_at n i ≡ p
        → cond (is_unassigned_at j p) (pos (parts (2 + i))) (pos 0) *ℤ w ≡ q *ℤ (open_at j p *ℤ x (suc (suc i)))
    each i lt (Unassigned h) e = by_test (eqb h j)
      where
        by_test : (b : Bool) → cond b (pos (parts (2 + i))) (pos 0) *ℤ w ≡ q *ℤ (one_if b *ℤ x (suc (suc i)))
        by_test true =
            let two : 2 + i ≡ suc (suc i) = omega arith in
            let one : pos 1 *ℤ x (suc (suc i)) ≡ x (suc (suc i)) = omega (arith, ints) in
            ap (λ k. pos (parts k) *ℤ w) two ∙ (a.of_tasks i h lt e).is ∙ ap (λ z. q *ℤ z) (sym one)
        by_test false = zeros (x (suc (suc i)))
    each i lt Right e = zeros (x (suc (suc i)))
    each i lt Value e = zeros (x (suc (suc i)))
    each i lt (Unused h) e = zeros (x (suc (suc i)))
    each i lt (Shortage h) e = zeros (x (suc (suc i)))
    each i lt (Excess h) e = zeros (x (suc (suc i)))
    each i lt (Missed k h) e = zeros (x (suc (suc i)))
    each i lt (Repeated k h) e = zeros (x (suc (suc i)))

-- ---- the shares of routes
pub shares_total : (x : ℕ → ℕ) (g : Share → ℕ) (a : Route → ℕ) → ((r : Route) (m : ℕ) → g (record { route = r; parts = m }) ≡ m * a r)
    → (rs : List Route) (at : ℕ) → pos (sum_by g (route_shares x at rs)) ≡ total (length rs) (λ i. pos (a (get_or rs i no_route)) *ℤ pos (x (at + i)))
shares_total x g a is [] at = refl
shares_total x g a is (r ∷ rs) at = by_test (eqb_tells (x at) 0) (shares_total x g a is rs (suc at))
  where
    rest : total (length rs) (λ i. pos (a (get_or rs i no_route)) *ℤ pos (x (suc at + i))) ≡ total (length rs) (λ i. pos (a (get_or rs i no_route)) *ℤ pos (x (at + suc i)))
    rest = total-same (length rs) (λ i. pos (a (get_or rs i no_route)) *ℤ pos (x (suc at + i))) (λ i. pos (a (get_or rs i no_route)) *ℤ pos (x (at + suc i)))
        (λ i _. ap (λ k. pos (a (get_or rs i no_route)) *ℤ pos (x k)) (omega arith))

    by_test : ((eqb (x at) 0 ≡ true) × (x at ≡ 0)) ⊎ ((eqb (x at) 0 ≡ false) × (x at ≢ 0))
        → pos (sum_by g (route_shares x (suc at) rs)) ≡ total (length rs) (λ i. pos (a (get_or rs i no_route)) *ℤ pos (x (suc at + i)))
        → pos (sum_by g (cond (eqb (x at) 0) (route_shares x (suc at) rs) (record { route = r; parts = x at } ∷ route_shares x (suc at) rs)))
        ≡ total (suc (length rs)) (λ i. pos (a (get_or (r ∷ rs) i no_route)) *ℤ pos (x (at + i)))
    by_test (inl q) h =
        let f = total-front (length rs) (λ i. pos (a (get_or (r ∷ rs) i no_route)) *ℤ pos (x (at + i))) in
        let c = rest in
        let d : pos (a r) *ℤ pos (x (at + 0)) ≡ pos 0 = ap (λ k. pos (a r) *ℤ pos (x k)) (let z : at + 0 ≡ at = omega arith in z) ∙ ap (λ k. pos (a r) *ℤ pos k) q.1 ∙ *ℤ-zero (pos (a r)) in
        rw q.0 (omega (arith, ints))
    by_test (inr q) h =
        let f = total-front (length rs) (λ i. pos (a (get_or (r ∷ rs) i no_route)) *ℤ pos (x (at + i))) in
        let c = rest in
        let d : pos (a r) *ℤ pos (x (at + 0)) ≡ pos (x at) *ℤ pos (a r) = ap (λ k. pos (a r) *ℤ pos (x k)) (let z : at + 0 ≡ at = omega arith in z) ∙ *ℤ_comm (pos (a r)) (pos (x at)) in
        let e = ap pos (sum_by-cons g (record { route = r; parts = x at }) (route_shares x (suc at) rs)) in
        let i : pos (g (record { route = r; parts = x at })) ≡ pos (x at) *ℤ pos (a r) = ap pos (is r (x at)) in
        rw q.0 (omega (arith, ints))

pub team_total : (k : ℕ) (x : ℕ → ℕ) (g : Share → ℕ) (a : Route → ℕ) → ((r : Route) (m : ℕ) → g (record { route = r; parts = m }) ≡ m * a r)
    → (rs : List Route) (at : ℕ) → pos (sum_by g (filter (is_of k) (route_shares x at rs)))
    ≡ total (length rs) (λ i. cond (eqb k (get_or rs i no_route).team) (pos (a (get_or rs i no_route))) (pos 0) *ℤ pos (x (at + i)))
team_total k x g a is [] at = refl
team_total k x g a is (r ∷ rs) at = by_test (eqb_tells (x at) 0) (eqb k r.team) refl (team_total k x g a is rs (suc at))
  where
    rest : total (length rs) (λ i. cond (eqb k (get_or rs i no_route).team) (pos (a (get_or rs i no_route))) (pos 0) *ℤ pos (x (suc at + i)))
        ≡ total (length rs) (λ i. cond (eqb k (get_or rs i no_route).team) (pos (a (get_or rs i no_route))) (pos 0) *ℤ pos (x (at + suc i)))
    rest = total-same (length rs) (λ i. cond (eqb k (get_or rs i no_route).team) (pos (a (get_or rs i no_route))) (pos 0) *ℤ pos (x (suc at + i)))
        (λ i. cond (eqb k (get_or rs i no_route).team) (pos (a (get_or rs i no_route))) (pos 0) *ℤ pos (x (at + suc i)))
        (λ i _. ap (λ j. cond (eqb k (get_or rs i no_route).team) (pos (a (get_or rs i no_route))) (pos 0) *ℤ pos (x j)) (omega arith))

    by_test : ((eqb (x at) 0 ≡ true) × (x at ≡ 0)) ⊎ ((eqb (x at) 0 ≡ false) × (x at ≢ 0)) → (b : Bool) → eqb k r.team ≡ b
        → pos (sum_by g (filter (is_of k) (route_shares x (suc at) rs))) ≡ total (length rs) (λ i. cond (eqb k (get_or rs i no_route).team) (pos (a (get_or rs i no_route))) (pos 0) *ℤ pos (x (suc at + i)))
        → pos (sum_by g (filter (is_of k) (cond (eqb (x at) 0) (route_shares x (suc at) rs) (record { route = r; parts = x at } ∷ route_shares x (suc at) rs))))
        ≡ total (suc (length rs)) (λ i. cond (eqb k (get_or (r ∷ rs) i no_route).team) (pos (a (get_or (r ∷ rs) i no_route))) (pos 0) *ℤ pos (x (at + i)))
    by_test (inl q) b t h =
        let z : ℤ = cond (eqb k r.team) (pos (a r)) (pos 0) in
        let f = total-front (length rs) (λ i. cond (eqb k (get_or (r ∷ rs) i no_route).team) (pos (a (get_or (r ∷ rs) i no_route))) (pos 0) *ℤ pos (x (at + i))) in
        let c = rest in
        let d : z *ℤ pos (x (at + 0)) ≡ pos 0 = ap (λ j. z *ℤ pos (x j)) (let z : at + 0 ≡ at = omega arith in z) ∙ ap (λ j. z *ℤ pos j) q.1 ∙ *ℤ-zero z in
        rw q.0 (omega (arith, ints))
    by_test (inr q) true t h =
        let s : Share = record { route = r; parts = x at } in
        let z : ℤ = cond (eqb k r.team) (pos (a r)) (pos 0) in
        let f = total-front (length rs) (λ i. cond (eqb k (get_or (r ∷ rs) i no_route).team) (pos (a (get_or (r ∷ rs) i no_route))) (pos 0) *ℤ pos (x (at + i))) in
        let c = rest in
        let u : z ≡ pos (a r) = ap (λ b. cond b (pos (a r)) (pos 0)) t in
        let d : z *ℤ pos (x (at + 0)) ≡ pos (x at) *ℤ pos (a r) = ap (λ j. z *ℤ pos (x j)) (let z : at + 0 ≡ at = omega arith in z) ∙ ap (λ y. y *ℤ pos (x at)) u ∙ *ℤ_comm (pos (a r)) (pos (x at)) in
        let l = ap (λ b. pos (sum_by g (cond b (s ∷ filter (is_of k) (route_shares x (suc at) rs)) (filter (is_of k) (route_shares x (suc at) rs))))) t in
        let e = ap pos (sum_by-cons g s (filter (is_of k) (route_shares x (suc at) rs))) in
        let i : pos (g s) ≡ pos (x at) *ℤ pos (a r) = ap pos (is r (x at)) in
        rw q.0 (omega (arith, ints))
    by_test (inr q) false t h =
        let s : Share = record { route = r; parts = x at } in
        let z : ℤ = cond (eqb k r.team) (pos (a r)) (pos 0) in
        let f = total-front (length rs) (λ i. cond (eqb k (get_or (r ∷ rs) i no_route).team) (pos (a (get_or (r ∷ rs) i no_route))) (pos 0) *ℤ pos (x (at + i))) in
        let c = rest in
        let u : z ≡ pos 0 = ap (λ b. cond b (pos (a r)) (pos 0)) t in
        let d : z *ℤ pos (x (at + 0)) ≡ pos 0 = ap (λ y. y *ℤ pos (x (at + 0))) u ∙ zero-*ℤ (pos (x (at + 0))) in
        let l = ap (λ b. pos (sum_by g (cond b (s ∷ filter (is_of k) (route_shares x (suc at) rs)) (filter (is_of k) (route_shares x (suc at) rs))))) t in
        rw q.0 (omega (arith, ints))

-- sums of shares, against those of the basic solution
pub taken_same : (n : Limits) (routes : List Route) (q w : ℤ) (parts : ℕ → ℕ) (x : ℕ → ℤ) (a : ℕ → ℤ) → AreAll n routes q w parts x
    → total (length routes) (λ i. a i *ℤ pos (parts (length (places n) + i))) *ℤ w ≡ q *ℤ total (length routes) (λ i. a i *ℤ x (length (places n) + i))
taken_same n routes q w parts x a all =
    let l = length routes in
    let f : ℕ → ℤ = λ i. a i *ℤ pos (parts (length (places n) + i)) in
    let g : ℕ → ℤ = λ i. a i *ℤ x (length (places n) + i) in
    *ℤ_comm (total l f) w ∙ total-scale l w f
    ∙ total-same l (λ i. w *ℤ f i) (λ i. q *ℤ g i) (λ i lt. *ℤ_comm w (f i) ∙ assoc (a i) (pos (parts (length (places n) + i))) w
    ∙ ap (λ z. a i *ℤ z) (all.of_routes i lt).is ∙ swap (a i) q (x (length (places n) + i)))
    ∙ sym (total-scale l q g)

-- ---- gaps
pub gap_is : (a b : ℕ) (q w s e : ℤ) → pos 0 <ℤ w → pos 0 ≤ℤ q → pos 0 ≤ℤ s → pos 0 ≤ℤ e → (s ≡ pos 0) ⊎ (e ≡ pos 0)
    → (pos b *ℤ w) +ℤ (q *ℤ s) ≡ (pos a *ℤ w) +ℤ (q *ℤ e) → pos (distance a b) *ℤ w ≡ q *ℤ (s +ℤ e)
gap_is a b q w s e up low low_s low_e (inl z) h =
    let f = not_negative q e low low_e in
    let zs = ap (λ y. q *ℤ y) z ∙ *ℤ-zero q in
    let c1 = *ℤ_comm w (pos a) in
    let c2 = *ℤ_comm w (pos b) in
    let le = cancel_up_to w (pos a) (pos b) up (omega (arith, ints)) in
    let less : a ≤ b = omega (arith, ints) in
    let d : distance a b ≡ b - a = omega arith in
    let i : pos (b - a) ≡ pos b -ℤ pos a = omega (arith, ints) in
    let j = difference_times (pos b) (pos a) w in
    let k = scale_sum q s e in
    ap (λ m. pos m *ℤ w) d ∙ ap (λ y. y *ℤ w) i ∙ omega (arith, ints)
gap_is a b q w s e up low low_s low_e (inr z) h =
    let f = not_negative q s low low_s in
    let zs = ap (λ y. q *ℤ y) z ∙ *ℤ-zero q in
    let c1 = *ℤ_comm w (pos a) in
    let c2 = *ℤ_comm w (pos b) in
    let le = cancel_up_to w (pos b) (pos a) up (omega (arith, ints)) in
    let less : b ≤ a = omega (arith, ints) in
    let d : distance a b ≡ a - b = omega arith in
    let i : pos (a - b) ≡ pos a -ℤ pos b = omega (arith, ints) in
    let j = difference_times (pos a) (pos b) w in
    let k = scale_sum q s e in
    ap (λ m. pos m *ℤ w) d ∙ ap (λ y. y *ℤ w) i ∙ omega (arith, ints)
