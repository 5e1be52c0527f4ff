-- how little is lost, and what that says of the shares
use Rattle.std.proofs.Common.{◌≡◌, ◌<◌, ◌≤◌, ◌+◌, ◌*◌, ◌-◌, ◌∙◌, ℕ, zero, suc, Bool, true, false, cond, refl, ap, sym, arith}
use Rattle.std.specs.Prelude.{ℤ, pos, ◌+ℤ◌, ◌*ℤ◌, ◌≤ℤ◌, ◌<ℤ◌}
use Rattle.std.proofs.lemmas.Int.{by_lt_z, ints}
use Rattle.std.proofs.Math.IntN.{*ℤ_comm}
use Rattle.crew_terms.specs.Instance.{no_task}
use Rattle.crew_terms.specs.Leaf.{Proves}
use Rattle.crew_terms.specs.Limits.{Limits, is_required, pair_of, tasks_in, teams_in}
use Rattle.crew_terms.specs.Rules.{IsInstance}
use Rattle.crew_terms.specs.Total.{total}
use Rattle.crew_terms.specs.declared.TheConstants.{D}
use Rattle.search_terms.specs.Opening.{teams_for}
use Rattle.share_terms.specs.Shares.{FractionalChoice, IsLoose, choice_value}
use Rattle.master_laws.specs.declared.losses.TheConstants.{MOST_LOSS}
use Rattle.master_laws.specs.Loss.{rounding_loss}
use Rattle.crew_num.specs.Ring.{cancel_up_to, swap}
use Rattle.master_laws.proofs.Rounding.{times_low}

total_most : (n c : ℕ) (f : ℕ → ℤ) → ((i : ℕ) → i < n → f i ≤ℤ pos c) → total n f ≤ℤ pos (c * n)
total_most zero c f h = omega (arith, ints)
total_most (suc n) c f h =
    let again = total_most n c f (λ i lt. h i (omega arith)) in
    let last = h n (omega arith) in
    let e : c * suc n ≡ c * n + c = omega arith in
    omega (arith, ints)

pub little : (n : Limits) → IsInstance n.instance → rounding_loss n ≤ℤ pos MOST_LOSS
little n is =
    let tasks = is.parts.few_tasks in
    let teams = is.parts.few_teams in
    let a = total_most (tasks_in n) 8 (λ j. pos (teams_for n j)) (λ j lt. let few = (is.parts.tasks j no_task lt).teams.few in omega (arith, ints)) in
    let b = total_most (teams_in n) 400 (λ k. total (tasks_in n) (λ j. cond (is_required (pair_of n k j)) (pos 1) (pos 0))) (λ k in_k.
    let m = total_most (tasks_in n) 1 (λ j. cond (is_required (pair_of n k j)) (pos 1) (pos 0)) (λ j _. one (is_required (pair_of n k j))) in
    omega (arith, ints)) in
    omega (arith, ints)
  where
    one : (b : Bool) → cond b (pos 1) (pos 0) ≤ℤ pos 1
    one true = omega (arith, ints)
    one false = omega (arith, ints)

-- in the parts of a choice of the rows' value
pub in_parts : (w value bound loss cv : ℤ) (whole : ℕ) → pos 0 <ℤ w → loss ≤ℤ pos MOST_LOSS → (pos D *ℤ value) ≤ℤ (w *ℤ (bound +ℤ loss)) → w *ℤ cv ≡ value *ℤ pos whole
    → (pos D *ℤ cv) ≤ℤ (pos whole *ℤ (bound +ℤ pos MOST_LOSS))
in_parts w value bound loss cv whole up few h e =
    let q = pos whole in
    let low : pos 0 ≤ℤ w = omega (arith, ints) in
    let more = times_low w (bound +ℤ loss) (bound +ℤ pos MOST_LOSS) low (omega (arith, ints)) in
    let a = times_low q (pos D *ℤ value) (w *ℤ (bound +ℤ pos MOST_LOSS)) (omega (arith, ints)) (omega (arith, ints)) in
    let b = swap q (pos D) value in
    let c = ap (λ z. pos D *ℤ z) (*ℤ_comm q value ∙ sym e) ∙ swap (pos D) w cv in
    let d = swap q w (bound +ℤ pos MOST_LOSS) in
    cancel_up_to w (pos D *ℤ cv) (q *ℤ (bound +ℤ pos MOST_LOSS)) up (omega (arith, ints))

pub loose : (n : Limits) (choice : FractionalChoice) (bound : ℤ) (now : ℕ) → 1 ≤ now → (Proves bound now → ⊥)
    → (pos D *ℤ choice_value n choice) ≤ℤ (pos choice.whole *ℤ (bound +ℤ pos MOST_LOSS)) → IsLoose n choice (1000 * (now - 1) + 1) 1000
loose n choice bound zero some unproved h = absurd (omega arith)
loose n choice bound (suc l) some unproved h =
    let q = choice.whole in
    let most = by_lt_z (pos (l * D)) bound (λ lt. absurd (unproved lt)) (λ le. le) in
    let a = times_low (pos q) (bound +ℤ pos MOST_LOSS) (pos (l * D + 840000)) (omega (arith, ints)) (omega (arith, ints)) in
    let b : q * (l * D + 840000) ≡ 840000 * ((1000 * l + 1) * q) = parts q l in
    let c : suc l - 1 ≡ l = omega arith in
    let d = ap (λ k. pos (1000 * k + 1) *ℤ pos q) c in
    let p : pos q *ℤ pos (l * D + 840000) ≡ pos (q * (l * D + 840000)) = refl in
    let r : pos (1000 * l + 1) *ℤ pos q ≡ pos ((1000 * l + 1) * q) = refl in
    omega (arith, ints)
  where
    parts : (q l : ℕ) → q * (l * D + 840000) ≡ 840000 * ((1000 * l + 1) * q)
    parts q l = omega arith
