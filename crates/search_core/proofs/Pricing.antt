-- what the open leaves below a loose split prove
use Rattle.std.proofs.Common.{◌≡◌, ◌≤◌, ◌<◌, ◌+◌, ◌-◌, ◌*◌, ◌++◌, ◌⊎◌, ◌↔◌, ◌≤ℤ◌, ◌<ℤ◌, ◌+ℤ◌, ◌*ℤ◌, inl, inr, ℕ, ℤ, zero, suc, pos, List, Option, None, Some, refl, sym, subst, arith}
use Rattle.std.proofs.lemmas.Bool.{cases_lt}
use Rattle.std.proofs.lemmas.Int.{by_lt_z, ints}
use Rattle.std.proofs.lemmas.Nat.{mul-le}
use Rattle.std.specs.Prelude.{IfSome}
use Rattle.crew_terms.specs.Instance.{Instance}
use Rattle.crew_terms.specs.Plan.{Plan}
use Rattle.node_solver.specs.Plans.{IsBetterPlan, now_after}
use Rattle.crew_terms.specs.Leaf.{Prices, Proves, bound_of}
use Rattle.crew_terms.specs.Limits.{Limits, Route, tasks_in}
use Rattle.crew_terms.specs.declared.TheConstants.{D}
use Rattle.node_solver.specs.Causes.{cause_of}
use Rattle.node_solver.specs.Loose.{IsShownLoose, IsShown}
use Rattle.node_solver.specs.declared.step.NodeEnd.TheVariants as ends
use Rattle.node_solver.specs.declared.step.Why.{Why}
use Rattle.node_solver.specs.declared.step.Why.TheVariants.{Loose, Overflow, Spent}
use Rattle.crew_terms.specs.declared.Choice.{Choice}
use Rattle.label_pricing.specs.Worths.{AreWorths}
use Rattle.crew_num.specs.Ring.{times_up_to}
use Rattle.master_laws.specs.declared.losses.TheConstants.{MOST_LOSS}
use Rattle.search_core.specs.Shown.{IsShownWhy}
use Rattle.search_terms.specs.Caused.{LooseProves, ProveNearly}
use Rattle.search_terms.specs.Proven.{PricesProve}
use Rattle.share_terms.specs.Shares.{FractionalChoice, choice_value}
use Rattle.share_terms.specs.declared.TheConstants.{MARGIN}
use Rattle.search_core.proofs.Showing.{choice_grown}

-- a bound near to the value of a choice proves what the value nearly proves
near_proved : (m whole : ℕ) (v b : ℤ) → 1 ≤ whole → (pos D *ℤ v) ≤ℤ (pos whole *ℤ (b +ℤ pos MOST_LOSS))
    → pos ((m * D + MARGIN) * whole) <ℤ (pos D *ℤ v) → pos (m * D) <ℤ b
near_proved m whole v b some near less =
    by_lt_z (pos (m * D)) b (λ lt. lt) (λ le.
    let a = times_up_to (pos whole) (b +ℤ pos MOST_LOSS) (pos (m * D + MARGIN)) (omega (arith, ints)) (omega (arith, ints)) in
    let e : (m * D + MARGIN) * whole ≡ whole * (m * D + MARGIN) = omega arith in
    let p : pos whole *ℤ pos (m * D + MARGIN) ≡ pos (whole * (m * D + MARGIN)) = refl in
    absurd (omega (arith, ints)))

-- a loose value nearly proves fewer tasks
near_few : (m r whole : ℕ) (v : ℤ) → (pos 1000 *ℤ v) ≤ℤ (pos (1000 * r + 1) *ℤ pos whole) → pos ((m * D + MARGIN) * whole) <ℤ (pos D *ℤ v) → m < r
near_few m r whole v loose less = by (cases_lt m r)
  where
    by : (m < r) ⊎ (r ≤ m) → m < r
    by (inl lt) = lt
    by (inr le) =
        let a : (r * D + MARGIN) * whole ≤ (m * D + MARGIN) * whole = mul-le (r * D + MARGIN) whole (m * D + MARGIN) whole (omega arith) (omega arith) in
        let e : (r * D + MARGIN) * whole ≡ 840000 * ((1000 * r + 1) * whole) = omega arith in
        let p : pos (1000 * r + 1) *ℤ pos whole ≡ pos ((1000 * r + 1) * whole) = refl in
        absurd (omega (arith, ints))

near_proves : (n : Limits) (now : ℕ) (found : Prices) (c : FractionalChoice) (shown : IsShownLoose n now found c) → now ≤ tasks_in n
    → ((l : ℕ) → PricesProve n found l ↔ Proves (bound_of n found shown.worths) l) → ProveNearly n c n found
near_proves n now found c shown most decides zero nearly = (omega arith, (decides 0).1 tt)
near_proves n now found c shown most decides (suc m) nearly =
    let less : m < now - 1 = near_few m (now - 1) c.whole (choice_value n c) shown.loose nearly in (
      omega (arith, less, most),
      (decides (suc m)).1 (near_proved m c.whole (choice_value n c) _ shown.fractional.some shown.near nearly),
    )

-- what a step says of its split
pub found_proves : (n : Limits) (now : ℕ) (columns : List Route) (choice : Choice) (why : Why) (found : Prices) → IsShown n now columns (ends.Split choice why found)
    → now ≤ tasks_in n → ((worths : List ℤ) (l : ℕ) → AreWorths n found worths → PricesProve n found l ↔ Proves (bound_of n found worths) l)
    → LooseProves n found (cause_of columns why)
found_proves n now columns choice (Loose den shares left_open) found shown most decides = near_proves n now found _ shown most (λ l. decides shown.worths l shown.worth)
found_proves n now columns choice (Overflow fault) found shown most decides = tt
found_proves n now columns choice Spent found shown most decides = tt

-- the count to be proved is no more than the tasks
pub now_most : (i : Instance) (best most : ℕ) (found : Option Plan) → IfSome found (IsBetterPlan i best) → best ≤ most → now_after best found ≤ most
now_most i best most None better less = less
now_most i best most (Some p) better less = let f = better.fewer in omega (arith, f, less)

-- with columns more
pub proves_grown : (n : Limits) (now : ℕ) (columns rest : List Route) (why : Why) (found : Prices) → IsShownWhy columns n now why
    → LooseProves n found (cause_of columns why) → LooseProves n found (cause_of (columns ++ rest) why)
proves_grown n now columns rest (Loose den shares left_open) found shown near =
    subst (λ (c : FractionalChoice). ProveNearly n c n found) (sym (choice_grown columns rest n den shares left_open shown.held.legal)) near
proves_grown n now columns rest (Overflow fault) found shown near = tt
proves_grown n now columns rest Spent found shown near = tt
