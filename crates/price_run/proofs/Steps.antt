-- one more step of a price run
use Rattle.std.proofs.Common.{◌≡◌, ◌≤◌, ◌<◌, ◌+◌, ◌⊎◌, inl, inr, ℕ, zero, suc, List, [], ◌∷◌, ◌++◌, length, map, refl, ap, sym, subst, ◌∙◌, arith}
use Rattle.std.specs.Prelude.{ℤ, ◌≤ℤ◌, ◌<ℤ◌, ◌-ℤ◌}
use Rattle.std.specs.List.{range_with_len}
use Rattle.std.proofs.Math.ListN.{get_or-append}
use Rattle.std.proofs.Math.Seq.{get_or-append_seam}
use Rattle.std.proofs.lemmas.Bool.{cases_eq}
use Rattle.std.proofs.lemmas.Int.{ints, by_lt_z}
use Rattle.std.proofs.lemmas.List.{length-append}
use Rattle.crew_terms.specs.Instance.{Instance}
use Rattle.crew_terms.specs.Leaf.{IsWorth, worth_of}
use Rattle.crew_terms.specs.Limits.{Limits, root_limits}
use Rattle.crew_terms.specs.Total.{total}
use Rattle.crew_terms.specs.Totals.{total-same}
use Rattle.crew_terms.specs.declared.Visit.{Visit}
use Rattle.squeeze_terms.specs.Bound.{IsMinuteBound, IsMostProved, minute_term}
use Rattle.squeeze_terms.specs.MinutePrices.{MinutePrices, minute_price, zero_minute_prices}
use Rattle.squeeze_terms.specs.Run.{AreBestRoutes, IsPriceRun, demand_minute, next_prices, prices_after, routes_at}
use Rattle.squeeze_terms.specs.Squeezed.{IsFirstGreatest, IsSqueezed}
use Rattle.price_run.specs.RunState.{IsRunAfter}
use Rattle.price_run.specs.declared.runs.Best.{Best}
use Rattle.price_run.specs.declared.runs.Run.{Run}

-- ---- one bound

one_worth : (n : Limits) (k : ℕ) (w : ℕ → ℕ → ℤ) (v z : ℤ) → IsWorth n k w v → IsWorth n k w z → v ≡ z
one_worth n k w v z a b =
    let low = b.greatest a.attained.0 a.attained.1 in
    let high = a.greatest b.attained.0 b.attained.1 in
    let e = a.attained.2 in
    let f = b.attained.2 in
    omega (arith, ints)

-- prices have one bound
pub one_bound : (i : Instance) (p : MinutePrices) (a b : ℤ) → IsMinuteBound i p a → IsMinuteBound i p b → a ≡ b
one_bound i p a b x y =
    let same = total-same (length i.teams) (worth_of x.worths) (worth_of y.worths)
    (λ k l. one_worth (root_limits i) k (minute_price i p) (worth_of x.worths k) (worth_of y.worths k) (x.each.each k l) (y.each.each k l)) in
    x.sum ∙ ap (λ t. total (length i.tasks) (minute_term i p) -ℤ t) same ∙ sym y.sum

-- before the first step
pub first_bound : (i : Instance) (b : ℤ) → IsMinuteBound i (prices_after i [] 0) b → IsFirstGreatest i [] 0 b
first_bound i b is = record {
  known = omega arith;
  here = is;
  greatest = λ s c l other.
      let e : s ≡ 0 = omega arith in
      let same = one_bound i (prices_after i [] 0) c b (subst (λ z. IsMinuteBound i (prices_after i [] z) c) e other) is in
      omega (arith, ints);
  first = λ s c l other. absurd (omega arith);
}

-- ---- the trace with one more step

module _ (i : Instance) (trace : List (List (List Visit))) (routes : List (List Visit)) where
  abbrev pub more : List (List (List Visit))
  more = trace ++ routes ∷ []

  routes_same : (s : ℕ) → s < length trace → routes_at more s ≡ routes_at trace s
  routes_same s l = get_or-append trace (routes ∷ []) [] s l

  routes_last : routes_at more (length trace) ≡ routes
  routes_last = get_or-append_seam trace routes [] []

  pub length_more : length more ≡ length trace + 1
  length_more = length-append trace (routes ∷ []) ∙ omega arith

  pub prices_same : (s : ℕ) → s ≤ length trace → prices_after i more s ≡ prices_after i trace s
  prices_same zero l = refl
  prices_same (suc s) l =
      ap (λ p. next_prices i s p (routes_at more s)) (prices_same s (omega arith))
      ∙ ap (next_prices i s (prices_after i trace s)) (routes_same s (omega arith))

  pub prices_last : (s t : ℕ) → length trace ≡ s → t ≡ s + 1 → prices_after i more t ≡ next_prices i s (prices_after i trace s) routes
  prices_last s t e f =
      let g : t ≡ suc s = omega arith in
      let h : routes_at more s ≡ routes = ap (routes_at more) (sym e) ∙ routes_last in
      ap (prices_after i more) g ∙ ap (λ p. next_prices i s p (routes_at more s)) (prices_same s (omega arith)) ∙ ap (next_prices i s (prices_after i trace s)) h

  pub run_more : IsPriceRun i trace → AreBestRoutes i (prices_after i trace (length trace)) routes → IsPriceRun i more
  run_more run best s l = by (cases_eq s (length trace))
    where
      by : (s ≡ length trace) ⊎ (s ≡ length trace → ⊥) → AreBestRoutes i (prices_after i more s) (routes_at more s)
      by (inl e) =
          subst (λ z. AreBestRoutes i (prices_after i more z) (routes_at more z)) (sym e)
          (subst (AreBestRoutes i (prices_after i more (length trace))) (sym routes_last) (subst (λ p. AreBestRoutes i p routes) (sym (prices_same (length trace) (omega arith))) best))
      by (inr ne) =
          let before : s < length trace = let m = length_more in omega arith in
          subst (AreBestRoutes i (prices_after i more s)) (sym (routes_same s before)) (subst (λ p. AreBestRoutes i p (routes_at trace s)) (sym (prices_same s (omega arith))) (run s before))

  module _ (best : ℕ) (bound : ℤ) (is : IsFirstGreatest i trace best bound) (b : ℤ) (last : IsMinuteBound i (prices_after i more (length trace + 1)) b) where
    older : (s : ℕ) (c : ℤ) → s ≤ length trace → IsMinuteBound i (prices_after i more s) c → IsMinuteBound i (prices_after i trace s) c
    older s c l = subst (λ p. IsMinuteBound i p c) (prices_same s l)

    -- the new bound is greater
    pub better : bound <ℤ b → IsFirstGreatest i more (length trace + 1) b
    better above = record {
      known = let m = length_more in omega arith;
      here = last;
      greatest = λ s c l other. at s c l other (cases_eq s (length trace + 1));
      first = λ s c l other. let a = is.greatest s c (omega arith) (older s c (omega arith) other) in omega (arith, ints);
    }
      where
        at : (s : ℕ) (c : ℤ) → s ≤ length more → IsMinuteBound i (prices_after i more s) c → (s ≡ length trace + 1) ⊎ (s ≡ length trace + 1 → ⊥) → c ≤ℤ b
        at s c l other (inl e) = let a = one_bound i (prices_after i more (length trace + 1)) c b (subst (λ z. IsMinuteBound i (prices_after i more z) c) e other) last in omega (arith, ints)
        at s c l other (inr ne) =
            let before : s ≤ length trace = let m = length_more in omega arith in
            let a = is.greatest s c before (older s c before other) in omega (arith, ints)

    -- it is not
    pub not_better : b ≤ℤ bound → IsFirstGreatest i more best bound
    not_better below = record {
      known = let m = length_more in let k = is.known in omega arith;
      here = subst (λ p. IsMinuteBound i p bound) (sym (prices_same best is.known)) is.here;
      greatest = λ s c l other. at s c l other (cases_eq s (length trace + 1));
      first = λ s c l other. let k = is.known in is.first s c l (older s c (omega arith) other);
    }
      where
        at : (s : ℕ) (c : ℤ) → s ≤ length more → IsMinuteBound i (prices_after i more s) c → (s ≡ length trace + 1) ⊎ (s ≡ length trace + 1 → ⊥) → c ≤ℤ bound
        at s c l other (inl e) = let a = one_bound i (prices_after i more (length trace + 1)) c b (subst (λ z. IsMinuteBound i (prices_after i more z) c) e other) last in omega (arith, ints)
        at s c l other (inr ne) =
            let before : s ≤ length trace = let m = length_more in omega arith in
            is.greatest s c before (older s c before other)

-- ---- runs

-- the prices after one step more
pub prices_step : (i : Instance) (trace : List (List (List Visit))) (s : ℕ) → prices_after i trace (s + 1) ≡ next_prices i s (prices_after i trace s) (routes_at trace s)
prices_step i trace s = let e : s + 1 ≡ suc s = omega arith in ap (prices_after i trace) e

-- before the first step
pub begun : (i : Instance) (run : Run) (bound : ℤ) → run.trace ≡ [] → run.prices ≡ zero_minute_prices i → run.demands.items ≡ map (demand_minute i run.prices) (range_with_len 0 (length i.tasks))
    → AreBestRoutes i run.prices run.routes → IsMinuteBound i run.prices bound → run.best ≡ record { steps = 0; bound = bound } → IsRunAfter i 0 run
begun i run bound trace prices demands routes is best = record {
  count = ap length trace;
  is_run = λ s l. let e = ap length trace in absurd (omega arith);
  prices_are = prices;
  demands_are = demands;
  routes_are = routes;
  greatest = subst (λ (b : Best). IsFirstGreatest i run.trace b.steps b.bound) (sym best)
      (subst (λ t. IsFirstGreatest i t 0 bound) (sym trace) (first_bound i bound (subst (λ p. IsMinuteBound i p bound) prices is)));
}

-- after one step more
pub advanced : (i : Instance) (s : ℕ) (old run : Run) (bound : ℤ) → IsRunAfter i s old → run.trace ≡ old.trace ++ old.routes ∷ [] → run.prices ≡ next_prices i s old.prices old.routes
    → run.demands.items ≡ map (demand_minute i run.prices) (range_with_len 0 (length i.tasks)) → AreBestRoutes i run.prices run.routes → IsMinuteBound i run.prices bound
    → (old.best.bound <ℤ bound → run.best ≡ record { steps = s + 1; bound = bound }) → (bound ≤ℤ old.best.bound → run.best ≡ old.best) → IsRunAfter i (s + 1) run
advanced i s old run bound is trace prices demands routes bound_is greater kept = record {
  count = ap length trace ∙ length_more i old.trace old.routes ∙ ap (λ n. n + 1) is.count;
  is_run = subst (IsPriceRun i) (sym trace) (run_more i old.trace old.routes is.is_run (subst (λ p. AreBestRoutes i p old.routes) (is.prices_are ∙ ap (prices_after i old.trace) (sym is.count)) is.routes_are));
  prices_are = here ∙ ap (λ t. prices_after i t (s + 1)) (sym trace);
  demands_are = demands;
  routes_are = routes;
  greatest = subst (λ t. IsFirstGreatest i t run.best.steps run.best.bound) (sym trace) (by_lt_z old.best.bound bound new stays);
}
  where
    here : run.prices ≡ prices_after i (old.trace ++ old.routes ∷ []) (s + 1)
    here = prices ∙ ap (λ p. next_prices i s p old.routes) is.prices_are ∙ sym (prices_last i old.trace old.routes s (s + 1) is.count refl)

    steps : length old.trace + 1 ≡ s + 1
    steps = ap (λ n. n + 1) is.count

    last : IsMinuteBound i (prices_after i (old.trace ++ old.routes ∷ []) (length old.trace + 1)) bound
    last = subst (λ p. IsMinuteBound i p bound) (here ∙ ap (prices_after i (old.trace ++ old.routes ∷ [])) (sym steps)) bound_is

    new : old.best.bound <ℤ bound → IsFirstGreatest i (old.trace ++ old.routes ∷ []) run.best.steps run.best.bound
    new above =
        subst (λ (b : Best). IsFirstGreatest i (old.trace ++ old.routes ∷ []) b.steps b.bound) (sym (greater above))
        (subst (λ n. IsFirstGreatest i (old.trace ++ old.routes ∷ []) n bound) steps (better i old.trace old.routes old.best.steps old.best.bound is.greatest bound last above))

    stays : bound ≤ℤ old.best.bound → IsFirstGreatest i (old.trace ++ old.routes ∷ []) run.best.steps run.best.bound
    stays below =
        subst (λ (b : Best). IsFirstGreatest i (old.trace ++ old.routes ∷ []) b.steps b.bound) (sym (kept below))
        (not_better i old.trace old.routes old.best.steps old.best.bound is.greatest bound last below)

-- what is handed out
pub squeezed : (i : Instance) (steps s l : ℕ) (run : Run) → IsRunAfter i s run → s ≡ steps → IsMostProved (length i.tasks) run.best.bound l → IsSqueezed i steps run.best.steps l run.trace
squeezed i steps s l run is e proved = record {
  count = is.count ∙ e;
  run = is.is_run;
  bound = run.best.bound;
  greatest = is.greatest;
  proved = proved;
}
