-- what prices prove in a node they prove in every node inside it
use Rattle.std.proofs.Common.{◌≡◌, ◌≤◌, ◌<◌, ◌+◌, ℕ, zero, suc, Bool, true, false, cond, List, [], length, get_or, set, refl, ap, sym, subst, ◌∙◌, arith, ◌⊎◌, inl, inr, get_or-set_same, get_or-set_other}
use Rattle.std.specs.Prelude.{ℤ, pos, ◌≤ℤ◌}
use Rattle.std.specs.Int.{int_min}
use Rattle.std.proofs.lemmas.Int.{ints, clamps}
use Rattle.std.proofs.lemmas.List.{length-set}
use Rattle.std.proofs.lemmas.Bool.{cases_eq, or_cases, or_left, or_right, both_ways}
use Rattle.crew_terms.specs.Limits.{Limits, IsLimits, IsPermittedVisit, IsPermittedStep, tasks_in, teams_in, window_of, pair_of, is_required, has_required, any_below, root_limits}
use Rattle.crew_terms.specs.Leaf.{Prices, IsValidLeaf, HoldsLocally, term, task_price, worth_of, bound_of, earned}
use Rattle.crew_terms.specs.Tree.{with_window, with_pair, CanSplit, child}
use Rattle.crew_terms.specs.declared.Choice.{Choice}
use Rattle.crew_terms.specs.declared.Choice.TheVariants as choices
use Rattle.crew_terms.specs.declared.Pair.{Pair}
use Rattle.crew_terms.specs.declared.Pair.TheVariants.{Free, Forbidden, Required}
use Rattle.crew_terms.specs.declared.Side.{Side}
use Rattle.crew_terms.specs.declared.Side.TheVariants.{First, Second}
use Rattle.crew_terms.specs.declared.TheConstants.{D}
use Rattle.search_terms.specs.Inside.{IsInside, IsNode}
use Rattle.search_terms.specs.Proven.{PricesProve}
use Rattle.crew_terms.specs.Bounds.{proves_less, proves_more}
use Rattle.crew_terms.specs.Totals.{total-le}
use Rattle.crew_terms.specs.Nodes.{required_is}

-- ---- numbers that are proved

pub less_proved : (n : Limits) (p : Prices) (l m : ℕ) → m ≤ l → PricesProve n p l → PricesProve n p m
less_proved n p l m le h = record { worths = h.worths; phi = h.phi; proved = (h.proved.0, proves_less (bound_of n p h.worths) l m le h.proved.1) }

-- ---- a node inside another

any_more : (n : ℕ) (f g : ℕ → Bool) → ((k : ℕ) → f k ≡ true → g k ≡ true) → any_below n f ≡ true → any_below n g ≡ true
any_more zero f g h e = e
any_more (suc n) f g h e = by (or_cases (any_below n f) (f n) e) (any_more n f g h)
  where
    by : (any_below n f ≡ true) ⊎ (f n ≡ true) → (any_below n f ≡ true → any_below n g ≡ true) → any_below (suc n) g ≡ true
    by (inl a) rest = or_left (any_below n g) (g n) (rest a)
    by (inr a) rest = or_right (any_below n g) (g n) (h n a)

-- n with other windows and pairs
abbrev pub changed : Limits → List (ℕ × ℕ) → List (List Pair) → Limits
changed n windows pairs = record n { windows = windows; pairs = pairs }

module _ (n : Limits) (windows : List (ℕ × ℕ)) (pairs : List (List Pair)) (is : IsInside (changed n windows pairs) n) where
  visit_up : (k j t : ℕ) → IsPermittedVisit (changed n windows pairs) k j t → IsPermittedVisit n k j t
  visit_up k j t v =
      let a = is.early j v.known in
      let b = is.late j v.known in
      record {
        known = v.known;
        qualified = v.qualified;
        allowed = λ e. v.allowed (is.forbidden k j e);
        early = omega (arith, v.early);
        late = omega (arith, v.late);
        in_shift = v.in_shift;
      }

  step_up : (j t h u : ℕ) → IsPermittedStep (changed n windows pairs) j t h u → IsPermittedStep n j t h u
  step_up j t h u s = record { other = s.other; follow = s.follow }

  local_below : (k : ℕ) (p : Prices) (phi : ℕ → ℕ → ℤ) (worth : ℤ) → HoldsLocally n k (earned p k) phi worth → HoldsLocally (changed n windows pairs) k (earned p k) phi worth
  local_below k p phi worth h = record {
    tasks = λ j. record {
      alone = λ t v. (h.tasks j).alone t (visit_up k j t v);
      step = λ t i u v w s. (h.tasks j).step t i u (visit_up k j t v) (visit_up k i u w) (step_up j t i u s);
    };
    worth_rules = record { most = λ j t v. h.worth_rules.most j t (visit_up k j t v); idle = h.worth_rules.idle };
  }

  valid_below : (p : Prices) (worths : List ℤ) (phi : ℕ → ℕ → ℕ → ℤ) → IsValidLeaf n p worths phi → IsValidLeaf (changed n windows pairs) p worths phi
  valid_below p worths phi h = record {
    range = h.range;
    priced = λ k j ne. h.priced k j (λ e. ne (is.required k j e));
    valid = λ k b. local_below k p (phi k) (worth_of worths k) (h.valid k b);
  }

  required_below : (j : ℕ) → has_required n j ≡ true → has_required (changed n windows pairs) j ≡ true
  required_below j e = any_more (teams_in n) (λ k. is_required (pair_of n k j)) (λ k. is_required (pair_of (changed n windows pairs) k j))
      (λ k a. ap is_required (is.required k j (required_is (pair_of n k j) a))) e

  term_below : (p : Prices) (j : ℕ) → term n p j ≤ℤ term (changed n windows pairs) p j
  term_below p j = by (has_required n j) (has_required (changed n windows pairs) j) (task_price n p j) (required_below j)
    where
      by : (a b : Bool) (x : ℤ) → (a ≡ true → b ≡ true) → cond a x (int_min (pos D) x) ≤ℤ cond b x (int_min (pos D) x)
      by true true x h = omega (arith, ints)
      by true false x h = absurd (both_ways false refl (h refl))
      by false true x h = omega (arith, ints, clamps)
      by false false x h = omega (arith, ints)

  changed_proves : (p : Prices) (l : ℕ) → PricesProve n p l → PricesProve (changed n windows pairs) p l
  changed_proves p l h = record {
    worths = h.worths;
    phi = h.phi;
    proved = (
      valid_below p h.worths h.phi h.proved.0,
      proves_more (bound_of n p h.worths) (bound_of (changed n windows pairs) p h.worths) l
          (let a = total-le (tasks_in n) (term n p) (term (changed n windows pairs) p) (λ j b. term_below p j) in omega (arith, ints)) h.proved.1,
    );
  }

pub inside_proves : (inner outer : Limits) (p : Prices) (l : ℕ) → IsInside inner outer → PricesProve outer p l → PricesProve inner p l
inside_proves inner outer p l is h =
    let same : changed outer inner.windows inner.pairs ≡ inner = ap (λ i. record { instance = i; windows = inner.windows; pairs = inner.pairs }) (sym is.instance) in
    subst (λ m. PricesProve m p l) same
    (changed_proves outer inner.windows inner.pairs (record { instance = refl; early = is.early; late = is.late; forbidden = is.forbidden; required = is.required }) p l h)

pub inside_self : (n : Limits) → IsInside n n
inside_self n = record { instance = refl; early = λ j l. omega arith; late = λ j l. omega arith; forbidden = λ k j e. e; required = λ k j e. e }

pub inside_through : (a b c : Limits) → IsInside a b → IsInside b c → IsInside a c
inside_through a b c x y = record {
  instance = x.instance ∙ y.instance;
  early = λ j l. (let p = x.early j (known j l) in let q = y.early j l in omega arith);
  late = λ j l. (let p = x.late j (known j l) in let q = y.late j l in omega arith);
  forbidden = λ k j e. x.forbidden k j (y.forbidden k j e);
  required = λ k j e. x.required k j (y.required k j e);
}
  where
    known : (j : ℕ) → j < tasks_in c → j < tasks_in b
    known j l = let e = ap (λ i. length i.tasks) y.instance in omega arith

-- ---- the children of a node

window_inside : (n : Limits) (j a b : ℕ) → j < length n.windows → (window_of n j).0 ≤ a → b ≤ (window_of n j).1 → IsInside (with_window n j a b) n
window_inside n j a b l low high = record {
  instance = refl;
  early = λ i h. early i (cases_eq j i);
  late = λ i h. late i (cases_eq j i);
  forbidden = λ k i e. e;
  required = λ k i e. e;
}
  where
    here : (i : ℕ) → j ≡ i → window_of (with_window n j a b) i ≡ (a, b)
    here i e = rw (← e) (get_or-set_same n.windows j (a, b) (0, 0) l)

    there : (i : ℕ) → (j ≡ i → ⊥) → window_of (with_window n j a b) i ≡ window_of n i
    there i ne = get_or-set_other n.windows j i (a, b) (0, 0) (λ e. ne (sym e))

    early : (i : ℕ) → (j ≡ i) ⊎ (j ≡ i → ⊥) → (window_of n i).0 ≤ (window_of (with_window n j a b) i).0
    early i (inl e) = rw (here i e) (let x = ap (λ k. (window_of n k).0) e in omega arith)
    early i (inr ne) = rw (there i ne) (omega arith)

    late : (i : ℕ) → (j ≡ i) ⊎ (j ≡ i → ⊥) → (window_of (with_window n j a b) i).1 ≤ (window_of n i).1
    late i (inl e) = rw (here i e) (let x = ap (λ k. (window_of n k).1) e in omega arith)
    late i (inr ne) = rw (there i ne) (omega arith)

pair_inside : (n : Limits) (k j : ℕ) (to : Pair) → k < length n.pairs → pair_of n k j ≡ Free → IsInside (with_pair n k j to) n
pair_inside n k j to below free = record {
  instance = refl;
  early = λ i h. omega arith;
  late = λ i h. omega arith;
  forbidden = λ h i e. keeps Forbidden (λ f. let g : Free ≡ Forbidden = f in cc) h i e (cases_eq k h) (cases_eq j i);
  required = λ h i e. keeps Required (λ f. let g : Free ≡ Required = f in cc) h i e (cases_eq k h) (cases_eq j i);
}
  where
    keeps : (x : Pair) → (Free ≡ x → ⊥) → (h i : ℕ) → pair_of n h i ≡ x → (k ≡ h) ⊎ (k ≡ h → ⊥) → (j ≡ i) ⊎ (j ≡ i → ⊥) → pair_of (with_pair n k j to) h i ≡ x
    keeps x ne h i e (inl a) (inl b) = absurd (ne (sym free ∙ (ap (λ z. pair_of n z j) a ∙ ap (pair_of n h) b) ∙ e))
    keeps x ne h i e (inl a) (inr b) =
        ap (λ z. pair_of (with_pair n k j to) z i) (sym a)
        ∙ ap (λ row. get_or row i Free) (get_or-set_same n.pairs k (set (get_or n.pairs k []) j to) [] below)
        ∙ get_or-set_other (get_or n.pairs k []) j i to Free (λ f. b (sym f)) ∙ ap (λ z. pair_of n z i) a ∙ e
    keeps x ne h i e (inr a) c = ap (λ row. get_or row i Free) (get_or-set_other n.pairs k h (set (get_or n.pairs k []) j to) [] (λ f. a (sym f))) ∙ e

-- a window for each task, and a row for each team
pub record HasShape (n : Limits) : Type 0 where
  pub windows : length n.windows ≡ tasks_in n
  pub rows : length n.pairs ≡ teams_in n

pub shape_of : (n : Limits) → IsLimits n → HasShape n
shape_of n is = record { windows = is.windows; rows = is.rows }

pub child_shape : (n : Limits) (c : Choice) (side : Side) → HasShape n → HasShape (child n c side)
child_shape n (choices.Window j cut) First s = record { windows = length-set n.windows j ((window_of n j).0, cut) ∙ s.windows; rows = s.rows }
child_shape n (choices.Window j cut) Second s = record { windows = length-set n.windows j (cut + 1, (window_of n j).1) ∙ s.windows; rows = s.rows }
child_shape n (choices.Pair k j) First s = record { windows = s.windows; rows = length-set n.pairs k (set (get_or n.pairs k []) j Forbidden) ∙ s.rows }
child_shape n (choices.Pair k j) Second s = record { windows = s.windows; rows = length-set n.pairs k (set (get_or n.pairs k []) j Required) ∙ s.rows }

pub child_inside : (n : Limits) (c : Choice) (side : Side) → HasShape n → CanSplit n c → IsInside (child n c side) n
child_inside n (choices.Window j cut) First s can = window_inside n j (window_of n j).0 cut (omega (arith, can.task, s.windows)) (omega arith) (omega (arith, can.late))
child_inside n (choices.Window j cut) Second s can = window_inside n j (cut + 1) (window_of n j).1 (omega (arith, can.task, s.windows)) (omega (arith, can.early)) (omega arith)
child_inside n (choices.Pair k j) First s can = pair_inside n k j Forbidden (omega (arith, can.team, s.rows)) can.free
child_inside n (choices.Pair k j) Second s can = pair_inside n k j Required (omega (arith, can.team, s.rows)) can.free

pub child_proves : (n : Limits) (c : Choice) (side : Side) (p : Prices) (l : ℕ) → HasShape n → CanSplit n c → PricesProve n p l → PricesProve (child n c side) p l
child_proves n c side p l s can h = inside_proves (child n c side) n p l (child_inside n c side s can) h

pub child_tasks : (n : Limits) (c : Choice) (side : Side) → tasks_in (child n c side) ≡ tasks_in n
child_tasks n (choices.Window j cut) First = refl
child_tasks n (choices.Window j cut) Second = refl
child_tasks n (choices.Pair k j) First = refl
child_tasks n (choices.Pair k j) Second = refl

-- ---- nodes

abbrev pub ChildrenAreLimits : Type 0
ChildrenAreLimits = (n : Limits) (c : Choice) (side : Side) → IsLimits n → CanSplit n c → IsLimits (child n c side)

pub child_node : ChildrenAreLimits → (n : Limits) (c : Choice) (side : Side) → IsNode n → CanSplit n c → IsNode (child n c side)
child_node law n c side is can =
    let x = child_inside n c side (shape_of n is.limits) can in
    record {
      limits = law n c side is.limits can;
      inside = subst (λ i. IsInside (child n c side) (root_limits i)) (sym x.instance) (inside_through (child n c side) n (root_limits n.instance) x is.inside);
    }
