-- the assigned tasks, put in order
use Rattle.std.proofs.Common.{◌≡◌, ◌≢◌, ◌<◌, ◌≤◌, ◌+◌, ◌++◌, ◌⊎◌, inl, inr, ℕ, List, [], ◌∷◌, Bool, true, false, Option, Some, None, length, get_or, eqb, arith, refl, sym, ap, subst, ◌∙◌}
use Rattle.std.specs.Prelude.{Contains}
use Rattle.std.specs.List.{All, AllPairs, IsDistinct}
use Rattle.std.specs.List.Sorted.{IsPermutation, IsNonDecreasingBy}
use Rattle.std.specs.Option.{option_map}
use Rattle.std.proofs.lemmas.Bool.{cases_lt, eqb-true}
use Rattle.std.proofs.lemmas.Bool.Decides.{eqb_tells}
use Rattle.std.proofs.lemmas.List.{get_or_default, get_or_past, length_push}
use Rattle.std.proofs.lemmas.List.Elements.{All-push, All-weaker, Contains-append_left, Contains-push, Contains-get_or}
use Rattle.std.proofs.lemmas.List.Quantifiers.{all_pairs_push}
use Rattle.std.proofs.lemmas.List.Sorted.{All-permutation, Contains-permutation, length_permutation}
use Rattle.std.proofs.lemmas.Map.Keys.{IsDistinct-IsPermutation, IsDistinct-from_apart, apart_from_distinct}
use Rattle.crew_terms.specs.Plan.{Plan, Job, job_of}
use Rattle.crew_instance.specs.declared.turns.Turn.{Turn}
use Rattle.delay_wave.specs.Order.{AreAssigned, AreInOrder, IsPlanned, no_turn, planned_start, turn_at}

abbrev pub turn : ℕ → ℕ → Turn
turn j t = record { start = t; task = j }

-- what is planned is a task of the plan
pub planned_known : (p : Plan) (j t : ℕ) → planned_start p j ≡ Some t → j < length p
planned_known p j t e = at (cases_lt j (length p))
  where
    at : (j < length p) ⊎ (length p ≤ j) → j < length p
    at (inl l) = l
    at (inr m) =
        let n : job_of p j ≡ None = get_or_past p j None m in
        let x : planned_start p j ≡ None = ap (option_map (λ (job : Job). job.start)) n in
        let y : None ≡ Some t = sym x ∙ e in cc

-- the assigned tasks in another order, in which their starts do not fall
module _ (p : Plan) (xs ys : List Turn) (are : AreAssigned p (length p) xs) (moved : IsPermutation xs ys) (rising : IsNonDecreasingBy (λ (v : Turn). v.start) ys) where
  abbrev alike : Turn → Turn → Bool
  alike v w = eqb v.task w.task

  flips_at : (a b : ℕ) → eqb a b ≡ eqb b a
  flips_at a b = at (eqb_tells a b) (eqb_tells b a)
    where
      at : ((eqb a b ≡ true) × (a ≡ b)) ⊎ ((eqb a b ≡ false) × (a ≢ b)) → ((eqb b a ≡ true) × (b ≡ a)) ⊎ ((eqb b a ≡ false) × (b ≢ a)) → eqb a b ≡ eqb b a
      at (inl (e, f)) (inl (g, h)) = e ∙ sym g
      at (inl (e, f)) (inr (g, h)) = absurd (h (sym f))
      at (inr (e, f)) (inl (g, h)) = absurd (f (sym h))
      at (inr (e, f)) (inr (g, h)) = e ∙ sym g

  unlike : (a b : ℕ) → a ≢ b → eqb a b ≡ false
  unlike a b ne = elim (eqb_tells a b) [ inl (e, f) ↦ absurd (ne f) | inr (e, f) ↦ e ]

  distinct : IsDistinct alike ys
  distinct =
      IsDistinct-IsPermutation alike (λ v w. flips_at v.task w.task) xs ys moved
      (IsDistinct-from_apart alike xs (λ i j d l m. unlike (get_or xs i d).task (get_or xs j d).task (are.apart i j d l m)))

  pub in_order : AreInOrder p ys
  in_order = record {
    few = let f = are.few in let l = length_permutation xs ys moved in omega arith;
    planned = λ a l. All-permutation (IsPlanned p) xs ys moved are.planned a no_turn l;
    all = λ j t e. at j t (Contains-permutation xs ys (turn j t) moved (are.all j t (planned_known p j t e) e));
    rising = λ a b l m. rising a b no_turn l m;
    apart = λ a b l m same. apart a b (apart_from_distinct alike ys a b no_turn distinct l m) same;
  }
    where
      at : (j t : ℕ) → Contains ys (turn j t) → (a : ℕ) × (a < length ys) × (turn_at ys a ≡ turn j t)
      at j t (a, l, e) = (a, l, get_or_default ys a no_turn (turn j t) l ∙ e)

      apart : (a b : ℕ) → eqb (turn_at ys a).task (turn_at ys b).task ≡ false → (turn_at ys a).task ≢ (turn_at ys b).task
      apart a b e same = elim (eqb_tells (turn_at ys a).task (turn_at ys b).task) [
        | inl (f, g) ↦ (let x : true ≡ false = sym f ∙ e in cc)
        | inr (f, g) ↦ g same
      ]
