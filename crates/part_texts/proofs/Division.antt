-- which tasks a part has is told by its instance
use Rattle.std.proofs.Common.{◌≡◌, ◌≤◌, ◌<◌, ◌⊎◌, inl, inr, ◌∙◌, ℕ, suc, List, [], ◌∷◌, length, get_or, map, ap, sym, refl, subst, arith, ext_get_or}
use Rattle.std.specs.Prelude.{All}
use Rattle.std.proofs.lemmas.Bool.{cases_order}
use Rattle.std.proofs.lemmas.List.{get_or-map, length-map}
use Rattle.crew_terms.specs.Instance.{Instance, no_task, task_of}
use Rattle.crew_terms.specs.Rules.{IsInstance}
use Rattle.crew_terms.specs.declared.Task.{Task}
use Rattle.part_terms.specs.Parts.{Part, Restricts}
use Rattle.part_texts.specs.Bundle.{instances_in}

module _ (i : Instance) (is : IsInstance i) where
  module _ (j : Instance) where
    -- as many numbers as tasks
    count : (tasks : List ℕ) → Restricts i j tasks → length tasks ≡ length j.tasks
    count tasks r = sym (ap (λ (ts : List Task). length ts) r.kept ∙ length-map tasks (task_of i))

    -- the task that has a number
    at : (tasks : List ℕ) → Restricts i j tasks → (k : ℕ) → k < length tasks → task_of j k ≡ task_of i (get_or tasks k 0)
    at tasks r k l = ap (λ (ts : List Task). get_or ts k no_task) r.kept ∙ get_or-map (task_of i) tasks k 0 no_task l

    -- an instance restricts another one to one list of tasks, since their names differ
    one_list : (xs ys : List ℕ) → Restricts i j xs → Restricts i j ys → xs ≡ ys
    one_list xs ys a b = ext_get_or 0 xs ys long same
      where
        long : length xs ≡ length ys
        long = count xs a ∙ sym (count ys b)

        same : (k : ℕ) → k < length xs → get_or xs k 0 ≡ get_or ys k 0
        same k l = by (cases_order (get_or xs k 0) (get_or ys k 0))
          where
            name : (task_of i (get_or xs k 0)).name ≡ (task_of i (get_or ys k 0)).name
            name = ap (λ (t : Task). t.name) (sym (at xs a k l) ∙ at ys b k (omega (arith, long)))

            by : (get_or xs k 0 ≡ get_or ys k 0) ⊎ ((get_or xs k 0 < get_or ys k 0) ⊎ (get_or ys k 0 < get_or xs k 0)) → get_or xs k 0 ≡ get_or ys k 0
            by (inl e) = e
            by (inr (inl m)) = absurd (is.parts.task_names (get_or xs k 0) (get_or ys k 0) no_task m (b.known k 0 (omega (arith, long))) name)
            by (inr (inr m)) = absurd (is.parts.task_names (get_or ys k 0) (get_or xs k 0) no_task m (a.known k 0 l) (sym name))

  pub one_division : (xs ys : List Part) → All (λ (x : Part). Restricts i x.instance x.tasks) xs → All (λ (y : Part). Restricts i y.instance y.tasks) ys
      → instances_in xs ≡ instances_in ys → xs ≡ ys
  one_division [] [] a b e = refl
  one_division [] (y ∷ ys) a b e = absurd (cc)
  one_division (x ∷ xs) [] a b e = absurd (cc)
  one_division (x ∷ xs) (y ∷ ys) a b e =
      let same : y.instance ≡ x.instance = cc in
      let others : instances_in xs ≡ instances_in ys = cc in
      let other : Restricts i x.instance y.tasks = subst (λ j. Restricts i j y.tasks) same (b 0 y (omega arith)) in
      let tasks = one_list x.instance x.tasks y.tasks (a 0 x (omega arith)) other in
      let rest = one_division xs ys (λ m z l. a (suc m) z (omega arith)) (λ m z l. b (suc m) z (omega arith)) others in
      let part = λ (j : Instance) (ts : List ℕ). let q : Part = record { instance = j; tasks = ts } in q in
      let first : x ≡ y = ap (λ ts. part x.instance ts) tasks ∙ ap (λ j. part j y.tasks) (sym same) in
      ap (λ z. z ∷ xs) first ∙ ap (λ zs. y ∷ zs) rest
