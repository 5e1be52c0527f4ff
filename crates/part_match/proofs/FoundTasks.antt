-- the tasks of a part, looked for among those of the whole in turn
use Rattle.std.proofs.Common.{◌≡◌, ◌≤◌, ◌<◌, ◌+◌, ◌++◌, ◌∷◌, ◌⊎◌, inl, inr, ◌∙◌, ℕ, List, [], length, get_or, take, map, ap, sym, refl, subst, arith, ext_get_or}
use Rattle.std.specs.Prelude.{All}
use Rattle.std.specs.List.Sorted.{IsStrictlyIncreasing}
use Rattle.std.proofs.lemmas.Bool.{cases_lt, cases_order}
use Rattle.std.proofs.lemmas.List.{get_or-map, get_or_append_left, get_or_push, length-append, length-map, map_push, take_all, take_more}
use Rattle.std.proofs.lemmas.List.Elements.{All-push, All-weaker}
use Rattle.crew_terms.specs.Instance.{Instance, no_task, task_of}
use Rattle.crew_terms.specs.Rules.{IsInstance}
use Rattle.crew_terms.specs.declared.Task.{Task}
use Rattle.part_match.specs.Matched.{AreNumbers}

-- the first tasks of j have these numbers, below n, in i; in a list of all of them the next one stands at n or behind
pub record AreFound (i j : Instance) (n : ℕ) (out : List ℕ) : Type 0 where
  pub few : length out ≤ length j.tasks
  pub below : All (λ t. t < n) out
  pub rising : IsStrictlyIncreasing out
  pub kept : map (task_of i) out ≡ take (length out) j.tasks
  pub rest : (tasks : List ℕ) → AreNumbers i j tasks → length out < length tasks → n ≤ get_or tasks (length out) 0

module _ (i j : Instance) where
  -- no task is looked at yet
  pub none_found : (out : List ℕ) → out ≡ [] → AreFound i j 0 out
  none_found out e = subst (AreFound i j 0) (sym e) (record {
    few = omega arith;
    below = λ k d l. absurd (omega arith);
    rising = λ k l. absurd (omega arith);
    kept = refl;
    rest = λ tasks are l. omega arith;
  })

  -- as many numbers as tasks
  count : (tasks : List ℕ) → AreNumbers i j tasks → length tasks ≡ length j.tasks
  count tasks are = sym (ap (λ (ts : List Task). length ts) are.kept ∙ length-map tasks (task_of i))

  -- the task that has a number
  at : (tasks : List ℕ) → AreNumbers i j tasks → (k : ℕ) → k < length tasks → task_of j k ≡ task_of i (get_or tasks k 0)
  at tasks are k l = ap (λ (ts : List Task). get_or ts k no_task) are.kept ∙ get_or-map (task_of i) tasks k 0 no_task l

  module _ (n : ℕ) (out : List ℕ) (found : AreFound i j n out) where
    -- task n is not the next one
    pub passed_over : ((length out < length j.tasks) × (task_of i n ≡ task_of j (length out)) → ⊥) → AreFound i j (n + 1) out
    passed_over other = record {
      few = found.few;
      below = All-weaker (λ t. t < n) (λ t. t < n + 1) (λ t l. omega arith) out found.below;
      rising = found.rising;
      kept = found.kept;
      rest = λ tasks are l. by tasks are l (cases_lt n (get_or tasks (length out) 0));
    }
      where
        by : (tasks : List ℕ) → AreNumbers i j tasks → length out < length tasks
            → (n < get_or tasks (length out) 0) ⊎ (get_or tasks (length out) 0 ≤ n) → n + 1 ≤ get_or tasks (length out) 0
        by tasks are l (inl more) = omega arith
        by tasks are l (inr le) =
            let same : get_or tasks (length out) 0 ≡ n = let r = found.rest tasks are l in omega arith in
            let many : length tasks ≡ length j.tasks = count tasks are in
            absurd (other (omega arith, sym (at tasks are (length out) l ∙ ap (task_of i) same)))

    -- it is the next one
    pub found_next : length out < length j.tasks → task_of i n ≡ task_of j (length out) → AreFound i j (n + 1) (out ++ n ∷ [])
    found_next more same = record {
      few = omega (arith, long);
      below = All-push (λ t. t < n + 1) out n (All-weaker (λ t. t < n) (λ t. t < n + 1) (λ t l. omega arith) out found.below) (omega arith);
      rising = λ k l. rises k l (cases_lt (k + 1) (length out));
      kept =
          let end : take (length out + 1) j.tasks ≡ take (length out) j.tasks ++ get_or j.tasks (length out) no_task ∷ [] = take_more j.tasks (length out) no_task more in
          map_push (task_of i) out n ∙ ap (λ ts. ts ++ task_of i n ∷ []) found.kept ∙ ap (λ t. take (length out) j.tasks ++ t ∷ []) same ∙ sym end
          ∙ ap (λ m. take m j.tasks) (sym long);
      rest = λ tasks are l.
          let before : n ≤ get_or tasks (length out) 0 = found.rest tasks are (omega (arith, long)) in
          let step : get_or tasks (length out) 0 < get_or tasks (length out + 1) 0 = are.rising (length out) (omega (arith, long)) in
          subst (λ m. n + 1 ≤ get_or tasks m 0) (sym long) (omega arith);
    }
      where
        long : length (out ++ n ∷ []) ≡ length out + 1
        long = length-append out (n ∷ [])

        front : (k : ℕ) → k < length out → get_or (out ++ n ∷ []) k 0 ≡ get_or out k 0
        front k l = get_or_append_left out (n ∷ []) 0 k l

        rises : (k : ℕ) → k + 1 < length (out ++ n ∷ []) → (k + 1 < length out) ⊎ (length out ≤ k + 1) → get_or (out ++ n ∷ []) k 0 < get_or (out ++ n ∷ []) (k + 1) 0
        rises k l (inl m) =
            let a = front k (omega arith) in
            let b = front (k + 1) m in
            let r = found.rising k m in
            omega arith
        rises k l (inr m) =
            let a = front k (omega (arith, long)) in
            let b : get_or (out ++ n ∷ []) (k + 1) 0 ≡ n = get_or_push out n 0 (k + 1) (omega (arith, long)) in
            let r : get_or out k 0 < n = found.below k 0 (omega (arith, long)) in
            omega arith

    -- all tasks of the whole are looked at, and some of the part are not found
    pub not_all : length i.tasks ≤ n → length out < length j.tasks → (tasks : List ℕ) → AreNumbers i j tasks → ⊥
    not_all end few tasks are =
        let many : length tasks ≡ length j.tasks = count tasks are in
        let next : n ≤ get_or tasks (length out) 0 = found.rest tasks are (omega arith) in
        let known : get_or tasks (length out) 0 < length i.tasks = are.known (length out) 0 (omega arith) in
        absurd (omega arith)

    -- all of them are found
    pub all_found : n ≤ length i.tasks → length j.tasks ≤ length out → AreNumbers i j out
    all_found end many = record {
      known = All-weaker (λ t. t < n) (λ t. t < length i.tasks) (λ t l. omega arith) out found.below;
      rising = found.rising;
      kept = sym (found.kept ∙ take_all (length out) j.tasks many);
    }

  -- no two lists of numbers
  pub one_list_of_numbers : (is : IsInstance i) (xs ys : List ℕ) → AreNumbers i j xs → AreNumbers i j ys → xs ≡ ys
  one_list_of_numbers is xs ys a b = ext_get_or 0 xs ys (count xs a ∙ sym (count ys b)) same
    where
      long : length xs ≡ length ys
      long = count xs a ∙ sym (count ys b)

      same : (k : ℕ) → k < length xs → get_or xs k 0 ≡ get_or ys k 0
      same k l = by (cases_order (get_or xs k 0) (get_or ys k 0))
        where
          name : (task_of i (get_or xs k 0)).name ≡ (task_of i (get_or ys k 0)).name
          name = ap (λ (t : Task). t.name) (sym (at xs a k l) ∙ at ys b k (omega (arith, long)))

          by : (get_or xs k 0 ≡ get_or ys k 0) ⊎ ((get_or xs k 0 < get_or ys k 0) ⊎ (get_or ys k 0 < get_or xs k 0)) → get_or xs k 0 ≡ get_or ys k 0
          by (inl e) = e
          by (inr (inl m)) = absurd (is.parts.task_names (get_or xs k 0) (get_or ys k 0) no_task m (b.known k 0 (omega (arith, long))) name)
          by (inr (inr m)) = absurd (is.parts.task_names (get_or ys k 0) (get_or xs k 0) no_task m (a.known k 0 l) (sym name))
