-- tasks that stand in a list once
use Rattle.std.proofs.Common.{◌≡◌, ◌≢◌, ◌≤◌, ◌<◌, ◌+◌, ◌++◌, ◌∷◌, ◌⊎◌, inl, inr, [], ◌∙◌, ℕ, List, Bool, true, false, length, get_or, take, drop, ap, sym, subst, refl, arith}
use Rattle.std.specs.Prelude.{not}
use Rattle.std.proofs.lemmas.List.Elements.{Contains-append_cases, Contains-append_right}
use Rattle.std.specs.Prelude.{AllPairs, Contains}
use Rattle.std.proofs.lemmas.List.{append_assoc, get_or_append_left, get_or-append-add, get_or_default, length-append, length-take-le, take_all, take_more}
use Rattle.std.proofs.Math.ListN.{take-append-drop}
use Rattle.std.proofs.lemmas.List.Quantifiers.{all_pairs_push}

module _ (taken tasks : List ℕ) where
  -- the tasks up to k stand behind those that are taken
  abbrev pub up_to : ℕ → List ℕ
  up_to k = taken ++ take k tasks

  -- each of them is another one
  abbrev pub Differ : List ℕ → Type 0
  Differ ts = AllPairs (λ t u. t ≢ u) ts

  -- with one more that is new
  pub differ_more : (k : ℕ) → k < length tasks → Differ (up_to k) → (Contains (up_to k) (get_or tasks k 0) → ⊥) → Differ (up_to (k + 1))
  differ_more k l differ new =
      subst Differ (append_assoc taken (take k tasks) (get_or tasks k 0 ∷ []) ∙ ap (λ ts. taken ++ ts) (sym (take_more tasks k 0 l)))
      (all_pairs_push (λ t u. t ≢ u) (up_to k) (get_or tasks k 0) differ (λ m d below same. new (m, below, here m d below same)))
    where
      here : (m d : ℕ) → m < length (up_to k) → get_or (up_to k) m d ≡ get_or tasks k 0 → get_or (up_to k) m (get_or tasks k 0) ≡ get_or tasks k 0
      here m d below same = get_or_default (up_to k) m (get_or tasks k 0) d below ∙ same

  -- where all differ, each is new
  pub new_at : (k : ℕ) → k < length tasks → Differ (taken ++ tasks) → Contains (up_to k) (get_or tasks k 0) → ⊥
  new_at k l differ (m, below, same) = differ m (length taken + k) (get_or tasks k 0) (omega (arith, long)) (omega (arith, length-append taken tasks)) (early ∙ sym late)
    where
      long : length (up_to k) ≡ length taken + k
      long = length-append taken (take k tasks) ∙ ap (λ n. length taken + n) (length-take-le k tasks (omega arith))

      whole : taken ++ tasks ≡ up_to k ++ drop k tasks
      whole = ap (λ ts. taken ++ ts) (sym (take-append-drop k tasks)) ∙ sym (append_assoc taken (take k tasks) (drop k tasks))

      early : get_or (taken ++ tasks) m (get_or tasks k 0) ≡ get_or tasks k 0
      early = ap (λ ts. get_or ts m (get_or tasks k 0)) whole ∙ get_or_append_left (up_to k) (drop k tasks) (get_or tasks k 0) m below ∙ same

      late : get_or (taken ++ tasks) (length taken + k) (get_or tasks k 0) ≡ get_or tasks k 0
      late = get_or-append-add taken tasks k (get_or tasks k 0) ∙ get_or_default tasks k (get_or tasks k 0) 0 l

  -- all of them are looked at
  pub all_differ : (k : ℕ) → length tasks ≤ k → Differ (up_to k) → Differ (taken ++ tasks)
  all_differ k le differ = subst (λ ts. Differ (taken ++ ts)) (take_all k tasks le) differ

-- a task that is none of the first ones is new where it is none of the others
pub new_decides : (taken before : List ℕ) (task : ℕ) (found : Bool) → (Contains taken task → ⊥) → (found ≡ true → Contains before task) → (Contains before task → found ≡ true)
    → (not found ≡ true → Contains (taken ++ before) task → ⊥) × ((Contains (taken ++ before) task → ⊥) → not found ≡ true)
new_decides taken before task true first here back = (λ e. absurd (cc), λ new. absurd (new (Contains-append_right taken before task (here refl))))
new_decides taken before task false first here back = (λ _ both. by (Contains-append_cases taken before task both), λ _. refl)
  where
    by : Contains taken task ⊎ Contains before task → ⊥
    by (inl c) = first c
    by (inr c) = let e : false ≡ true = back c in cc
