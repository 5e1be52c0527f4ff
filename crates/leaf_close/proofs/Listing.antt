-- the required teams of a task, counted and listed
use Rattle.std.proofs.Common.{length-append, ◌≡◌, ◌≤◌, ◌<◌, ◌+◌, ◌⊎◌, inl, inr, ℕ, zero, suc, Bool, true, false, cond, List, [], ◌∷◌, ◌++◌, length, get_or, take, refl, sym, ap, subst, arith, ◌∙◌}
use Rattle.std.specs.Prelude.{filter, count_by}
use Rattle.std.specs.List.{range_with_len}
use Rattle.std.proofs.lemmas.Bool.{cases_Bool, cases_lt}
use Rattle.std.proofs.lemmas.List.{take_all}
use Rattle.std.proofs.lemmas.List.Elements.{filter-append}
use Rattle.std.proofs.lemmas.List.Sums.{count_by_more_yes, count_by_more_no}
use Rattle.crew_terms.specs.Instance.{task_of}
use Rattle.crew_terms.specs.Limits.{Limits, IsLimits, is_required, pair_of}
use Rattle.crew_terms.specs.Listed.{range_more}
use Rattle.crew_terms.specs.Minutes.{required_teams}
use Rattle.crew_terms.specs.declared.Pair.{Pair}
use Rattle.crew_terms.specs.declared.Pair.TheVariants.{Free}
use Rattle.node_limits.specs.Required.{required_count}
use Rattle.search_terms.specs.Closing.{AreStaffed}
use Rattle.leaf_close.specs.Cases.{NoneIsCrowded, NoneIsShort}

-- the required teams of task j among the first m
abbrev pub teams_below : Limits → ℕ → ℕ → List ℕ
teams_below n j m = filter (λ k. is_required (pair_of n k j)) (range_with_len 0 m)

pub listed_more : (n : Limits) (j m : ℕ) → teams_below n j (m + 1) ≡ teams_below n j m ++ cond (is_required (pair_of n m j)) (m ∷ []) []
listed_more n j m = ap (filter (λ k. is_required (pair_of n k j))) (range_more m) ∙ filter-append (λ k. is_required (pair_of n k j)) (range_with_len 0 m) (m ∷ [])

abbrev required_in : ℕ → List Pair → Bool
required_in j row = is_required (get_or row j Free)

-- as many are counted as are listed
counted : (n : Limits) (j m : ℕ) → m ≤ length n.pairs → count_by (required_in j) (take m n.pairs) ≡ length (teams_below n j m)
counted n j zero l = refl
counted n j (suc m) l =
    let step : suc m ≡ m + 1 = omega arith in
    subst (λ i. count_by (required_in j) (take i n.pairs) ≡ length (teams_below n j i)) (sym step) (by (cases_Bool (is_required (pair_of n m j))) (counted n j m (omega arith)))
  where
    by : (is_required (pair_of n m j) ≡ true) ⊎ (is_required (pair_of n m j) ≡ false) → count_by (required_in j) (take m n.pairs) ≡ length (teams_below n j m)
        → count_by (required_in j) (take (m + 1) n.pairs) ≡ length (teams_below n j (m + 1))
    by (inl e) before =
        let a = count_by_more_yes (required_in j) n.pairs m [] (omega arith) e in
        let b = ap length (listed_more n j m ∙ ap (λ t. teams_below n j m ++ cond t (m ∷ []) []) e) in
        let d = length-append (teams_below n j m) (m ∷ []) in
        omega arith
    by (inr e) before =
        let a = count_by_more_no (required_in j) n.pairs m [] (omega arith) e in
        let b = ap length (listed_more n j m ∙ ap (λ t. teams_below n j m ++ cond t (m ∷ []) []) e) in
        let d = length-append (teams_below n j m) [] in
        omega arith

pub required_length : (n : Limits) (j : ℕ) → IsLimits n → required_count n j ≡ length (required_teams n j)
required_length n j is =
    ap (count_by (required_in j)) (sym (take_all (length n.pairs) n.pairs (omega arith))) ∙ counted n j (length n.pairs) (omega arith) ∙ ap (λ m. length (teams_below n j m)) is.rows

-- a task with neither too many nor too few required teams has as many as it needs
pub are_staffed : (n : Limits) → NoneIsCrowded n → NoneIsShort n → AreStaffed n
are_staffed n crowded short j known some = by (cases_lt (length (required_teams n j)) (task_of n.instance j).teams) (cases_lt (task_of n.instance j).teams (length (required_teams n j)))
  where
    by : (length (required_teams n j) < (task_of n.instance j).teams) ⊎ ((task_of n.instance j).teams ≤ length (required_teams n j))
        → ((task_of n.instance j).teams < length (required_teams n j)) ⊎ (length (required_teams n j) ≤ (task_of n.instance j).teams)
        → length (required_teams n j) ≡ (task_of n.instance j).teams
    by (inl few) x = absurd (short j (record { known = known; some = some; few = few }))
    by (inr x) (inl many) = absurd (crowded j (record { known = known; some = some; many = many }))
    by (inr a) (inr b) = omega arith
