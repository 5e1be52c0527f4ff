-- the plan of the required pairs, and the teams that are required at a task
use Rattle.std.proofs.Common.{◌≡◌, ◌<◌, ℕ, zero, suc, List, [], ◌∷◌, length, get_or, refl, arith, sym, ◌⊎◌, inl, inr, None}
use Rattle.std.specs.Prelude.{Contains}
use Rattle.std.specs.List.Sorted.{IsStrictlyIncreasing}
use Rattle.std.proofs.lemmas.List.FromFn.{get_or-map-range_with_len, length-map-range_with_len}
use Rattle.crew_terms.specs.Plan.{Plan, job_of}
use Rattle.crew_terms.specs.Limits.{Limits, tasks_in, teams_in, pair_of}
use Rattle.crew_terms.specs.Minutes.{IsListOf, required_teams}
use Rattle.crew_terms.specs.declared.Pair.TheVariants.{Required}
use Rattle.crew_terms.specs.Rising.{rises_tail, above_head}
use Rattle.search_terms.specs.Closing.{required_job, required_plan}
use Rattle.crew_laws.specs.Listed.{of_either}

-- the plan has the required jobs
pub record IsRequiredPlan (n : Limits) (q : Plan) : Type 0 where
  pub whole : length q ≡ tasks_in n
  pub jobs : (j : ℕ) → j < tasks_in n → job_of q j ≡ required_job n j

pub required_whole : (n : Limits) → IsRequiredPlan n (required_plan n)
required_whole n = record {
  whole = length-map-range_with_len (required_job n) 0 (tasks_in n);
  jobs = λ j l. get_or-map-range_with_len (required_job n) 0 (tasks_in n) j j None l (omega arith);
}

-- the law that the required teams of a task are listed
abbrev pub RequiredAreListed : Type 0
RequiredAreListed = (n : Limits) (j : ℕ) → IsListOf (λ k. (k < teams_in n) × (pair_of n k j ≡ Required)) (required_teams n j)

-- ---- rising lists of the same numbers are one list

above : (x : ℕ) (xs : List ℕ) → IsStrictlyIncreasing (x ∷ xs) → (k : ℕ) → Contains xs k → x < k
above x xs r k (i, l, e) = let a = above_head x xs r i l in let b : get_or xs i 0 ≡ get_or xs i k = get_same xs i 0 k l in omega arith
  where
    get_same : (ys : List ℕ) (i c d : ℕ) → i < length ys → get_or ys i c ≡ get_or ys i d
    get_same [] i c d l = absurd (omega arith)
    get_same (y ∷ ys) zero c d l = refl
    get_same (y ∷ ys) (suc i) c d l = get_same ys i c d (omega arith)

head_of : (x : ℕ) (xs : List ℕ) → Contains (x ∷ xs) x
head_of x xs = (0, omega arith, refl)

tail_of : (x k : ℕ) (xs : List ℕ) → Contains xs k → Contains (x ∷ xs) k
tail_of x k xs (i, l, e) = (suc i, omega arith, e)

none_in : (x : ℕ) → Contains [] x → ⊥
none_in x (i, l, e) = omega arith

pub one_rising : (xs ys : List ℕ) → IsStrictlyIncreasing xs → IsStrictlyIncreasing ys → ((k : ℕ) → Contains xs k → Contains ys k) → ((k : ℕ) → Contains ys k → Contains xs k) → xs ≡ ys
one_rising [] [] a b f g = refl
one_rising [] (y ∷ ys) a b f g = absurd (none_in y (g y (head_of y ys)))
one_rising (x ∷ xs) [] a b f g = absurd (none_in x (f x (head_of x xs)))
one_rising (x ∷ xs) (y ∷ ys) a b f g =
    let heads = same (of_either y x ys (f x (head_of x xs))) (of_either x y xs (g y (head_of y ys))) in
    let tails = one_rising xs ys (rises_tail x xs a) (rises_tail y ys b)
    (λ k c. there k (above x xs a k c) heads (of_either y k ys (f k (tail_of x k xs c))))
    (λ k c. back k (above y ys b k c) heads (of_either x k xs (g k (tail_of y k ys c)))) in
    cc
  where
    same : (y ≡ x) ⊎ Contains ys x → (x ≡ y) ⊎ Contains xs y → x ≡ y
    same (inl e) t = sym e
    same (inr c) (inl e) = e
    same (inr c) (inr d) = let p = above y ys b x c in let q = above x xs a y d in absurd (omega arith)

    there : (k : ℕ) → x < k → x ≡ y → (y ≡ k) ⊎ Contains ys k → Contains ys k
    there k lt e (inl h) = absurd (omega arith)
    there k lt e (inr c) = c

    back : (k : ℕ) → y < k → x ≡ y → (x ≡ k) ⊎ Contains xs k → Contains xs k
    back k lt e (inl h) = absurd (omega arith)
    back k lt e (inr c) = c
