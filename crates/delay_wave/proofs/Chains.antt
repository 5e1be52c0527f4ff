-- the chain to a task begins with one that begins as planned
use Rattle.std.proofs.Common.{◌≡◌, ◌<◌, ◌≤◌, ◌+◌, ◌++◌, ◌⊎◌, inl, inr, ℕ, zero, suc, List, [], ◌∷◌, Bool, true, false, Option, Some, None, length, get_or, ltb, arith, refl, sym, ap, subst, ◌∙◌}
use Rattle.std.specs.Option.{option_map_or}
use Rattle.std.proofs.lemmas.Bool.{cases_lt, le-ltb, lt-ltb}
use Rattle.std.proofs.lemmas.List.{length-append}
use Rattle.crew_terms.specs.Plan.{Plan, Job, job_of}
use Rattle.delay_wave.specs.declared.waits.Wait.{Wait}
use Rattle.delay_wave.specs.Waits.{Begins, IsChain, Waits, chain_within, holder_of}

longer : (w : List (Option Wait)) (n j : ℕ) (o : Option ℕ) → ((h : ℕ) → length (chain_within w n h) ≤ n + 1) → length (option_map_or (chain_within w n) o [] ++ j ∷ []) ≤ suc n + 1
longer w n j None ih = omega arith
longer w n j (Some h) ih = let l = ih h in let m = length-append (chain_within w n h) (j ∷ []) in omega arith

-- a task more at each step, at the most
pub few_within : (w : List (Option Wait)) (n j : ℕ) → length (chain_within w n j) ≤ n + 1
few_within w zero j = omega arith
few_within w (suc n) j = longer w n j (holder_of w j) (few_within w n)

-- where what holds up has a lower rank, the chain is whole
module _ (w : List (Option Wait)) (r : ℕ → ℕ) (falls : (j h : ℕ) → holder_of w j ≡ Some h → r h < r j) where
  unheld : (j : ℕ) (o : Option ℕ) → holder_of w j ≡ o → r j ≤ 0 → holder_of w j ≡ None
  unheld j None e l = e
  unheld j (Some h) e l = let m = falls j h e in absurd (omega arith)

  step : (n j : ℕ) → ((h : ℕ) → r h ≤ n → IsChain w (chain_within w n h) h) → r j ≤ suc n → (o : Option ℕ) → holder_of w j ≡ o
      → IsChain w (option_map_or (chain_within w n) o [] ++ j ∷ []) j
  step n j ih l None e = Begins j e
  step n j ih l (Some h) e = let m = falls j h e in Waits (chain_within w n h) h j (ih h (omega arith)) e

  pub chain_is : (n j : ℕ) → r j ≤ n → IsChain w (chain_within w n j) j
  chain_is zero j l = Begins j (unheld j (holder_of w j) refl l)
  chain_is (suc n) j l = step n j (chain_is n) l (holder_of w j) refl

-- 1 for a test that holds
abbrev digit : Bool → ℕ
digit true = 1
digit false = 0

-- 1 where the job begins before minute t
abbrev begins_before : ℕ → Option Job → ℕ
begins_before t None = 0
begins_before t (Some job) = digit (ltb job.start t)

-- how many tasks begin before minute t
abbrev rank : Plan → ℕ → ℕ
rank [] t = 0
rank (o ∷ p) t = begins_before t o + rank p t

counted : (s t : ℕ) → s < t → digit (ltb s t) ≡ digit true
counted s t l = ap digit (lt-ltb s t l)

uncounted : (s t : ℕ) → t ≤ s → digit (ltb s t) ≡ digit false
uncounted s t l = ap digit (le-ltb s t l)

at_most_one : (b : Bool) → digit b ≤ 1
at_most_one true = omega arith
at_most_one false = omega arith

job_once : (t : ℕ) (o : Option Job) → begins_before t o ≤ 1
job_once t None = omega arith
job_once t (Some job) = at_most_one (ltb job.start t)

rank_few : (p : Plan) (t : ℕ) → rank p t ≤ length p
rank_few [] t = omega arith
rank_few (o ∷ p) t = let a = job_once t o in let b = rank_few p t in omega arith

grows_by : (t u : ℕ) (o : Option Job) → t ≤ u → begins_before t o ≤ begins_before u o
grows_by t u None l = omega arith
grows_by t u (Some job) l = at (cases_lt job.start t)
  where
    at : (job.start < t) ⊎ (t ≤ job.start) → digit (ltb job.start t) ≤ digit (ltb job.start u)
    at (inl m) = let a = at_most_one (ltb job.start t) in let b = counted job.start u (omega arith) in omega arith
    at (inr m) = let a = uncounted job.start t m in omega arith

grows : (p : Plan) (t u : ℕ) → t ≤ u → rank p t ≤ rank p u
grows [] t u l = omega arith
grows (o ∷ p) t u l = let a = grows_by t u o l in let b = grows p t u l in omega arith

-- a job that begins from minute t on and before minute u counts before u alone
rises : (p : Plan) (t u j : ℕ) (job : Job) → job_of p j ≡ Some job → t ≤ job.start → job.start < u → rank p t < rank p u
rises [] t u j job e l m = absurd (let x : None ≡ Some job = e in cc)
rises (o ∷ p) t u zero job e l m =
    let a = ap (begins_before t) e in let b = ap (begins_before u) e in
    let x = counted job.start u m in let y = uncounted job.start t l in
    let g = grows p t u (omega arith) in omega arith
rises (o ∷ p) t u (suc j) job e l m = let a = grows_by t u o (omega arith) in let b = rises p t u j job e l m in omega arith

-- the rank of a task is that of its planned start
abbrev pub rank_of : Plan → ℕ → ℕ
rank_of p j = option_map_or (λ (job : Job). rank p job.start) (job_of p j) 0

pub rank_in_plan : (p : Plan) (j : ℕ) → rank_of p j ≤ length p
rank_in_plan p j = at (job_of p j)
  where
    at : (o : Option Job) → option_map_or (λ (job : Job). rank p job.start) o 0 ≤ length p
    at None = omega arith
    at (Some job) = rank_few p job.start

pub rank_falls : (p : Plan) (j h : ℕ) (b a : Job) → job_of p j ≡ Some b → job_of p h ≡ Some a → a.start < b.start → rank_of p h < rank_of p j
rank_falls p j h b a e f l =
    let x : rank_of p j ≡ rank p b.start = ap (λ o. option_map_or (λ (job : Job). rank p job.start) o 0) e in
    let y : rank_of p h ≡ rank p a.start = ap (λ o. option_map_or (λ (job : Job). rank p job.start) o 0) f in
    let z = rises p a.start b.start h a f (omega arith) l in omega arith
