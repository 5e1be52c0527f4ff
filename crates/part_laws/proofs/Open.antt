-- how many tasks a plan leaves open in lists of its tasks
use Rattle.std.proofs.Common.{◌≡◌, ◌≢◌, ◌≤◌, ◌<◌, ◌+◌, ℕ, suc, cond, List, [], ◌∷◌, length, get_or, set, refl, ap, sym, ◌∙◌, arith, None, Some}
use Rattle.std.specs.Prelude.{All, AllPairs, flat_map, is_none}
use Rattle.std.specs.List.{sum_by}
use Rattle.std.proofs.lemmas.List.{get_or-set_other, length-set, map-append}
use Rattle.std.proofs.lemmas.List.Concat.{flat_map-cons}
use Rattle.std.proofs.lemmas.List.Elements.{All-append, All-head, All-nil}
use Rattle.std.proofs.lemmas.List.Sums.{sum_by-append, sum_by-cons, sum_by-set}
use Rattle.crew_terms.specs.Plan.{Plan, Job, job_of, unassigned_count}
use Rattle.crew_terms.specs.Instance.{Instance}
use Rattle.part_terms.specs.Parts.{Part, Restricts, cut_down}

-- some job
a_job : Job
a_job = record { start = 0; teams = [] }

-- what stands behind the first element, of all elements
tail_all : {X : Type 0} (P : X → Type 0) (x : X) (xs : List X) → All P (x ∷ xs) → All P xs
tail_all P x xs all m d l = all (suc m) d (omega arith)

tail_pairs : {X : Type 0} (R : X → X → Type 0) (x : X) (xs : List X) → AllPairs R (x ∷ xs) → AllPairs R xs
tail_pairs R x xs all m n d l h = all (suc m) (suc n) d (omega arith) (omega arith)

-- a plan that differs at none of the tasks has the same jobs there
same_jobs : (p q : Plan) (tasks : List ℕ) → All (λ t. job_of p t ≡ job_of q t) tasks → cut_down p tasks ≡ cut_down q tasks
same_jobs p q [] all = refl
same_jobs p q (t ∷ tasks) all =
    let head = All-head (λ t. job_of p t ≡ job_of q t) t tasks all in
    let rest = same_jobs p q tasks (tail_all (λ t. job_of p t ≡ job_of q t) t tasks all) in
    cc

-- different tasks of a plan are left open at most as often as all of them
pub few_open : (tasks : List ℕ) (p : Plan) → All (λ t. t < length p) tasks → AllPairs (λ a b. a ≢ b) tasks → unassigned_count (cut_down p tasks) ≤ unassigned_count p
few_open [] p known differ = omega arith
few_open (t ∷ tasks) p known differ =
    let below : t < length p = All-head (λ t. t < length p) t tasks known in
    let length_same = length-set p t (Some a_job) in
    let rest : unassigned_count (cut_down (set p t (Some a_job)) tasks) ≤ unassigned_count (set p t (Some a_job)) =
    few_open tasks (set p t (Some a_job)) (λ m d l. let k = known (suc m) d (omega arith) in omega arith) (tail_pairs (λ a b. a ≢ b) t tasks differ) in
    let same : cut_down p tasks ≡ cut_down (set p t (Some a_job)) tasks =
    same_jobs p (set p t (Some a_job)) tasks (λ m d l. sym (get_or-set_other p t (get_or tasks m d) (Some a_job) None (λ e. differ 0 (suc m) d (omega arith) (omega arith) (sym e)))) in
    let moved : unassigned_count (cut_down p tasks) ≡ unassigned_count (cut_down (set p t (Some a_job)) tasks) = ap (λ (q : Plan). unassigned_count q) same in
    let whole : unassigned_count (set p t (Some a_job)) + cond (is_none (job_of p t)) 1 0 ≡ unassigned_count p + 0 = sum_by-set (λ o. cond (is_none o) 1 0) p t (Some a_job) None below in
    let first : unassigned_count (cut_down p (t ∷ tasks)) ≡ cond (is_none (job_of p t)) 1 0 + unassigned_count (cut_down p tasks) = sum_by-cons (λ o. cond (is_none o) 1 0) (job_of p t) (cut_down p tasks) in
    omega arith

-- lists put together leave as many open as they do one by one
pub open_together : (p : Plan) (parts : List Part)
    → sum_by (λ (part : Part). unassigned_count (cut_down p part.tasks)) parts ≡ unassigned_count (cut_down p (flat_map (λ (part : Part). part.tasks) parts))
open_together p [] = refl
open_together p (part ∷ parts) =
    let left = λ (part : Part). unassigned_count (cut_down p part.tasks) in
    let tasks = λ (part : Part). part.tasks in
    let counts : unassigned_count (cut_down p (flat_map tasks (part ∷ parts))) ≡ unassigned_count (cut_down p part.tasks) + unassigned_count (cut_down p (flat_map tasks parts)) =
    ap (λ ts. unassigned_count (cut_down p ts)) (flat_map-cons tasks part parts)
    ∙ ap (λ (q : Plan). unassigned_count q) (map-append (job_of p) part.tasks (flat_map tasks parts))
    ∙ sum_by-append (λ o. cond (is_none o) 1 0) (cut_down p part.tasks) (cut_down p (flat_map tasks parts)) in
    sum_by-cons left part parts ∙ ap (λ n. unassigned_count (cut_down p part.tasks) + n) (open_together p parts) ∙ sym counts

-- a sum of numbers that are not greater is not greater
pub sum_below : {X : Type 0} (f g : X → ℕ) (xs : List X) → All (λ x. f x ≤ g x) xs → sum_by f xs ≤ sum_by g xs
sum_below f g [] all = omega arith
sum_below f g (x ∷ xs) all =
    let head = All-head (λ x. f x ≤ g x) x xs all in
    let rest = sum_below f g xs (tail_all (λ x. f x ≤ g x) x xs all) in
    let a = sum_by-cons f x xs in
    let b = sum_by-cons g x xs in
    omega arith

-- the tasks of all parts are tasks of the whole
pub known_together : (i : Instance) (parts : List Part) (p : Plan) → length p ≡ length i.tasks → All (λ (part : Part). Restricts i part.instance part.tasks) parts
    → All (λ t. t < length p) (flat_map (λ (part : Part). part.tasks) parts)
known_together i [] p whole each = All-nil (λ t. t < length p)
known_together i (part ∷ parts) p whole each =
    let tasks = λ (part : Part). part.tasks in
    let restricts = λ (part : Part). Restricts i part.instance part.tasks in
    let head = (All-head restricts part parts each).known in
    let rest = known_together i parts p whole (tail_all restricts part parts each) in
    rw (flat_map-cons tasks part parts) (All-append (λ t. t < length p) part.tasks (flat_map tasks parts) (λ m d l. let k = head m d l in omega arith) rest)
