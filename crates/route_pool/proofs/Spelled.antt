-- the visit that two numbers of a line spell
use Rattle.std.proofs.Common.{◌≡◌, ◌<◌, ◌≤◌, ◌+◌, ◌*◌, ◌/◌, ◌^◌, ℕ, zero, suc, ℤ, pos, List, [], ◌∷◌, ◌++◌, length, map, take, get_or, ap, sym, subst, refl, ◌∙◌, arith, to_z, of_z, w64, w32, Fits, nat_abs, T}
use Rattle.std.specs.Prelude.{FitsSigned}
use Rattle.std.specs.Int.Signed.{non_neg}
use Rattle.std.specs.List.{flat_map}
use Rattle.std.proofs.lemmas.Int.{to_z-of_z}
use Rattle.std.proofs.lemmas.List.{take_more, take_all}
use Rattle.std.proofs.lemmas.List.Elements.{All-from_recursion}
use Rattle.crew_terms.specs.declared.Visit.{Visit}
use Rattle.route_terms.specs.KeyLaws.{visit_at}
use Rattle.route_pool.specs.Numbers.{AreNumbersOf}

abbrev none : Visit
none = record { task = 0; start = 0 }

abbrev pair : Visit → List ℕ
pair v = v.task ∷ v.start ∷ []

twice_long : (vs : List Visit) → length (map pos (flat_map pair vs)) ≡ 2 * length vs
twice_long [] = refl
twice_long (v ∷ vs) = let r = twice_long vs in omega arith

task_at : (vs : List Visit) (n : ℕ) → n < length vs → get_or (map pos (flat_map pair vs)) (2 * n) (pos 0) ≡ pos (get_or vs n none).task
task_at [] n below = absurd (omega arith)
task_at (v ∷ vs) zero below = refl
task_at (v ∷ vs) (suc n) below =
    let e : 2 * suc n ≡ suc (suc (2 * n)) = omega arith in
    rw e (task_at vs n (omega arith))

start_at : (vs : List Visit) (n : ℕ) → n < length vs → get_or (map pos (flat_map pair vs)) (2 * n + 1) (pos 0) ≡ pos (get_or vs n none).start
start_at [] n below = absurd (omega arith)
start_at (v ∷ vs) zero below = refl
start_at (v ∷ vs) (suc n) below =
    let e : 2 * suc n + 1 ≡ suc (suc (2 * n + 1)) = omega arith in
    rw e (start_at vs n (omega arith))

-- the number that a value is when it is cast
abbrev pub cast : ℤ → ℕ
cast z = nat_abs (to_z w64 (of_z w64 z))

kept : (z : ℤ) (n : ℕ) → z ≡ pos n → n < 2 ^ 32 → to_z w64 (of_z w64 z) ≡ pos n
kept z n e small =
    let fits : FitsSigned w64 (pos n) = record { sfits = omega arith } in
    to_z-of_z w64 z (subst (FitsSigned w64) (sym e) fits) ∙ e

fits : (z : ℤ) (n : ℕ) → z ≡ pos n → n < 2 ^ 32 → T (non_neg (to_z w64 (of_z w64 z))) × Fits w32 (cast z)
fits z n e small = rw (kept z n e small) (tt, record { fits = small })

module _ (vs : List Visit) (numbers : List ℤ) (are : AreNumbersOf vs numbers) where
  pub is_visit : (n : ℕ) → n < length numbers / 2 → n < length vs
  is_visit n below = let l : length numbers ≡ 2 * length vs = ap length are.spelled ∙ twice_long vs in omega arith

  pub all_read : (n : ℕ) → length numbers / 2 ≤ n → take n vs ≡ vs
  all_read n past =
      let l : length numbers ≡ 2 * length vs = ap length are.spelled ∙ twice_long vs in
      take_all n vs (omega arith)

  module _ (n : ℕ) (below : n < length vs) where
    task_is : get_or numbers (2 * n) (pos 0) ≡ pos (get_or vs n none).task
    task_is = ap (λ ns. get_or ns (2 * n) (pos 0)) are.spelled ∙ task_at vs n below

    start_is : get_or numbers (2 * n + 1) (pos 0) ≡ pos (get_or vs n none).start
    start_is = ap (λ ns. get_or ns (2 * n + 1) (pos 0)) are.spelled ∙ start_at vs n below

    task_small : (get_or vs n none).task < 2 ^ 32
    task_small = All-from_recursion (λ (v : Visit). v.task < 2 ^ 32) vs are.tasks n none below

    start_small : (get_or vs n none).start < 2 ^ 32
    start_small = All-from_recursion (λ (v : Visit). v.start < 2 ^ 32) vs are.starts n none below

    pub task_fits : (z : ℤ) → z ≡ get_or numbers (2 * n) (pos 0) → T (non_neg (to_z w64 (of_z w64 z))) × Fits w32 (cast z)
    task_fits z e = fits z (get_or vs n none).task (e ∙ task_is) task_small

    pub start_fits : (z : ℤ) → z ≡ get_or numbers (2 * n + 1) (pos 0) → T (non_neg (to_z w64 (of_z w64 z))) × Fits w32 (cast z)
    start_fits z e = fits z (get_or vs n none).start (e ∙ start_is) start_small

    visit_is : (y z : ℤ) → y ≡ get_or numbers (2 * n) (pos 0) → z ≡ get_or numbers (2 * n + 1) (pos 0)
        → visit_at (cast y) (cast z) ≡ get_or vs n none
    visit_is y z e f =
        let task : cast y ≡ (get_or vs n none).task = ap nat_abs (kept y (get_or vs n none).task (e ∙ task_is) task_small) in
        let start : cast z ≡ (get_or vs n none).start = ap nat_abs (kept z (get_or vs n none).start (f ∙ start_is) start_small) in
        ap (λ t. visit_at t (cast z)) task ∙ ap (visit_at (get_or vs n none).task) start

    -- with the visit of the next two numbers, the visits so far are one more
    pub one_more : (y z : ℤ) (old new : List Visit) → y ≡ get_or numbers (2 * n) (pos 0) → z ≡ get_or numbers (2 * n + 1) (pos 0)
        → old ≡ take n vs → new ≡ old ++ visit_at (cast y) (cast z) ∷ [] → new ≡ take (n + 1) vs
    one_more y z old new e f so_far pushed =
        pushed ∙ ap (λ vs. vs ++ visit_at (cast y) (cast z) ∷ []) so_far ∙ ap (λ v. take n vs ++ v ∷ []) (visit_is y z e f) ∙ sym (take_more vs n none below)
