-- laws of the limits of nodes, and of jobs
use Rattle.std.proofs.Common.{◌≡◌, ◌≢◌, ◌≤◌, ◌<◌, ℕ, List, [], ◌∷◌, length, ap, sym, refl, ◌∙◌, arith, true, false, None, Some, ◌⊎◌, inl, inr}
use Rattle.std.specs.Prelude.{slice_index_or, map}
use Rattle.std.specs.List.{range_with_len}
use Rattle.std.proofs.lemmas.Bool.{cases_lt}
use Rattle.std.proofs.lemmas.List.{get_or_past}
use Rattle.std.proofs.lemmas.List.FromFn.{get_or-map-range_with_len}
use Rattle.crew_terms.specs.Instance.{Instance, task_of}
use Rattle.crew_terms.specs.Plan.{Plan, Job, Does, job_of}
use Rattle.crew_terms.specs.Limits.{Limits, window_of, pair_of, root_limits, root_window, root_pair, is_required}
use Rattle.crew_terms.specs.Branches.{Frame, split_of, side_of}
use Rattle.crew_terms.specs.Tree.{child, limits_below}
use Rattle.crew_terms.specs.declared.Pair.{Pair}
use Rattle.crew_terms.specs.declared.Pair.TheVariants.{Free, Forbidden, Required}
use Rattle.crew_terms.specs.declared.Choice.{Choice}
use Rattle.crew_terms.specs.declared.Choice.TheVariants as choices
use Rattle.crew_terms.specs.declared.Side.{Side}
use Rattle.crew_terms.specs.declared.Side.TheVariants.{First, Second}

-- a job of the plan is one of its tasks
pub job_known : (p : Plan) (j : ℕ) (job : Job) → job_of p j ≡ Some job → j < length p
job_known p j job e = at (cases_lt j (length p))
  where
    at : (j < length p) ⊎ (length p ≤ j) → j < length p
    at (inl l) = l
    at (inr m) = let n : job_of p j ≡ None = get_or_past p j None m in let x : None ≡ Some job = sym n ∙ e in cc

-- so is what a team begins
pub task_known : (p : Plan) (k j t : ℕ) → Does p k j t → j < length p
task_known p k j t d = job_known p j d.0 d.1

-- the test of a pair tells required ones
pub required_is : (p : Pair) → is_required p ≡ true → p ≡ Required
required_is Free e = absurd (let a : false ≡ true = e in cc)
required_is Forbidden e = absurd (let a : false ≡ true = e in cc)
required_is Required e = refl

-- it fails of the others
pub not_required : (p : Pair) → p ≢ Required → is_required p ≡ false
not_required Free ne = refl
not_required Forbidden ne = refl
not_required Required ne = absurd (ne refl)

-- the window of a task in the root
pub window_at_root : (i : Instance) (j : ℕ) → j < length i.tasks → window_of (root_limits i) j ≡ root_window (task_of i j) (job_of i.frozen j)
window_at_root i j l = get_or-map-range_with_len (λ j. root_window (task_of i j) (job_of i.frozen j)) 0 (length i.tasks) j j (0, 0) l (omega arith)

-- what the root says of a pair
pub pair_at_root : (i : Instance) (k j : ℕ) → k < length i.teams → j < length i.tasks → pair_of (root_limits i) k j ≡ root_pair (job_of i.frozen j) k
pair_at_root i k j m l =
    let row = λ (k : ℕ). map (λ j. root_pair (job_of i.frozen j) k) (range_with_len 0 (length i.tasks)) in
    ap (λ pairs. slice_index_or pairs j Free) (get_or-map-range_with_len row 0 (length i.teams) k k [] m (omega arith))
    ∙ get_or-map-range_with_len (λ j. root_pair (job_of i.frozen j) k) 0 (length i.tasks) j j Free l (omega arith)

-- a child is a node of the same instance
pub child_instance : (n : Limits) (choice : Choice) (side : Side) → (child n choice side).instance ≡ n.instance
child_instance n (choices.Window j cut) First = refl
child_instance n (choices.Window j cut) Second = refl
child_instance n (choices.Pair k j) First = refl
child_instance n (choices.Pair k j) Second = refl

-- so is each node below it
pub instance_below : {A : Type 0} (root : Limits) (above : List (Frame Choice A)) → (limits_below root above).instance ≡ root.instance
instance_below root [] = refl
instance_below root (frame ∷ above) = child_instance (limits_below root above) (split_of frame) (side_of frame) ∙ instance_below root above
