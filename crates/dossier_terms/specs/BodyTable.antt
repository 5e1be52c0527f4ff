-- the table of lines: the pool, the plan and the numbers of the tree
use Rattle.std.specs.Prelude.{◌≡◌, ◌≢◌, ◌≤◌, ◌<◌, ◌+◌, ◌-◌, ◌++◌, ℕ, zero, suc, [], ◌∷◌, length, Some, slice_set, codes, All}
use Rattle.crew_terms.specs.Words.{Words}
use Rattle.crew_terms.specs.Instance.{Instance}
use Rattle.crew_terms.specs.Plan.{Plan, empty_plan, unassigned_count}
use Rattle.crew_terms.specs.Legal.{IsLegal}
use Rattle.crew_terms.specs.Limits.{Route, IsRoute, root_limits}
use Rattle.crew_terms.specs.Verdict.{IsVerdict}
use Rattle.crew_terms.specs.declared.PlanVerdict.{PlanVerdict}
use Rattle.crew_terms.specs.declared.TreeCounts.{TreeCounts}
use Rattle.crew_terms.specs.declared.TheConstants.{MOST_NUMBER}
use Rattle.dossier_terms.specs.declared.DossierForm.{DossierForm}
use Rattle.dossier_terms.specs.declared.Reason.{Reason}
use Rattle.dossier_terms.specs.declared.Reason.TheVariants.{Shape, Number, Plan as BadPlan, Count, Budget, Pool}
use Rattle.dossier_terms.specs.Lines.{pool_line, route_line, plan_line, do_line, tree_line}
use Rattle.dossier_terms.specs.Reading.{Answer, Begun, Jobs, Trees, Nodes, routes_due}
use Rattle.dossier_terms.specs.Rules.{Must, MustBy, MustSpell, Goes, IsShape, IsShapeFrom, Begins}
use Rattle.dossier_terms.specs.Ranges.{IsRouteLine, IsDoLine, IsCounts, IsPairs}

-- a dossier of which the pool comes next
abbrev pub begin : DossierForm → Instance → ℕ → ℕ → Begun
begin form i budget kept = record { form = form; instance = i; budget = budget; kept = kept; pool = []; plan = empty_plan (length i.tasks); bound = 0 }

-- a line `pool`
abbrev pub pool_row : DossierForm → Instance → ℕ → Words → Answer → Type 0
pool_row form i budget ws = Must (IsShape (codes "pool") 2 ws) Shape
    (MustSpell (λ (p : ℕ × ℕ). pool_line p.0 p.1) (λ p. (p.0 ≤ MOST_NUMBER) × (p.1 ≤ MOST_NUMBER)) ws Number λ p.
    Must (p.0 ≤ p.1) Pool
    (Goes (routes_due (begin form i budget p.0) p.1)))

-- a line `route`
abbrev pub route_row : Begun → ℕ → Words → Answer → Type 0
route_row b k ws = Must (Begins (codes "route") ws × IsPairs ws) Shape
    (MustSpell route_line (IsRouteLine (length b.instance.teams) (length b.instance.tasks)) ws Number λ r.
    Must (IsRoute (root_limits b.instance) r.team r.visits) Pool
    (Must (All (λ (o : Route). o ≢ r) b.pool) Pool
    (Goes (routes_due (record b { pool = b.pool ++ r ∷ [] }) k))))

-- the reason tells the first fault of the plan
abbrev pub BreaksPlan : Instance → Plan → Reason → Type 0
BreaksPlan i p reason = (verdict : PlanVerdict) × IsVerdict i p verdict × (reason ≡ BadPlan verdict)

-- what is said where k jobs are left, of tasks from `from` on: the last line of the plan is judged with all of it
abbrev pub after_job : Begun → ℕ → ℕ → Answer → Type 0
after_job b zero from = MustBy (IsLegal b.instance b.plan) (BreaksPlan b.instance b.plan) (Goes (Trees b))
after_job b (suc k) from = Goes (Jobs b k from)

-- a line `plan`
abbrev pub plan_row : Begun → Words → Answer → Type 0
plan_row b ws = Must (IsShape (codes "plan") 2 ws) Shape
    (MustSpell (λ (p : ℕ × ℕ). plan_line p.0 p.1) (λ p. (p.0 ≤ length b.instance.tasks) × (p.1 ≤ length b.instance.tasks)) ws Number λ p.
    after_job (record b { bound = p.1 }) (length b.instance.tasks - p.0) 0)

-- a line `do`, where k more come after it and the task is at least `from`
abbrev pub job_row : Begun → ℕ → ℕ → Words → Answer → Type 0
job_row b k from ws = Must (IsShapeFrom (codes "do") 2 ws) Shape
    (MustSpell do_line (IsDoLine (length b.instance.teams) (length b.instance.tasks)) ws Number λ p.
    Must (from ≤ p.0) Shape
    (after_job (record b { plan = slice_set b.plan p.0 (Some p.1) }) k (suc p.0)))

-- what is said after the numbers of a tree
abbrev pub after_counts : Begun → TreeCounts → Answer → Type 0
after_counts b c = Must (c.closed + c.left_open ≡ c.splits + 1) Count
    (Must (c.splits + c.closed ≤ b.budget) Budget
    (Must (b.bound < unassigned_count b.plan → c.splits + c.closed ≡ b.budget) Budget
    (Goes (Nodes b c []))))

-- a line `tree`
abbrev pub tree_row : Begun → Words → Answer → Type 0
tree_row b ws = Must (IsShape (codes "tree") 4 ws) Shape
    (MustSpell tree_line IsCounts ws Number λ c.
    after_counts b c)
