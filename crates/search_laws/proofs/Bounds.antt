-- the bound does not fall
use Rattle.std.proofs.Common.{◌≡◌, ◌≤◌, ℕ, zero, suc, List, [], refl, ap, sym, subst, arith}
use Rattle.std.specs.Prelude.{ℤ, pos, is_none, replicate, slice_index_or}
use Rattle.std.proofs.lemmas.Int.{ints}
use Rattle.std.proofs.lemmas.List.Sums.{count_by-le-length}
use Rattle.crew_terms.specs.Instance.{Instance}
use Rattle.crew_terms.specs.Rules.{IsInstance}
use Rattle.crew_terms.specs.Plan.{Plan, unassigned_count}
use Rattle.crew_terms.specs.Legal.{IsLegal}
use Rattle.crew_terms.specs.Limits.{Limits, Route, IsLimits, root_limits, tasks_in, teams_in}
use Rattle.crew_terms.specs.Leaf.{pi_of, rho_of, IsPrice, zero_prices}
use Rattle.crew_terms.specs.Tree.{Tree, IsSound}
use Rattle.crew_terms.specs.declared.Side.{Side}
use Rattle.search_terms.specs.Proven.{PricesProve}
use Rattle.search_terms.specs.SearchTree.{EachOpen, IfOpen}
use Rattle.search_terms.specs.Ways.{limits_at, prices_at}
use Rattle.search_terms.specs.Search.{SearchState, best, IsSearchStep, IsRun, Start, Then, IsStart, Improves, Stays, Betters, IsProved, IsBound}
use Rattle.search_terms.specs.WayLimits.{tasks_at}
use Rattle.search_laws.proofs.Inside.{shape_of}
use Rattle.search_laws.proofs.Ways.{each_replaced, ways_from_each, shape_at}
use Rattle.search_laws.proofs.Steps.{Stands, run_stands, state_sound, new_open}

abbrev pub TreeProves : Type 0
TreeProves = (i : Instance) (t : Tree) (l u : ℕ) (p : Plan) → IsInstance i → IsSound t (root_limits i) l u → IsLegal i p → l ≤ unassigned_count p

abbrev pub RootIsLimits : Type 0
RootIsLimits = (i : Instance) → IsInstance i → IsLimits (root_limits i)

-- every legal plan leaves at least as many tasks unassigned as the plan and all open leaves prove
pub proved_plans : TreeProves → (i : Instance) (budget : ℕ) (s : SearchState) (l : ℕ) (p : Plan) → IsInstance i → IsRun i budget s → IsProved i s l → IsLegal i p → l ≤ unassigned_count p
proved_plans law i budget s l p is run proved legal =
    let t = state_sound i budget s l (run_stands i budget s run) proved in
    law i t.0 l (best s) p is t.2 legal

pub still_proved : TreeProves → RootIsLimits → (i : Instance) (budget : ℕ) (way : List Side) (pivots : ℕ) (columns more : List Route) (s t : SearchState) (l : ℕ)
    → IsInstance i → IsRun i budget s → IsSearchStep i way pivots columns more s t → IsProved i s l → IsProved i t l
still_proved law root_law i budget way pivots columns more s t l is run step proved = record {
  plan = plan (run_stands i budget s run) step.plan;
  leaves = subst (λ u. EachOpen (λ n p. PricesProve n p l) (root_limits i) u) (sym step.tree)
      (each_replaced (IfOpen (λ n p. PricesProve n p l)) (root_limits i) s.tree way step.new step.leads proved.leaves
      (new_open (best t) pivots more l (limits_at (root_limits i) s.tree way) (prices_at s.tree way) step.new
      (shape_at (root_limits i) s.tree way (shape_of (root_limits i) (root_law i is))) (tasks_at (root_limits i) s.tree way l few)
      (ways_from_each (λ n p. PricesProve n p l) (root_limits i) s.tree proved.leaves way step.leads) step.becomes));
}
  where
    plan : Stands i budget s → Improves i s.plan t.plan → l ≤ best t
    plan stands (Stays same) = let e = ap unassigned_count same in let a = proved.plan in omega arith
    plan stands (Betters better fewer) = proved_plans law i budget s l t.plan is run proved better.legal

    few : l ≤ tasks_in (root_limits i)
    few =
        let a = count_by-le-length is_none s.plan in
        let b = (run_stands i budget s run).plan.legal.feasible.whole in
        let c = proved.plan in
        omega arith

pub bound_rises : TreeProves → RootIsLimits → (i : Instance) (budget : ℕ) (way : List Side) (pivots : ℕ) (columns more : List Route) (s t : SearchState) (b c : ℕ)
    → IsInstance i → IsRun i budget s → IsSearchStep i way pivots columns more s t → IsBound i s b → IsBound i t c → b ≤ c
bound_rises law root_law i budget way pivots columns more s t b c is run step low high =
    high.greatest b (still_proved law root_law i budget way pivots columns more s t b is run step low.proved)

-- ---- zero prices prove nothing, but are prices of a leaf

zeros : (n j : ℕ) → slice_index_or (replicate n (pos 0)) j (pos 0) ≡ pos 0
zeros zero j = refl
zeros (suc n) zero = refl
zeros (suc n) (suc j) = zeros n j

zero_rows : (m n k j : ℕ) → slice_index_or (slice_index_or (replicate m (replicate n (pos 0))) k []) j (pos 0) ≡ pos 0
zero_rows zero n k j = refl
zero_rows (suc m) n zero j = zeros n j
zero_rows (suc m) n (suc k) j = zero_rows m n k j

in_range : (v : ℤ) → v ≡ pos 0 → IsPrice v
in_range v e = record { least = omega (arith, ints); most = omega (arith, ints) }

zero_proves : (n : Limits) → PricesProve n (zero_prices n) 0
zero_proves n =
    let task = λ (j : ℕ). zeros (tasks_in n) j in
    let pair = λ (k j : ℕ). zero_rows (teams_in n) (tasks_in n) k j in
    record {
      worths = [];
      phi = λ k j t. pos 0;
      proved = (
        record {
          range = record { tasks = λ j. in_range (pi_of (zero_prices n) j) (task j); pairs = λ k j. in_range (rho_of (zero_prices n) k j) (pair k j) };
          priced = λ k j ne. pair k j;
          valid = λ k b. record {
            tasks = λ j. record {
              alone = λ t v. let a : pi_of (zero_prices n) j ≡ pos 0 = task j in let b : rho_of (zero_prices n) k j ≡ pos 0 = pair k j in omega (arith, ints);
              step = λ t h u v w s. let a : pi_of (zero_prices n) j ≡ pos 0 = task j in let b : rho_of (zero_prices n) k j ≡ pos 0 = pair k j in omega (arith, ints);
            };
            worth_rules = record { most = λ j t v. omega (arith, ints); idle = omega (arith, ints) };
          };
        },
        tt,
      );
    }

start_proved : (i : Instance) (budget : ℕ) (s : SearchState) → IsStart i budget s → IsProved i s 0
start_proved i budget s h = record { plan = omega arith; leaves = subst (λ t. EachOpen (λ n p. PricesProve n p 0) (root_limits i) t) (sym h.tree) (zero_proves (root_limits i)) }

-- in every state the open leaves' prices have potentials
pub run_proved : TreeProves → RootIsLimits → (i : Instance) (budget : ℕ) (s : SearchState) → IsInstance i → IsRun i budget s → IsProved i s 0
run_proved law root_law i budget s is (Start s' start) = start_proved i budget s' start
run_proved law root_law i budget s is (Then r s' way pivots columns more run step) = still_proved law root_law i budget way pivots columns more r s' 0 is run step (run_proved law root_law i budget r is run)
