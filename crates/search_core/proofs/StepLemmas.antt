-- parts of a step
use Rattle.std.proofs.Common.{◌≡◌, ◌≤◌, ◌<◌, ◌+◌, ◌++◌, ◌∙◌, ◌∷◌, [], ℕ, ℤ, List, Option, None, Some, length, refl, ap, sym, subst, arith}
use Rattle.std.specs.Prelude.{All, IfSome, unwrap_or}
use Rattle.std.proofs.lemmas.List.{get_or_append_left, get_or_push, length-append}
use Rattle.std.proofs.lemmas.List.Elements.{All-append, All-cons, All-nil}
use Rattle.crew_terms.specs.Instance.{Instance}
use Rattle.crew_terms.specs.Leaf.{Prices}
use Rattle.crew_terms.specs.Limits.{Limits, Route}
use Rattle.crew_terms.specs.Plan.{Plan, unassigned_count}
use Rattle.search_core.specs.Handed.{prices_or}
use Rattle.node_queue.specs.declared.Waiting.{Waiting}
use Rattle.node_queue.specs.Waits.{found}
use Rattle.node_solver.specs.Causes.{cause_of}
use Rattle.node_solver.specs.Plans.{IsBetterPlan, now_after}
use Rattle.node_solver.specs.declared.step.Why.{Why}
use Rattle.node_solver.specs.declared.step.Why.TheVariants.{Loose, Overflow, Spent}
use Rattle.search_tree.specs.Keyed.{IsWaiting}
use Rattle.potentials.specs.Prices.{ArePricesOf}
use Rattle.search_core.specs.Searching.{Searching, cause_at, item_or, price_at, split_cause, way_to}
use Rattle.search_core.specs.Settled.{number_of, option_items}
use Rattle.search_core.specs.declared.causes.Cause.{Cause}
use Rattle.search_terms.specs.Earned.{IsEarned}
use Rattle.search_terms.specs.Search.{Improves, Stays, Betters}
use Rattle.search_tree.specs.Numbered.{way_of}

-- prices of one node have the shape of those of another of the same instance
pub same_shape : (n m : Limits) (p : Prices) → n.instance ≡ m.instance → ArePricesOf n p → ArePricesOf m p
same_shape n m p same h = record {
  tasks = h.tasks ∙ ap (λ (i : Instance). length i.tasks) same;
  teams = h.teams ∙ ap (λ (i : Instance). length i.teams) same;
}

-- the plan stays or gets better
pub improves : (i j : Instance) (plan : Plan) (better : Option Plan) → j ≡ i → IfSome better (IsBetterPlan j (unassigned_count plan))
    → Improves i plan (unwrap_or better plan)
improves i j plan None same h = Stays refl
improves i j plan (Some p) same h =
    let g : IsBetterPlan i (unassigned_count plan) p = subst (λ (x : Instance). IsBetterPlan x (unassigned_count plan) p) same h in
    Betters g.keepable g.fewer

pub now_is : (plan : Plan) (better : Option Plan) → now_after (unassigned_count plan) better ≡ unassigned_count (unwrap_or better plan)
now_is plan None = refl
now_is plan (Some p) = refl

-- whether a split is earned doesn't hang on the columns by which its cause is read
pub earned_any : (n : Limits) (now pivots : ℕ) (found : Prices) (columns held other : List Route) (why : Why)
    → IsEarned n now found pivots columns (cause_of held why) → IsEarned n now found pivots columns (cause_of other why)
earned_any n now pivots found columns held other (Loose den shares left_open) e = e
earned_any n now pivots found columns held other (Overflow fault) e = e
earned_any n now pivots found columns held other Spent e = e

-- ---- prices and causes by their numbers

pub price_stays : (prices more : List Prices) (k : ℕ) → k < length prices → price_at (prices ++ more) k ≡ price_at prices k
price_stays prices more k l = get_or_append_left prices more (record { pi = []; rho = [] }) k l

pub price_last : (prices : List Prices) (p : Prices) → price_at (prices ++ p ∷ []) (length prices) ≡ p
price_last prices p = get_or_push prices p (record { pi = []; rho = [] }) (length prices) refl

pub cause_stays : (columns : List Route) (causes more : List Cause) (k : ℕ) → k < length causes
    → cause_at columns (causes ++ more) k ≡ cause_at columns causes k
cause_stays columns causes more k l = ap (split_cause columns) (get_or_append_left causes more (record { now = 0; why = Spent }) k l)

pub cause_last : (columns : List Route) (causes : List Cause) (cause : Cause)
    → cause_at columns (causes ++ cause ∷ []) (length causes) ≡ split_cause columns cause
cause_last columns causes cause = ap (split_cause columns) (get_or_push causes cause (record { now = 0; why = Spent }) (length causes) refl)

-- the prices of the number that is handed on
pub handed_price : (prices after : List Prices) (own : ℕ) (handed : Option Prices) → after ≡ prices ++ option_items handed → own < length prices
    → price_at after (number_of own (length prices) handed) ≡ prices_or (price_at prices own) handed
handed_price prices after own None is l =
    ap (λ (ps : List Prices). price_at ps own) is ∙ price_stays prices [] own l
handed_price prices after own (Some p) is l =
    ap (λ (ps : List Prices). price_at ps (length prices)) is ∙ price_last prices p

-- its number is known
pub handed_known : (prices after : List Prices) (own : ℕ) (handed : Option Prices) → after ≡ prices ++ option_items handed → own < length prices
    → number_of own (length prices) handed < length after
handed_known prices after own None is l = let e = ap length is in let f = length-append prices [] in omega arith
handed_known prices after own (Some p) is l = let e = ap length is in let f = length-append prices (p ∷ []) in omega arith

-- there is at most one more
pub handed_more : (prices after : List Prices) (handed : Option Prices) → after ≡ prices ++ option_items handed
    → (length prices ≤ length after) × (length after ≤ length prices + 1)
handed_more prices after None is = let e = ap length is in let f = length-append prices [] in (omega arith, omega arith)
handed_more prices after (Some p) is = let e = ap length is in let f = length-append prices (p ∷ []) in (omega arith, omega arith)

-- the shapes stay
pub handed_shapes : (n : Limits) (prices after : List Prices) (own : Prices) (handed : Option Prices) → after ≡ prices ++ option_items handed
    → All (ArePricesOf n) prices → ArePricesOf n (prices_or own handed) → All (ArePricesOf n) after
handed_shapes n prices after own None is all shape = subst (λ (ps : List Prices). All (ArePricesOf n) ps) (sym is)
    (All-append (ArePricesOf n) prices [] all (All-nil (ArePricesOf n)))
handed_shapes n prices after own (Some p) is all shape = subst (λ (ps : List Prices). All (ArePricesOf n) ps) (sym is)
    (All-append (ArePricesOf n) prices (p ∷ []) all (All-cons (ArePricesOf n) p [] shape (All-nil (ArePricesOf n))))

-- ---- ways by keys

pub way_is : (s : Searching) (key n : ℕ) (bound : ℤ) → IsWaiting s.keyed key n bound → way_to s key ≡ way_of s.keyed.nodes n
way_is s key n bound w = ap (λ (o : Option Waiting). way_of s.keyed.nodes (item_or o)) w
