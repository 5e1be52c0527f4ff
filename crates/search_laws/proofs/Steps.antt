-- what a step keeps
use Rattle.std.proofs.Common.{◌≡◌, ◌≤◌, ◌+◌, ℕ, List, ap, sym, subst, arith}
use Rattle.crew_terms.specs.Instance.{Instance}
use Rattle.crew_terms.specs.Plan.{Plan, unassigned_count}
use Rattle.crew_terms.specs.Limits.{Limits, Route, root_limits, tasks_in}
use Rattle.crew_terms.specs.Leaf.{Prices}
use Rattle.crew_terms.specs.Branches.{LeafNode, SplitNode, splits}
use Rattle.crew_terms.specs.Tree.{child}
use Rattle.crew_terms.specs.declared.Side.{Side}
use Rattle.crew_terms.specs.declared.Side.TheVariants.{First, Second}
use Rattle.search_terms.specs.declared.TheConstants.{PIVOTS}
use Rattle.search_terms.specs.Proven.{PricesProve}
use Rattle.search_terms.specs.SearchTree.{SearchTree, OpenLeaf, ClosedLeaf, EachOpen, closed_leaves}
use Rattle.search_terms.specs.Ways.{limits_at, prices_at}
use Rattle.search_terms.specs.Search.{SearchState, best, IsStart, IsSearchStep, IsRun, Start, Then, Improves, Stays, Betters, Becomes, Closes, Splits, IsHandedOn, Found, Own, IsKeepable, IsProved, IsSearchRun, Starts, Goes}
use Rattle.search_laws.proofs.Inside.{HasShape, child_proves, less_proved}
use Rattle.search_laws.proofs.Ways.{AreValid, valid_replaced, each_replaced, count_replaced}
use Rattle.search_laws.proofs.Sound.{IfClosed, EachClosed, SoundTree, sound_tree}

-- ---- what an open leaf becomes

module _ (now pivots : ℕ) (columns : List Route) where
  one_more : (n : Limits) (p : Prices) (new : SearchTree) → Becomes now pivots columns n p new → splits new + closed_leaves new ≡ 1
  one_more n p new (Closes prices proved is) = let a = ap splits is in let b = ap closed_leaves is in omega arith
  one_more n p new (Splits split handed valid is) = let a = ap splits is in let b = ap closed_leaves is in omega arith

  new_closed : (n : Limits) (p : Prices) (new : SearchTree) → Becomes now pivots columns n p new → EachClosed (λ m q. PricesProve m q now) n new
  new_closed n p new (Closes prices proved is) = subst (λ t. EachClosed (λ m q. PricesProve m q now) n t) (sym is) proved
  new_closed n p new (Splits split handed valid is) = subst (λ t. EachClosed (λ m q. PricesProve m q now) n t) (sym is) (tt, tt)

  new_valid : (n : Limits) (p : Prices) (new : SearchTree) → Becomes now pivots columns n p new → AreValid n new
  new_valid n p new (Closes prices proved is) = subst (λ t. AreValid n t) (sym is) tt
  new_valid n p new (Splits split handed valid is) = subst (λ t. AreValid n t) (sym is) (valid.valid, tt, tt)

  pub handed_proves : (n : Limits) (own found handed : Prices) (l : ℕ) → l ≤ tasks_in n → IsHandedOn n own found handed → PricesProve n own l → PricesProve n handed l
  handed_proves n own found handed l le (Found enough is) h = subst (λ q. PricesProve n q l) (sym is) (enough l le h)
  handed_proves n own found handed l le (Own m known bigger less is) h = subst (λ q. PricesProve n q l) (sym is) h

  pub new_open : (l : ℕ) (n : Limits) (p : Prices) (new : SearchTree) → HasShape n → l ≤ tasks_in n → PricesProve n p l → Becomes now pivots columns n p new → EachOpen (λ m q. PricesProve m q l) n new
  new_open l n p new shape few h (Closes prices proved is) = subst (λ t. EachOpen (λ m q. PricesProve m q l) n t) (sym is) tt
  new_open l n p new shape few h (Splits split handed s is) =
      let on = handed_proves n p s.found handed l few s.on h in
      subst (λ t. EachOpen (λ m q. PricesProve m q l) n t) (sym is)
      (child_proves n split.choice First handed l shape s.valid.can on, child_proves n split.choice Second handed l shape s.valid.can on)

-- ---- what the proof keeps of a state

closed_weaker : (P Q : Limits → Prices → Type 0) → ((n : Limits) (p : Prices) → P n p → Q n p) → (n : Limits) (s : SearchTree) → EachClosed P n s → EachClosed Q n s
closed_weaker P Q f n (LeafNode (OpenLeaf p)) each = tt
closed_weaker P Q f n (LeafNode (ClosedLeaf p)) each = f n p each
closed_weaker P Q f n (SplitNode split first second) each = (closed_weaker P Q f (child n split.choice First) first each.0, closed_weaker P Q f (child n split.choice Second) second each.1)

pub record Stands (i : Instance) (budget : ℕ) (s : SearchState) : Type 0 where
  pub plan : IsKeepable i s.plan
  pub closed : EachClosed (λ n p. PricesProve n p (best s)) (root_limits i) s.tree
  pub valid : AreValid (root_limits i) s.tree
  pub count : splits s.tree + closed_leaves s.tree + s.left ≡ budget

stands_start : (i : Instance) (budget : ℕ) (s : SearchState) → IsStart i budget s → Stands i budget s
stands_start i budget s h = record {
  plan = h.plan;
  closed = subst (λ t. EachClosed (λ n p. PricesProve n p (best s)) (root_limits i) t) (sym h.tree) tt;
  valid = subst (λ t. AreValid (root_limits i) t) (sym h.tree) tt;
  count = let e = h.left in let a = ap splits h.tree in let b = ap closed_leaves h.tree in omega arith;
}

pub no_worse : (i : Instance) (p q : Plan) → Improves i p q → unassigned_count q ≤ unassigned_count p
no_worse i p q (Stays same) = let e = ap unassigned_count same in omega arith
no_worse i p q (Betters plan fewer) = omega arith

kept_plan : (i : Instance) (p q : Plan) → IsKeepable i p → Improves i p q → IsKeepable i q
kept_plan i p q h (Stays same) = subst (IsKeepable i) (sym same) h
kept_plan i p q h (Betters plan fewer) = plan

stands_step : (i : Instance) (budget : ℕ) (way : List Side) (pivots : ℕ) (columns more : List Route) (s t : SearchState) → Stands i budget s → IsSearchStep i way pivots columns more s t → Stands i budget t
stands_step i budget way pivots columns more s t h step =
    let root = root_limits i in
    let here = limits_at root s.tree way in
    let own = prices_at s.tree way in
    record {
      plan = kept_plan i s.plan t.plan h.plan step.plan;
      closed = subst (λ u. EachClosed (λ n p. PricesProve n p (best t)) root u) (sym step.tree)
          (each_replaced (IfClosed (λ n p. PricesProve n p (best t))) root s.tree way step.new step.leads
          (closed_weaker (λ n p. PricesProve n p (best s)) (λ n p. PricesProve n p (best t)) (λ n p a. less_proved n p (best s) (best t) (no_worse i s.plan t.plan step.plan) a) root s.tree h.closed)
          (new_closed (best t) pivots more here own step.new step.becomes));
      valid = subst (λ u. AreValid root u) (sym step.tree) (valid_replaced root s.tree way step.new step.leads h.valid (new_valid (best t) pivots more here own step.new step.becomes));
      count =
          let a = count_replaced s.tree way step.new step.leads (one_more (best t) pivots more here own step.new step.becomes) in
          let b = step.left in
          let c = h.count in
          let d = ap splits step.tree in
          let e = ap closed_leaves step.tree in
          omega arith;
    }

pub run_stands : (i : Instance) (budget : ℕ) (s : SearchState) → IsRun i budget s → Stands i budget s
run_stands i budget s (Start s' start) = stands_start i budget s' start
run_stands i budget s (Then r s' way pivots columns more run step) = stands_step i budget way pivots columns more r s' (run_stands i budget r run) step

pub search_run : (i : Instance) (budget : ℕ) (kept pool : List Route) (s : SearchState) → IsSearchRun i budget kept pool s → IsRun i budget s
search_run i budget kept pool s (Starts s' start) = Start s' start
search_run i budget kept pool s (Goes columns pool' r s' way run step) = Then r s' way PIVOTS columns pool' (search_run i budget kept columns r run) step

-- the tree of a state is sound with what every open leaf proves, and with what the plan leaves unassigned
pub state_sound : (i : Instance) (budget : ℕ) (s : SearchState) (l : ℕ) → Stands i budget s → IsProved i s l → SoundTree s.tree (root_limits i) l (best s)
state_sound i budget s l h proved = sound_tree s.tree (root_limits i) l (best s) proved.plan proved.leaves h.closed h.valid
