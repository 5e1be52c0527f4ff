use Rattle.std.proofs.Common.{◌≡◌, ◌≤◌, ◌∙◌, inl, inr, [], ℕ, ℤ, List, Option, None, Some, ap, sym, subst, arith, rules}
use Rattle.std.specs.Prelude.{IfNone, IfSome}
use Rattle.std.proofs.lemmas.Grind.{common_steps}
use Rattle.crew_terms.specs.Instance.{Instance}
use Rattle.crew_terms.specs.declared.Side.{Side}
use Rattle.search_tree.specs.Aged.{leaves_of, leaves_without}
use Rattle.search_tree.specs.Keyed.{IsKey, IsKeyed, IsWaiting, Keyed}
use Rattle.node_queue.specs.Waits.{IsLeast}
use Rattle.search_core.specs.Kept.{searching}
use Rattle.search_core.specs.Searching.{IsDueKey, Searching, cause_at, price_at, state_of}
use Rattle.search_core.specs.Steps.{IsDone}
use Rattle.search_terms.specs.BestFirst.{IsDue}
use Rattle.search_terms.specs.Search.{IsBound, SearchState}
use Rattle.search_tree.specs.Numbered.{way_of}
use Rattle.search_core.proofs.StepLemmas.{way_is}
use Rattle.search_core.proofs.searches.Search.due.Goals as goal

none_follows : {X : Type 0} {A B : Type 0} (o : Option X) → (A → B) → IfNone o A → IfNone o B
none_follows None f a = f a
none_follows (Some x) f a = tt

pub returns-then-self-eq0-clause-done : goal.returns-then-self-eq0-clause-done
returns-then-self-eq0-clause-done c = λ columns.
    let a = c.self.inside in
    let spent : a.left ≡ 0 = first_of (search rules, grind (arith, common_steps)) in
    subst (λ (s : Searching). IsDone s.instance (state_of columns s)) c.self.view_is (inr spent)

pub returns-then-bound-best-clause-done : goal.returns-then-bound-best-clause-done
returns-then-bound-best-clause-done c = λ columns.
    let same : c.bound.result ≡ c.best.result = first_of (search rules, grind (arith, common_steps)) in
    inl (subst (λ (b : ℕ). IsBound c.args.self.now.instance (state_of columns c.args.self.now) b) (same ∙ c.best.ensures columns) (c.bound.ensures columns))

pub returns-clause-done : goal.returns-clause-done
returns-clause-done c = λ columns.
    let a = c.self.inside in
    let i = a.limits.limits.instance in
    subst (λ (s : Searching). IfNone c.least.result (IsDone s.instance (state_of columns s))) c.self.view_is
    (none_follows c.least.result (λ (none : a.keyed.waits ≡ []). inl (c.least_bounds.ensures.none i a.left (price_at a.prices.items)
    (cause_at columns a.causes.items) a.plan a.keyed c.len.ensures.keyed none)) c.least.ensures.none)

-- a state has one bound
one_bound : (i : Instance) (s : SearchState) (a b : ℕ) → IsBound i s a → IsBound i s b → a ≡ b
one_bound i s a b x y = let p = x.greatest b y.proved in let q = y.greatest a x.proved in omega (arith, p, q)

some_follows : {X A : Type 0} (o : Option X) → A → IfSome o (λ _. A)
some_follows None a = tt
some_follows (Some x) a = a

pub returns-clause-better : goal.returns-clause-better
returns-clause-better c = λ columns.
    let a = c.self.inside in
    let s = c.args.self.now in
    let t = state_of columns s in
    let left : 1 ≤ a.left = first_of (search rules, grind (arith, common_steps)) in
    let same = ap (λ (x : Searching). x.left) c.self.view_is in
    let apart : c.bound.result ≡ c.best.result → ⊥ = λ e. first_of (search rules, grind (arith, common_steps)) in
    some_follows c.least.result (λ (done : IsDone s.instance t). elim done [
      | inl is ↦ apart (one_bound s.instance t c.bound.result c.best.result (c.bound.ensures columns)
          (subst (λ b. IsBound s.instance t b) (sym (c.best.ensures columns)) is))
      | inr spent ↦ absurd (omega (arith, left, same, spent))
    ])

-- what the law of keys says of the least one
abbrev KeepsDue : Type 0
KeepsDue = (k : Keyed) (key n : ℕ) (bound : ℤ) → IsKeyed k → IsLeast k.waits key → IsWaiting k key n bound
    → IsDue (leaves_of k) (record { way = way_of k.nodes n; bound = bound }) (leaves_without k key)

due_key : KeepsDue → (s : Searching) (o : Option ℕ) → IsKeyed s.keyed → IfSome o (IsLeast s.keyed.waits) → IfSome o (IsKey s.keyed)
    → IfSome o (IsDueKey s)
due_key law s None keyed least waits = tt
due_key law s (Some key) keyed least waits = (
  waits.1,
  subst (λ (way : List Side). IsDue (leaves_of s.keyed) (record { way = way; bound = waits.1 }) (leaves_without s.keyed key))
      (sym (way_is s key waits.0 waits.1 waits.2)) (law s.keyed key waits.0 waits.1 keyed least waits.2),
)

pub returns-clause-oldest : goal.returns-clause-oldest
returns-clause-oldest c =
    subst (λ (s : Searching). IfSome c.least.result (IsDueKey s)) c.self.view_is
    (due_key c.leaves_keep_order.ensures.due (searching c.self.inside) c.least.result c.len.ensures.keyed c.least.ensures.oldest c.least.ensures.waits)
