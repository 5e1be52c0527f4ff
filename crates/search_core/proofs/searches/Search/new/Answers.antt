use Rattle.std.proofs.Common.{◌≡◌, ◌∙◌, ◌∷◌, ◌++◌, [], ℤ, List, ap, refl, sym, subst, arith, rules}
use Rattle.std.specs.Int.{w128}
use Rattle.std.specs.Prelude.{FitsSigned}
use Rattle.std.proofs.lemmas.Int.{to_z-of_z}
use Rattle.crew_terms.specs.Instance.{Instance}
use Rattle.crew_terms.specs.Leaf.{Prices, zero_prices}
use Rattle.crew_terms.specs.Legal.{IsLegal, IsPacked}
use Rattle.crew_terms.specs.Limits.{Limits, root_limits}
use Rattle.crew_terms.specs.Plan.{Plan}
use Rattle.search_tree.specs.States.{DecidesProved}
use Rattle.search_tree.specs.Aged.{leaves_of}
use Rattle.search_tree.specs.Keyed.{Keyed, keyed_root}
use Rattle.label_pricing.specs.Pricing.{HasRoom}
use Rattle.node_limits.specs.Trail.{Trail}
use Rattle.potentials.specs.Prices.{ArePricesOf}
use Rattle.search_core.specs.Kept.{IsKeptSearch}
use Rattle.search_core.specs.Searching.{Searching, state_of}
use Rattle.search_terms.specs.BestFirst.{IsBoundIn}
use Rattle.search_terms.specs.Search.{IsKeepable, IsStart}
use Rattle.search_core.proofs.Keeping.{same_search}
use Rattle.search_core.proofs.Starting.{first_kept, first_search, root_leaves, starts}
use Rattle.search_core.proofs.searches.Search.new.Goals as goal

keepable : (i : Instance) (p : Plan) → IsLegal i p → IsPacked i p → IsKeepable i p
keepable i p legal packed = record { legal = legal; packed = packed }

pub invariant_of-result : goal.invariant_of-result
invariant_of-result c =
    let I = c.args.instance.now in
    let nodes = c.args.nodes in
    let plan = c.in_ok-plan.plan in
    let lim : c.in_ok-limits.limits.limits ≡ root_limits I = ap (λ (t : Trail). t.limits) c.in_ok-limits.ensures in
    let inst : c.in_ok-limits.limits.limits.instance ≡ I = ap (λ (n : Limits). n.instance) lim in
    let zeros : Prices = zero_prices (root_limits I) in
    let zero : c.in_ok-zero.zero ≡ zeros = c.in_ok-zero.ensures.zeros ∙ ap (λ (n : Limits). zero_prices n) lim in
    let b = c.proved-bound.result.bound in
    let range : FitsSigned w128 b = search rules in
    let key = c.in_ok-keyed.ensures.0 in
    let keyed : c.in_ok-keyed.keyed ≡ keyed_root key 0 b = c.in_ok-keyed.ensures.1 ∙ ap (λ (z : ℤ). keyed_root key 0 z) (to_z-of_z w128 b range) in
    let items : c.push.new.self.items ≡ zeros ∷ [] =
    c.in_ok-push.ensures.items ∙ ap (λ (ps : List Prices). ps ++ c.in_ok-of.field-0 ∷ []) c.in_ok-prices.ensures.items
    ∙ ap (λ (p : Prices). p ∷ []) (c.in_ok-of.ensures ∙ zero) in
    let same = same_search c.in_ok-limits.limits.limits.instance I nodes plan plan nodes nodes c.in_ok-keyed.keyed (keyed_root key 0 b) c.push.new.self.items (zeros ∷ [])
    c.new.result.items [] inst refl refl keyed items c.new.ensures.items in
    let decides : DecidesProved (root_limits I) zeros b =
    subst (λ (n : Limits). DecidesProved n zeros b) lim
    (subst (λ (p : Prices). DecidesProved c.in_ok-limits.limits.limits p b) zero c.proved-bound.ensures.decides) in
    let shape : ArePricesOf (root_limits I) zeros =
    subst (λ (n : Limits). ArePricesOf n zeros) lim
    (subst (λ (p : Prices). ArePricesOf c.in_ok-limits.limits.limits p) zero c.in_ok-zero.ensures.prices) in
    let kept : IsKeptSearch (first_search I nodes plan key b zeros) =
    first_kept I nodes key plan b (keepable I plan c.in_ok-plan.ensures.legal c.in_ok-plan.ensures.packed) c.requires.few decides shape (c.numbers_stay.ensures.root 1 0 0 (omega arith)) in
    record {
      search = subst IsKeptSearch (sym same) kept;
      root = lim ∙ ap (λ (i : Instance). root_limits i) (sym inst);
      unchanged = ap (λ (t : Trail). t.past) c.in_ok-limits.ensures;
      pricer = subst (λ (i : Instance). HasRoom i c.proved-bound.new.self) (sym inst) (c.in_ok-pricer.ensures ∙ sym c.proved-bound.ensures.room);
    }

pub returns-clause-start : goal.returns-clause-start
returns-clause-start c = λ columns.
    let I = c.args.instance.now in
    let nodes = c.args.nodes in
    let plan = c.in_ok-plan.plan in
    let lim : c.in_ok-limits.limits.limits ≡ root_limits I = ap (λ (t : Trail). t.limits) c.in_ok-limits.ensures in
    let inst : c.in_ok-limits.limits.limits.instance ≡ I = ap (λ (n : Limits). n.instance) lim in
    let zeros : Prices = zero_prices (root_limits I) in
    let zero : c.in_ok-zero.zero ≡ zeros = c.in_ok-zero.ensures.zeros ∙ ap (λ (n : Limits). zero_prices n) lim in
    let b = c.proved-bound.result.bound in
    let range : FitsSigned w128 b = search rules in
    let key = c.in_ok-keyed.ensures.0 in
    let keyed : c.in_ok-keyed.keyed ≡ keyed_root key 0 b = c.in_ok-keyed.ensures.1 ∙ ap (λ (z : ℤ). keyed_root key 0 z) (to_z-of_z w128 b range) in
    let items : c.push.new.self.items ≡ zeros ∷ [] =
    c.in_ok-push.ensures.items ∙ ap (λ (ps : List Prices). ps ++ c.in_ok-of.field-0 ∷ []) c.in_ok-prices.ensures.items
    ∙ ap (λ (p : Prices). p ∷ []) (c.in_ok-of.ensures ∙ zero) in
    let same = same_search c.in_ok-limits.limits.limits.instance I nodes plan plan nodes nodes c.in_ok-keyed.keyed (keyed_root key 0 b) c.push.new.self.items (zeros ∷ [])
    c.new.result.items [] inst refl refl keyed items c.new.ensures.items in
    subst (λ (s : Searching). IsStart I nodes (state_of columns s)) (sym same) (starts I nodes key plan b (keepable I plan c.in_ok-plan.ensures.legal c.in_ok-plan.ensures.packed) columns)

pub returns-clause-root : goal.returns-clause-root
returns-clause-root c =
    let I = c.args.instance.now in
    let lim : c.in_ok-limits.limits.limits ≡ root_limits I = ap (λ (t : Trail). t.limits) c.in_ok-limits.ensures in
    let zeros : Prices = zero_prices (root_limits I) in
    let zero : c.in_ok-zero.zero ≡ zeros = c.in_ok-zero.ensures.zeros ∙ ap (λ (n : Limits). zero_prices n) lim in
    let b = c.proved-bound.result.bound in
    let range : FitsSigned w128 b = search rules in
    let key = c.in_ok-keyed.ensures.0 in
    let keyed : c.in_ok-keyed.keyed ≡ keyed_root key 0 b = c.in_ok-keyed.ensures.1 ∙ ap (λ (z : ℤ). keyed_root key 0 z) (to_z-of_z w128 b range) in
    let at : IsBoundIn c.in_ok-limits.limits.limits c.in_ok-zero.zero b = record {
      worths = c.proved-bound.new.self.worths;
      worth = record { count = c.proved-bound.ensures.worths.count; each = c.proved-bound.ensures.worths.each };
      is = c.proved-bound.ensures.bound;
    } in (
      b,
      subst (λ (n : Limits). IsBoundIn n zeros b) lim (subst (λ (p : Prices). IsBoundIn c.in_ok-limits.limits.limits p b) zero at),
      ap (λ (k : Keyed). leaves_of k) keyed ∙ root_leaves key b,
    )
