-- a dossier of one plan, whose root is open at prices that are all 0
use Rattle.std.proofs.Common.{◌≡◌, ◌≢◌, ℕ, List, [], length, ap, subst, sym, refl, arith}
use Rattle.std.specs.Prelude.{All, AllPairs}
use Rattle.std.proofs.lemmas.List.Elements.{All-nil}
use Rattle.crew_terms.specs.Branches.{LeafNode}
use Rattle.crew_terms.specs.Instance.{Instance}
use Rattle.crew_terms.specs.Leaf.{zero_prices}
use Rattle.crew_terms.specs.Legal.{IsLegal}
use Rattle.crew_terms.specs.Limits.{Limits, Route, root_limits}
use Rattle.crew_terms.specs.Plan.{Plan, unassigned_count}
use Rattle.crew_terms.specs.Rules.{IsInstance}
use Rattle.branch_tree.specs.Trees.{BranchTree}
use Rattle.branch_tree.specs.declared.tree.LeafState.TheVariants as states
use Rattle.branch_tree.specs.declared.tree.Node.{Node}
use Rattle.cert_write.specs.Dossiers.{IsDossierOf}
use Rattle.cert_write.specs.Given.{AreWritable, Given, IsPriced}
use Rattle.dossier_terms.specs.Causes.{Cause}
use Rattle.dossier_terms.specs.Dossier.{Dossier, IsGood, IsPooled}
use Rattle.written_laws.specs.Proved.{IsProvedGiven, IsProvedTree}
use Rattle.bundle_join.specs.Firsts.{IsOpenRoot, IsPlanned}

module _ (i : Instance) (columns : List Route) (p : Plan) (tree : List Node) (causes : List Cause) (none : columns ≡ []) (root : IsOpenRoot i tree) (no_causes : causes ≡ []) where
  abbrev pub given_plan : Given
  given_plan = record { instance = i; nodes = 0; kept = 0; columns = columns; plan = p; bound = 0; tree = tree; causes = causes }

  abbrev leaf : BranchTree
  leaf = LeafNode (record { state = states.Open; prices = zero_prices (root_limits i) })

  pub writable : AreWritable given_plan
  writable = record { tree = leaf; nodes = root.is; valid = root.priced; causes = ap length no_causes }

  proved : IsInstance i → IsLegal i p → ((n : Limits) (u : ℕ) → IsInstance n.instance → IsPriced n (zero_prices n) → IsProvedTree n 0 u (LeafNode (record { state = states.Open; prices = zero_prices n })))
      → IsProvedGiven given_plan
  proved instance legal law = record {
    instance = instance;
    budget = omega arith;
    kept = omega arith;
    pool_length = (let e = ap length none in omega (arith, e));
    pool = subst (All (IsPooled i)) (sym none) (All-nil (IsPooled i));
    differ = subst (AllPairs (λ (a b : Route). a ≢ b)) (sym none) (λ k m d a b. absurd (omega (arith, b)));
    plan = legal;
    bound = omega arith;
    tree = leaf;
    nodes = root.is;
    proved = law (root_limits i) (unassigned_count p) instance root.priced;
    causes = tt;
    within = omega arith;
    spent = λ _. refl;
  }

  pub planned : IsInstance i → IsLegal i p → ((n : Limits) (u : ℕ) → IsInstance n.instance → IsPriced n (zero_prices n) → IsProvedTree n 0 u (LeafNode (record { state = states.Open; prices = zero_prices n })))
      → ((g : Given) (d : Dossier) → IsDossierOf g d → IsProvedGiven g → IsGood d) → (d : Dossier) → IsDossierOf given_plan d → IsPlanned i p d
  planned instance legal law good d is = record { good = good given_plan d is (proved instance legal law); instance = is.instance; plan = is.plan; bound = is.bound }
