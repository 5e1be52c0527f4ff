-- a child of a node, and back
use Rattle.std.proofs.Common.{◌≡◌, ◌≤◌, ◌+◌, ◌-◌, ◌∙◌, ◌∷◌, ℕ, ℤ, List, length, ap, sym, subst, arith}
use Rattle.crew_terms.specs.Instance.{Instance}
use Rattle.crew_terms.specs.Leaf.{IsOnRequired, Prices, Proves}
use Rattle.crew_terms.specs.Limits.{Limits, tasks_in}
use Rattle.crew_terms.specs.Tree.{child}
use Rattle.crew_terms.specs.declared.Choice.{Choice}
use Rattle.crew_terms.specs.declared.Side.{Side}
use Rattle.crew_terms.specs.Nodes.{child_instance}
use Rattle.search_tree.specs.States.{DecidesProved}
use Rattle.node_limits.specs.Trail.{Trail, changed}
use Rattle.potentials.specs.Prices.{ArePricesOf}
use Rattle.search_terms.specs.Proven.{IsProvedCount, PricesProve, ProveAsMuch}

-- prices of a node are prices of its children
pub child_prices : (n m : Limits) (choice : Choice) (side : Side) (p : Prices) → m ≡ child n choice side → ArePricesOf n p → ArePricesOf m p
child_prices n m choice side p is h =
    let same : m.instance ≡ n.instance = ap (λ (x : Limits). x.instance) is ∙ child_instance n choice side in
    record {
      tasks = h.tasks ∙ ap (λ (i : Instance). length i.tasks) (sym same);
      teams = h.teams ∙ ap (λ (i : Instance). length i.teams) (sym same);
    }

-- prices that prove anything are on required pairs alone
pub proved_required : (n m : Limits) (p : Prices) (l : ℕ) → m ≡ n → PricesProve n p l → IsOnRequired m p
proved_required n m p l is proved = subst (λ (x : Limits). IsOnRequired x p) (sym is) proved.proved.0.priced

abbrev trail_of : Limits → List Limits → ℕ → Trail
trail_of limits past spare = record { limits = limits; past = past; spare = spare }

-- a change that is taken back
pub taken_back : (old turned new : Trail) (n : Limits) → turned ≡ changed old n → 1 ≤ old.spare → turned.past ≡ new.limits ∷ new.past
    → new.spare ≡ turned.spare + 1 → new ≡ old
taken_back old turned new n is some past spare =
    let p : old.limits ∷ old.past ≡ new.limits ∷ new.past = sym (ap (λ (t : Trail). t.past) is) ∙ past in
    let a : new.limits ≡ old.limits = sym (cc p) in
    let b : new.past ≡ old.past = sym (cc p) in
    let s : turned.spare ≡ old.spare - 1 = ap (λ (t : Trail). t.spare) is in
    let c : new.spare ≡ old.spare = omega arith in
    ap (λ (x : Limits). trail_of x new.past new.spare) a ∙ ap (λ (x : List Limits). trail_of old.limits x new.spare) b
    ∙ ap (λ x. trail_of old.limits old.past x) c

-- prices whose bound is known prove 0
pub decided_zero : (n : Limits) (p : Prices) (b : ℤ) → DecidesProved n p b → PricesProve n p 0
decided_zero n p b decides = (decides 0 (omega arith)).1 tt

-- what is found proves as much as the own, where its count is no less
pub as_much : (n : Limits) (own found : Prices) (b : ℤ) (f o : ℕ) → DecidesProved n own b → IsProvedCount n found f
    → ((l : ℕ) → l ≤ tasks_in n → Proves b l → l ≤ o) → o ≤ f
    → ((m l : ℕ) → m ≤ l → PricesProve n found l → PricesProve n found m) → ProveAsMuch n found own
as_much n own found b f o decides count greatest le less l known proved =
    let few = greatest l known ((decides l known).0 proved) in
    less l f (omega arith) count.proved
