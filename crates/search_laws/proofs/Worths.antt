-- what prices prove in a node, by the routes of its teams
use Rattle.std.proofs.Common.{◌≡◌, ◌≤◌, ◌<◌, ℕ, zero, suc, List, [], ◌∷◌, length, refl, sym, arith, ◌∙◌}
use Rattle.std.specs.Prelude.{ℤ, ◌+ℤ◌, ◌-ℤ◌, ◌≤ℤ◌}
use Rattle.std.proofs.lemmas.Int.{ints}
use Rattle.crew_terms.specs.Instance.{Instance, task_of, no_task}
use Rattle.crew_terms.specs.Rules.{IsInstance}
use Rattle.crew_terms.specs.Limits.{Limits, IsRoute, tasks_in, teams_in}
use Rattle.crew_terms.specs.Leaf.{Prices, AreInRange, IsOnRequired, IsValidLeaf, HoldsLocally, Proves, rewards, rho_of, term, worth_of, bound_of, earned}
use Rattle.crew_terms.specs.Total.{total}
use Rattle.crew_terms.specs.declared.Visit.{Visit}
use Rattle.search_terms.specs.Proven.{PricesProve}
use Rattle.crew_terms.specs.Totals.{total-le}
use Rattle.crew_terms.specs.Bounds.{proves_more}
use Rattle.search_laws.proofs.Potentials.{potential, greatest_worth, holds, reached}

-- the values below n, in order
abbrev pub listing : {A : Type 0} → ℕ → (ℕ → A) → List A
listing zero f = []
listing (suc n) f = f 0 ∷ listing n (λ i. f (suc i))

worth_listing : (m : ℕ) (f : ℕ → ℤ) (k : ℕ) → k < m → worth_of (listing m f) k ≡ f k
worth_listing zero f k h = absurd (omega arith)
worth_listing (suc m) f zero h = refl
worth_listing (suc m) f (suc k) h = worth_listing m (λ i. f (suc i)) k (omega arith)

pub positive : (i : Instance) → IsInstance i → (j : ℕ) → j < length i.tasks → 1 ≤ (task_of i j).minutes
positive i h j l = (h.parts.tasks j no_task l).window.some_minutes

-- every route of team k earns at most as much
abbrev pub EarnsAtMost : Limits → ℕ → Prices → ℤ → Type 0
EarnsAtMost n k p x = (r : List Visit) → IsRoute n k r → rewards (earned p k) r ≤ℤ x

module _ (n : Limits) (p : Prices) (is : IsInstance n.instance) (range : AreInRange p) (priced : IsOnRequired n p) where
  abbrev worths : List ℤ
  worths = listing (teams_in n) (λ k. greatest_worth n (positive n.instance is) k (earned p k))

  abbrev phi : ℕ → ℕ → ℕ → ℤ
  phi k = potential n (positive n.instance is) k (earned p k)

  abbrev pub Has : Type 0
  Has = (ws : List ℤ) × (f : ℕ → ℕ → ℕ → ℤ) × IsValidLeaf n p ws f × ((k : ℕ) → k < teams_in n → (r : List Visit) × IsRoute n k r × (rewards (earned p k) r ≡ worth_of ws k))

  pub have_potentials : Has
  have_potentials = (
    worths,
    phi,
    record { range = range; priced = priced; valid = λ k b. rw (worth_listing (teams_in n) (λ h. greatest_worth n (positive n.instance is) h (earned p h)) k b) (holds n (positive n.instance is) k (earned p k)) },
    λ k b. let r = reached n (positive n.instance is) k (earned p k) in (r.0, r.1, r.2 ∙ sym (worth_listing (teams_in n) (λ h. greatest_worth n (positive n.instance is) h (earned p h)) k b)),
  )

  -- where each team's routes earn at most x, the prices prove what a bound with x for the worths proves
  pub routes_prove : (x : ℕ → ℤ) (l : ℕ) → ((k : ℕ) → k < teams_in n → EarnsAtMost n k p (x k))
      → Proves ((total (tasks_in n) (term n p) +ℤ total (teams_in n) (λ k. total (tasks_in n) (λ j. rho_of p k j))) -ℤ total (teams_in n) x) l → PricesProve n p l
  routes_prove x l most proves = by have_potentials
    where
      by : Has → PricesProve n p l
      by (ws, f, valid, reach) = record {
        worths = ws;
        phi = f;
        proved = (
          valid,
          proves_more _ (bound_of n p ws) l
              (let a = total-le (teams_in n) (worth_of ws) x (λ k b. let r = reach k b in let c = most k b r.0 r.1 in let d = r.2 in omega (arith, ints)) in omega (arith, ints)) proves,
        );
      }

-- worths that routes attain prove all that the prices prove
pub attained_prove : (n : Limits) (p : Prices) (ws : List ℤ) (l : ℕ) → ((k : ℕ) → k < teams_in n → (r : List Visit) × IsRoute n k r × (rewards (earned p k) r ≡ worth_of ws k))
    → ((vs : List ℤ) (f : ℕ → ℕ → ℤ) (k : ℕ) → HoldsLocally n k (earned p k) f (worth_of vs k) → EarnsAtMost n k p (worth_of vs k))
    → PricesProve n p l → Proves (bound_of n p ws) l
attained_prove n p ws l reach most h =
    proves_more (bound_of n p h.worths) (bound_of n p ws) l
    (let a = total-le (teams_in n) (worth_of ws) (worth_of h.worths) (λ k b. let r = reach k b in let c = most h.worths (h.phi k) k (h.proved.0.valid k b) r.0 r.1 in let d = r.2 in omega (arith, ints)) in omega (arith, ints)) h.proved.1
