-- what a reader has read, after one more line
use Rattle.std.proofs.Common.{◌≡◌, ◌<◌, ℕ, List, [], ◌∷◌, ◌++◌, length, set, take, ap, sym, ◌∙◌, ◌⊎◌, inl, inr}
use Rattle.std.specs.Prelude.{◌≢◌, ℤ, pos}
use Rattle.std.proofs.lemmas.Bool.{cases_eq}
use Rattle.std.proofs.lemmas.List.{take-set}
use Rattle.crew_terms.specs.Limits.{Limits, has_required, tasks_in, teams_in}
use Rattle.crew_terms.specs.Leaf.{Prices, rho_of}
use Rattle.dossier_terms.specs.Dossier.{Leaf, beside, extra_of, prices_of, worths_of}
use Rattle.dossier_terms.specs.PricesAt.{rho_at}
use Rattle.crew_terms.specs.Minutes.{priced, required_teams}
use Rattle.leaf_check.specs.Keys.{IsRowDue}
use Rattle.leaf_check.specs.Prices.{ArePricesIn, SamePairsBut}
use Rattle.leaf_check.specs.Reader.{priced_leaf}
use Rattle.leaf_check.proofs.Listed.{beside_nothing, row_absent, row_new, row_other}
use Rattle.leaf_check.proofs.Priced.{prices_by_each}

-- after the prices of the tasks
pub first_prices : (n : Limits) (p : Prices) (vs : List ℤ) → ArePricesIn n p → p.pi ≡ vs
    → ((k j : ℕ) → k < teams_in n → j < tasks_in n → rho_of p k j ≡ pos 0) → p ≡ prices_of n (priced_leaf vs [])
first_prices n p vs are tasks pairs = prices_by_each n (priced_leaf vs []) p are tasks (λ k j l m. pairs k j l m ∙ sym (nothing k j))
  where
    nothing : (k j : ℕ) → extra_of n (priced_leaf vs []) k j ≡ pos 0
    nothing k j = ap (λ row. beside (required_teams n j) row k (pos 0)) (beside_nothing (priced n) j []) ∙ beside_nothing (required_teams n j) k (pos 0)

-- after the prices of one more task's pairs
module _ (n : Limits) (old new : Prices) (prices : List ℤ) (rows : List (List ℤ)) (j : ℕ) (js : List ℕ) (row : List ℤ)
    (read : old ≡ prices_of n (priced_leaf prices rows)) (due : IsRowDue (has_required n) (tasks_in n) rows j js)
    (are : ArePricesIn n new) (but : SamePairsBut j old new)
    (given : (k : ℕ) → k < teams_in n → rho_of new k j ≡ beside (required_teams n j) row k (rho_of old k j)) where
  abbrev before : Leaf
  before = priced_leaf prices rows

  abbrev after : Leaf
  after = priced_leaf prices (rows ++ row ∷ [])

  was : (k h : ℕ) → k < teams_in n → h < tasks_in n → rho_of old k h ≡ extra_of n before k h
  was k h l m = ap (λ p. rho_of p k h) read ∙ rho_at n before k h l m

  -- the pairs of the task had no price
  was_none : (k : ℕ) → k < teams_in n → rho_of old k j ≡ pos 0
  was_none k l =
      was k j l due.known
      ∙ ap (λ r. beside (required_teams n j) r k (pos 0)) (row_absent (has_required n) (tasks_in n) rows j js due [])
      ∙ beside_nothing (required_teams n j) k (pos 0)

  here : (k : ℕ) → k < teams_in n → rho_of new k j ≡ extra_of n after k j
  here k l =
      given k l
      ∙ ap (beside (required_teams n j) row k) (was_none k l)
      ∙ ap (λ r. beside (required_teams n j) r k (pos 0)) (sym (row_new (has_required n) (tasks_in n) rows j js due row []))

  there : (k h : ℕ) → k < teams_in n → h < tasks_in n → h ≢ j → rho_of new k h ≡ extra_of n after k h
  there k h l m differ =
      but.others k h differ
      ∙ was k h l m
      ∙ ap (λ r. beside (required_teams n h) r k (pos 0)) (sym (row_other (has_required n) (tasks_in n) rows j js due row [] h differ))

  pub more_prices : new ≡ prices_of n after
  more_prices = prices_by_each n after new are (but.tasks ∙ ap (λ (p : Prices). p.pi) read) (λ k h l m. by k h l m (cases_eq h j))
    where
      by : (k h : ℕ) → k < teams_in n → h < tasks_in n → (h ≡ j) ⊎ (h ≡ j → ⊥) → rho_of new k h ≡ extra_of n after k h
      by k h l m (inl e) = ap (rho_of new k) e ∙ here k l ∙ ap (extra_of n after k) (sym e)
      by k h l m (inr ne) = there k h l m ne

-- the worths so far, after one more is set
pub more_worths : (leaf : Leaf) (worths : List ℤ) (team : ℕ) (worth : ℤ) → length leaf.tables ≡ team → take (length leaf.tables) worths ≡ worths_of leaf
    → take (length leaf.tables) (set worths team worth) ≡ worths_of leaf
more_worths leaf worths team worth count read = ap (λ k. take (length leaf.tables) (set worths k worth)) (sym count) ∙ take-set worths (length leaf.tables) worth ∙ read
