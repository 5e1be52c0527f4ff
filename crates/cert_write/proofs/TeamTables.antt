-- the worth and the potentials of a team, and their lines
use Rattle.std.proofs.Common.{◌≡◌, ◌<◌, ◌≤◌, ◌+◌, ◌++◌, ◌∷◌, [], ℕ, zero, suc, List, length, map, get_or, ap, sym, refl, ◌∙◌, subst, arith}
use Rattle.std.specs.Prelude.{ℤ, pos}
use Rattle.std.specs.List.{flat_map, range_with_len, enumerate_from}
use Rattle.std.proofs.lemmas.List.Concat.{flat_map-append}
use Rattle.std.proofs.lemmas.List.FromFn.{get_or-enumerate_from, length-enumerate_from}
use Rattle.crew_terms.specs.Limits.{Limits, IsPermittedVisit, teams_in}
use Rattle.crew_terms.specs.Leaf.{Prices, IsWorth, earned}
use Rattle.crew_terms.specs.Minutes.{first_minute, open_tasks}
use Rattle.crew_terms.specs.Words.{line_text}
use Rattle.dossier_terms.specs.Dossier.{Potentials, no_potentials}
use Rattle.dossier_terms.specs.Lines.{table_lines}
use Rattle.dossier_terms.specs.declared.DossierForm.TheVariants.{Two}
use Rattle.label_pricing.specs.Best.{IsBest}
use Rattle.potentials.specs.Table.{PotentialRow, phi}
use Rattle.cert_write.specs.Dossiers.{AreBestRows, ArePricedTables, IsBestRow, IsPricedTable}
use Rattle.dossier_out.specs.Steps.{row_in, row_of, table_in}
use Rattle.dossier_out.specs.Tables.{team_lines}
use Rattle.dossier_out.specs.Texts.{text}

-- ---- what pricing gives is what is written

row_is : (f : ℕ → ℤ) (first : ℕ) (row : List ℤ) → ((m : ℕ) → m < length row → get_or row m (pos 0) ≡ f (first + m)) → row ≡ map f (range_with_len first (length row))
row_is f first [] each = refl
row_is f first (v ∷ vs) each =
    ap (λ x. x ∷ vs) (each 0 (omega arith) ∙ ap f (let e : first + 0 ≡ first = omega arith in e))
    ∙ ap (λ r. f first ∷ r) (row_is f (first + 1) vs (λ m b. each (suc m) (omega arith) ∙ ap f (let e : first + suc m ≡ (first + 1) + m = omega arith in e)))

module _ (n : Limits) (k : ℕ) (p : Prices) (table : List PotentialRow)
    (one : (j t : ℕ) (v w : ℤ) → IsBest n k (earned p k) j t v → IsBest n k (earned p k) j t w → v ≡ w)
    (best : (j t : ℕ) → IsPermittedVisit n k j t → IsBest n k (earned p k) j t (phi table j t)) where
  best_row : (j : ℕ) (row : List ℤ) → IsBestRow n k p j row → row ≡ row_in n k table j
  best_row j row is =
      row_is (phi table j) (first_minute n k j) row
      (λ m b. let v = is.each m b in one j (first_minute n k j + m) _ _ v (best j (first_minute n k j + m) v.attained.1.0))
      ∙ ap (row_of table j (first_minute n k j)) is.count

  best_rows : (js : List ℕ) (rows : List (List ℤ)) → AreBestRows n k p js rows → rows ≡ map (row_in n k table) js
  best_rows [] [] are = refl
  best_rows [] (row ∷ rows) are = absurd are
  best_rows (j ∷ js) [] are = absurd are
  best_rows (j ∷ js) (row ∷ rows) are =
      ap (λ r. r ∷ rows) (best_row j row are.0) ∙ ap (λ rs. row_in n k table j ∷ rs) (best_rows js rows are.1)

  pub table_is : (worth : ℤ) → IsWorth n k (earned p k) worth → ((v w : ℤ) → IsWorth n k (earned p k) v → IsWorth n k (earned p k) w → v ≡ w) → (t : Potentials) → IsPricedTable n k p t → table_in n k worth table ≡ t
  table_is worth is one_worth t priced =
      ap (λ w. record { worth = w; phi = map (row_in n k table) (open_tasks n k) }) (one_worth _ _ is priced.worth)
      ∙ ap (λ rows. record { worth = t.worth; phi = rows }) (sym (best_rows (open_tasks n k) t.phi priced.rows))

-- ---- the lines of all teams

-- the lines of one of the numbered teams
abbrev pub team_text : Limits → ℕ × Potentials → List ℕ
team_text n q = text (team_lines n q.0 q.1)

pub tables_texts : (n : Limits) (a : ℕ) (ts : List Potentials) → flat_map (team_text n) (enumerate_from a ts) ≡ text (table_lines Two n a ts)
tables_texts n a [] = refl
tables_texts n a (t ∷ ts) =
    ap (λ r. team_text n (a, t) ++ r) (tables_texts n (a + 1) ts ∙ ap (λ m. text (table_lines Two n m ts)) (let e : a + 1 ≡ suc a = omega arith in e))
    ∙ sym (flat_map-append line_text (team_lines n a t) (table_lines Two n (suc a) ts))

pub tables_count : (n : Limits) (p : Prices) (a : ℕ) (ts : List Potentials) → ArePricedTables n p a ts → a + length ts ≡ teams_in n
tables_count n p a [] are = (let e : a + 0 ≡ a = omega arith in e) ∙ are
tables_count n p a (t ∷ ts) are = (let e : a + suc (length ts) ≡ suc a + length ts = omega arith in e) ∙ tables_count n p (suc a) ts are.1

pub table_at : (n : Limits) (p : Prices) (a : ℕ) (ts : List Potentials) (i : ℕ) → ArePricedTables n p a ts → i < length ts → IsPricedTable n (a + i) p (get_or ts i no_potentials)
table_at n p a [] i are below = absurd (omega arith)
table_at n p a (t ∷ ts) zero are below = subst (λ k. IsPricedTable n k p t) (let e : a ≡ a + 0 = omega arith in e) are.0
table_at n p a (t ∷ ts) (suc i) are below =
    subst (λ k. IsPricedTable n k p (get_or ts i no_potentials)) (let e : suc a + i ≡ a + suc i = omega arith in e) (table_at n p (suc a) ts i are.1 (omega arith))

module _ (n : Limits) (p : Prices) (ts : List Potentials) (are : ArePricedTables n p 0 ts) where
  pub teams_below : (k : ℕ) → k < teams_in n → k < length (enumerate_from 0 ts)
  teams_below k h = let c = tables_count n p 0 ts are in let l = length-enumerate_from 0 ts in omega (arith, c, l)

  pub teams_past : (k : ℕ) → teams_in n ≤ k → length (enumerate_from 0 ts) ≤ k
  teams_past k h = let c = tables_count n p 0 ts are in let l = length-enumerate_from 0 ts in omega (arith, c, l)

  -- the table of team k, and its item
  pub table_of_team : (k : ℕ) → k < teams_in n → IsPricedTable n k p (get_or ts k no_potentials)
  table_of_team k h =
      let c = tables_count n p 0 ts are in
      subst (λ m. IsPricedTable n m p (get_or ts k no_potentials)) (let e : 0 + k ≡ k = omega arith in e) (table_at n p 0 ts k are (omega (arith, c)))

  pub team_item : (k : ℕ) → k < teams_in n → (k, get_or ts k no_potentials) ≡ get_or (enumerate_from 0 ts) k (0, no_potentials)
  team_item k h =
      let c = tables_count n p 0 ts are in
      sym (get_or-enumerate_from 0 ts k (0, no_potentials) (omega (arith, c)) ∙ ap (λ m. (m, get_or ts k no_potentials)) (let e : 0 + k ≡ k = omega arith in e))
