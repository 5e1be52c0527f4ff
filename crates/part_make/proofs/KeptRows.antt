-- a row of a table, as it is kept
use Rattle.std.proofs.Common.{◌≡◌, ◌<◌, ◌≤◌, List, [], ℕ, length, get_or, map, arith, sym, ◌∙◌, ap, subst, Vec, Global}
use Rattle.std.specs.Prelude.{All}
use Rattle.std.proofs.lemmas.List.{get_or-map, length-map}
use Rattle.crew_terms.specs.Rules.{AreTimes}
use Rattle.crew_terms.specs.declared.TheConstants.{LAST_MINUTE}

abbrev pub rows : List (Vec ℕ Global) → List (List ℕ)
rows vs = map (λ v. v.items) vs

-- as many rows as are kept
pub table_again : (n : ℕ) (vs : List (Vec ℕ Global)) → AreTimes n (rows vs) → AreTimes (length vs) (rows vs)
table_again n vs times =
    let same : n ≡ length vs = let r = times.rows in let m = length-map vs (λ v. v.items) in omega arith in
    subst (λ m. AreTimes m (rows vs)) same times

module _ (vs : List (Vec ℕ Global)) (times : AreTimes (length vs) (rows vs)) (a : ℕ) (below : a < length vs) (row : Vec ℕ Global) (read : row ≡ get_or vs a row) where
  pub row_is : get_or (rows vs) a [] ≡ row.items
  row_is = get_or-map (λ v. v.items) vs a row [] below ∙ ap (λ v. v.items) (sym read)

  pub row_length : length row.items ≡ length vs
  row_length = ap length (sym row_is) ∙ times.columns a [] (let m = length-map vs (λ v. v.items) in omega arith)

  pub row_minutes : (b : ℕ) → b < length vs → get_or row.items b 0 ≤ LAST_MINUTE
  row_minutes b l =
      let all : All (λ t. t ≤ LAST_MINUTE) row.items = subst (All (λ t. t ≤ LAST_MINUTE)) row_is (times.minutes a [] (let m = length-map vs (λ v. v.items) in omega arith)) in
      let n = row_length in
      all b 0 (omega arith)

  pub row_reads : (b : ℕ) → get_or (get_or (rows vs) a []) b 0 ≡ get_or row.items b 0
  row_reads b = ap (λ (r : List ℕ). get_or r b 0) row_is
