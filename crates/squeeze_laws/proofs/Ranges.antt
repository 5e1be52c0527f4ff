-- the prices of a run are minute prices
use Rattle.std.proofs.Common.{◌≡◌, ◌≤◌, ◌<◌, ◌⊎◌, inl, inr, ℕ, zero, suc, List, [], length, get_or, map, replicate, ap, sym, subst, ◌∙◌, arith}
use Rattle.std.specs.Prelude.{ℤ, pos, ◌+ℤ◌, ◌-ℤ◌, ◌*ℤ◌}
use Rattle.std.specs.List.{range_with_len}
use Rattle.std.proofs.lemmas.Bool.{cases_lt}
use Rattle.std.proofs.lemmas.Int.{ints, clamps}
use Rattle.std.proofs.lemmas.List.{get_or-replicate, get_or_past, length-replicate}
use Rattle.std.proofs.lemmas.List.FromFn.{get_or-map-range_with_len, length-map-range_with_len}
use Rattle.crew_terms.specs.Instance.{Instance, task_of}
use Rattle.crew_terms.specs.Leaf.{IsPrice}
use Rattle.crew_terms.specs.declared.Visit.{Visit}
use Rattle.squeeze_terms.specs.MinutePrices.{AreMinutePrices, MinutePrices, price_at, price_count, zero_minute_prices}
use Rattle.squeeze_terms.specs.Run.{cut_off, demand_at, next_price, next_prices, prices_after, routes_at, stride, visits_at}

-- a row of a list that has one for each task
pub row_at : (f : ℕ → List ℤ) (n j : ℕ) → j < n → get_or (map f (range_with_len 0 n)) j [] ≡ f j
row_at f n j l = get_or-map-range_with_len f 0 n j j [] l (omega arith)

pub no_row : (f : ℕ → List ℤ) (n j : ℕ) → n ≤ j → get_or (map f (range_with_len 0 n)) j [] ≡ []
no_row f n j ge = get_or_past (map f (range_with_len 0 n)) j [] (let e = length-map-range_with_len f 0 n in omega arith)

zero_price : IsPrice (pos 0)
zero_price = record { least = omega (arith, ints); most = omega (arith, ints) }

cut_price : (v : ℤ) → IsPrice (cut_off v)
cut_price v = record { least = omega (arith, ints, clamps); most = omega (arith, ints, clamps) }

-- rows of prices, one for each task
module _ (i : Instance) (f : ℕ → List ℤ) (counts : (j : ℕ) → length (f j) ≡ price_count (task_of i j)) (range : (j x : ℕ) → IsPrice (get_or (f j) x (pos 0))) where
  at : (j x : ℕ) → (j < length i.tasks) ⊎ (length i.tasks ≤ j) → IsPrice (price_at (map f (range_with_len 0 (length i.tasks))) j x)
  at j x (inl l) = subst (λ row. IsPrice (get_or row x (pos 0))) (sym (row_at f (length i.tasks) j l)) (range j x)
  at j x (inr ge) = subst (λ row. IsPrice (get_or row x (pos 0))) (sym (no_row f (length i.tasks) j ge)) zero_price

  pub from_rows : AreMinutePrices i (map f (range_with_len 0 (length i.tasks)))
  from_rows = record {
    tasks = length-map-range_with_len f 0 (length i.tasks);
    counts = λ j l. ap length (row_at f (length i.tasks) j l) ∙ counts j;
    range = λ j x. at j x (cases_lt j (length i.tasks));
  }

pub zeros_are : (i : Instance) → AreMinutePrices i (zero_minute_prices i)
zeros_are i = from_rows i (λ j. replicate (price_count (task_of i j)) (pos 0)) (λ j. length-replicate (price_count (task_of i j)) (pos 0)) (λ j x. zero_in (price_count (task_of i j)) x (cases_lt x (price_count (task_of i j))))
  where
    zero_in : (n x : ℕ) → (x < n) ⊎ (n ≤ x) → IsPrice (get_or (replicate n (pos 0)) x (pos 0))
    zero_in n x (inl l) = subst IsPrice (sym (get_or-replicate n x (pos 0) (pos 0) l)) zero_price
    zero_in n x (inr ge) = subst IsPrice (sym (get_or_past (replicate n (pos 0)) x (pos 0) (let e = length-replicate n (pos 0) in omega arith))) zero_price

pub next_are : (i : Instance) (s : ℕ) (p : MinutePrices) (routes : List (List Visit)) → AreMinutePrices i (next_prices i s p routes)
next_are i s p routes = from_rows i row (λ j. length-map-range_with_len (next_price i s p routes j) 0 (price_count (task_of i j))) (λ j x. cut_in j x (cases_lt x (price_count (task_of i j))))
  where
    row : ℕ → List ℤ
    row j = map (next_price i s p routes j) (range_with_len 0 (price_count (task_of i j)))

    cut_in : (j x : ℕ) → (x < price_count (task_of i j)) ⊎ (price_count (task_of i j) ≤ x) → IsPrice (get_or (row j) x (pos 0))
    cut_in j x (inl l) = subst IsPrice (sym (get_or-map-range_with_len (next_price i s p routes j) 0 (price_count (task_of i j)) x x (pos 0) l (omega arith))) (cut_price (price_at p j x +ℤ (pos (stride s) *ℤ (pos (demand_at i p j x) -ℤ pos (visits_at i routes j x)))))
    cut_in j x (inr ge) = subst IsPrice (sym (get_or_past (row j) x (pos 0) (let e = length-map-range_with_len (next_price i s p routes j) 0 (price_count (task_of i j)) in omega arith))) zero_price

pub run_prices : (i : Instance) (trace : List (List (List Visit))) (s : ℕ) → AreMinutePrices i (prices_after i trace s)
run_prices i trace zero = zeros_are i
run_prices i trace (suc s) = next_are i s (prices_after i trace s) (routes_at trace s)
