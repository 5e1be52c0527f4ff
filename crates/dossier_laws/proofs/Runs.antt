-- runs of equal numbers and the numbers that they stand for
use Rattle.std.proofs.Common.{◌≡◌, ◌<◌, ◌≤◌, ◌+◌, ◌-◌, ℕ, zero, suc, ℤ, List, [], ◌∷◌, ◌++◌, length, replicate, ap, sym, refl, ◌∙◌, arith, Bool, true, false, cond}
use Rattle.std.specs.Prelude.{◌≢◌}
use Rattle.std.specs.List.{AllByRecursion}
use Rattle.std.specs.Ordering.{int_eq}
use Rattle.std.proofs.lemmas.Bool.Decides.{Decides-int_eq, not_from_Decides}
use Rattle.dossier_terms.specs.Runs.{Run, runs_after, runs_of, begin_of, values_of, RunsGoOn, AreRuns}

is_other : (v w : ℤ) → int_eq v w ≡ false → v ≢ w
is_other v w e = not_from_Decides (int_eq v w) (Decides-int_eq v w) e

same_is : (v : ℤ) → int_eq v v ≡ true
same_is v = (Decides-int_eq v v).1 refl

other_is : (v w : ℤ) → v ≢ w → int_eq v w ≡ false
other_is v w other = at (int_eq v w) refl
  where
    at : (b : Bool) → int_eq v w ≡ b → b ≡ false
    at false e = refl
    at true e = absurd (other ((Decides-int_eq v w).0 e))

-- ---- the numbers of the runs of numbers

begins_later : (past : ℕ) (last : ℤ) (t : ℕ) (vs : List ℤ) → past ≡ t + length vs → t ≤ begin_of past (runs_after last t vs)
begins_later past last t [] e = omega arith
begins_later past last t (v ∷ vs) e = at (int_eq v last) (begins_later past last (suc t) vs (omega arith))
  where
    at : (b : Bool) → suc t ≤ begin_of past (runs_after last (suc t) vs) → t ≤ begin_of past (cond b (runs_after last (suc t) vs) (record { from = t; value = v } ∷ runs_after v (suc t) vs))
    at true l = omega arith
    at false l = omega arith

one_value : (v : ℤ) (t b : ℕ) (rest vs : List ℤ) → suc t ≤ b → replicate (b - suc t) v ++ rest ≡ vs → replicate (b - t) v ++ rest ≡ v ∷ vs
one_value v t b rest vs l e =
    let n : b - t ≡ suc (b - suc t) = omega arith in
    ap (λ k. replicate k v ++ rest) n ∙ ap (λ w. v ∷ w) e

values_after : (past : ℕ) (last : ℤ) (t : ℕ) (vs : List ℤ) → past ≡ t + length vs
    → replicate (begin_of past (runs_after last t vs) - t) last ++ values_of past (runs_after last t vs) ≡ vs
values_after past last t [] e = ap (λ k. replicate k last ++ []) (let n : past - t ≡ 0 = omega arith in n)
values_after past last t (v ∷ vs) e = at (int_eq v last) refl (values_after past last (suc t) vs (omega arith)) (values_after past v (suc t) vs (omega arith))
  where
    Follow : ℤ → Type 0
    Follow w = replicate (begin_of past (runs_after w (suc t) vs) - suc t) w ++ values_of past (runs_after w (suc t) vs) ≡ vs

    rest : Bool → List Run
    rest b = cond b (runs_after last (suc t) vs) (record { from = t; value = v } ∷ runs_after v (suc t) vs)

    at : (b : Bool) → int_eq v last ≡ b → Follow last → Follow v → replicate (begin_of past (rest b) - t) last ++ values_of past (rest b) ≡ v ∷ vs
    at true same h k =
        one_value last t (begin_of past (runs_after last (suc t) vs)) (values_of past (runs_after last (suc t) vs)) vs (begins_later past last (suc t) vs (omega arith)) h
        ∙ ap (λ w. w ∷ vs) (sym ((Decides-int_eq v last).0 same))
    at false other h k =
        ap (λ n. replicate n last ++ values_of past (record { from = t; value = v } ∷ runs_after v (suc t) vs)) (let n : t - t ≡ 0 = omega arith in n)
        ∙ one_value v t (begin_of past (runs_after v (suc t) vs)) (values_of past (runs_after v (suc t) vs)) vs (begins_later past v (suc t) vs (omega arith)) k

pub values_again : (past t : ℕ) (vs : List ℤ) → past ≡ t + length vs → values_of past (runs_of t vs) ≡ vs
values_again past t [] e = refl
values_again past t (v ∷ vs) e =
    one_value v t (begin_of past (runs_after v (suc t) vs)) (values_of past (runs_after v (suc t) vs)) vs (begins_later past v (suc t) vs (omega arith)) (values_after past v (suc t) vs (omega arith))

go_on : (past : ℕ) (last : ℤ) (s t : ℕ) (vs : List ℤ) → past ≡ t + length vs → s < t → RunsGoOn (record { from = s; value = last }) past (runs_after last t vs)
go_on past last s t [] e l = tt
go_on past last s t (v ∷ vs) e l = at (int_eq v last) refl (go_on past last s (suc t) vs (omega arith) (omega arith)) (go_on past v t (suc t) vs (omega arith) (omega arith))
  where
    at : (b : Bool) → int_eq v last ≡ b → RunsGoOn (record { from = s; value = last }) past (runs_after last (suc t) vs) → RunsGoOn (record { from = t; value = v }) past (runs_after v (suc t) vs)
        → RunsGoOn (record { from = s; value = last }) past (cond b (runs_after last (suc t) vs) (record { from = t; value = v } ∷ runs_after v (suc t) vs))
    at true same h k = h
    at false other h k = (l, omega arith, is_other v last other, k)

pub they_are_runs : (past t : ℕ) (vs : List ℤ) → past ≡ t + length vs → 0 < length vs → AreRuns t past (runs_of t vs)
they_are_runs past t [] e l = absurd (omega arith)
they_are_runs past t (v ∷ vs) e l = (refl, go_on past v t (suc t) vs (omega arith) (omega arith))

pub some_runs : (first past : ℕ) (rs : List Run) → AreRuns first past rs → 1 ≤ length rs
some_runs first past [] h = absurd h
some_runs first past (r ∷ rs) h = omega arith

after_in : (In : ℤ → Type 0) (last : ℤ) (t : ℕ) (vs : List ℤ) → AllByRecursion In vs → AllByRecursion (λ (r : Run). In r.value) (runs_after last t vs)
after_in In last t [] h = tt
after_in In last t (v ∷ vs) h = at (int_eq v last) (after_in In last (suc t) vs h.1) (after_in In v (suc t) vs h.1)
  where
    Each : List Run → Type 0
    Each rs = AllByRecursion (λ (r : Run). In r.value) rs

    at : (b : Bool) → Each (runs_after last (suc t) vs) → Each (runs_after v (suc t) vs) → Each (cond b (runs_after last (suc t) vs) (record { from = t; value = v } ∷ runs_after v (suc t) vs))
    at true k l = k
    at false k l = (h.0, l)

pub runs_in : (In : ℤ → Type 0) (t : ℕ) (vs : List ℤ) → AllByRecursion In vs → AllByRecursion (λ (r : Run). In r.value) (runs_of t vs)
runs_in In t [] h = tt
runs_in In t (v ∷ vs) h = (h.0, after_in In v (suc t) vs h.1)

go_on_below : (last : Run) (past most : ℕ) (rs : List Run) → RunsGoOn last past rs → past ≤ suc most → AllByRecursion (λ (r : Run). r.from ≤ most) rs
go_on_below last past most [] h l = tt
go_on_below last past most (r ∷ rs) h l = (omega (arith, h.1), go_on_below r past most rs h.3 l)

pub runs_below : (first past most : ℕ) (rs : List Run) → AreRuns first past rs → first < past → past ≤ suc most → AllByRecursion (λ (r : Run). r.from ≤ most) rs
runs_below first past most [] h f l = absurd h
runs_below first past most (r ∷ rs) h f l = (omega (arith, h.0), go_on_below r past most rs h.1 l)

-- ---- the runs of the numbers of runs

pub go_on_begin : (last : Run) (past : ℕ) (rs : List Run) → RunsGoOn last past rs → last.from < past → last.from < begin_of past rs
go_on_begin last past [] h l = l
go_on_begin last past (r ∷ rs) h l = h.0

after_same : (v : ℤ) (t k : ℕ) (rest : List ℤ) → runs_after v t (replicate k v ++ rest) ≡ runs_after v (t + k) rest
after_same v t zero rest = ap (λ n. runs_after v n rest) (let n : t ≡ t + 0 = omega arith in n)
after_same v t (suc k) rest =
    ap (λ b. cond b (runs_after v (suc t) (replicate k v ++ rest)) (record { from = t; value = v } ∷ runs_after v (suc t) (replicate k v ++ rest))) (same_is v)
    ∙ after_same v (suc t) k rest ∙ ap (λ n. runs_after v n rest) (let n : suc t + k ≡ t + suc k = omega arith in n)

-- the first number of a run, and the rest of it
values_cons : (past : ℕ) (r : Run) (rs : List Run) → r.from < begin_of past rs → values_of past (r ∷ rs) ≡ r.value ∷ (replicate (begin_of past rs - suc r.from) r.value ++ values_of past rs)
values_cons past r rs l = ap (λ k. replicate k r.value ++ values_of past rs) (let n : begin_of past rs - r.from ≡ suc (begin_of past rs - suc r.from) = omega arith in n)

runs_back : (last : Run) (past : ℕ) (rs : List Run) → RunsGoOn last past rs → last.from < past
    → runs_after last.value (suc last.from) (replicate (begin_of past rs - suc last.from) last.value ++ values_of past rs) ≡ rs
runs_back last past [] h l = after_same last.value (suc last.from) (past - suc last.from) []
runs_back last past (r ∷ rs) h l =
    let begin : r.from < begin_of past rs = go_on_begin r past rs h.3 h.1 in
    let tail = replicate (begin_of past rs - suc r.from) r.value ++ values_of past rs in
    after_same last.value (suc last.from) (r.from - suc last.from) (values_of past (r ∷ rs))
    ∙ ap (λ n. runs_after last.value n (values_of past (r ∷ rs))) (let n : suc last.from + (r.from - suc last.from) ≡ r.from = omega (arith, h.0) in n)
    ∙ ap (λ vs. runs_after last.value r.from vs) (values_cons past r rs begin)
    ∙ ap (λ b. cond b (runs_after last.value (suc r.from) tail) (record { from = r.from; value = r.value } ∷ runs_after r.value (suc r.from) tail)) (other_is r.value last.value h.2)
    ∙ ap (λ ws. r ∷ ws) (runs_back r past rs h.3 h.1)

pub runs_again : (first past : ℕ) (rs : List Run) → AreRuns first past rs → first < past → runs_of first (values_of past rs) ≡ rs
runs_again first past [] h l = absurd h
runs_again first past (r ∷ rs) h l =
    let in_time : r.from < past = omega (arith, h.0) in
    ap (λ vs. runs_of first vs) (values_cons past r rs (go_on_begin r past rs h.1 in_time))
    ∙ ap (λ t. runs_of t (r.value ∷ (replicate (begin_of past rs - suc r.from) r.value ++ values_of past rs))) (sym h.0)
    ∙ ap (λ ws. r ∷ ws) (runs_back r past rs h.1 in_time)

many_in : (In : ℤ → Type 0) (k : ℕ) (v : ℤ) (vs : List ℤ) → In v → AllByRecursion In vs → AllByRecursion In (replicate k v ++ vs)
many_in In zero v vs h each = each
many_in In (suc k) v vs h each = (h, many_in In k v vs h each)

pub values_in : (In : ℤ → Type 0) (past : ℕ) (rs : List Run) → AllByRecursion (λ (r : Run). In r.value) rs → AllByRecursion In (values_of past rs)
values_in In past [] h = tt
values_in In past (r ∷ rs) h = many_in In (begin_of past rs - r.from) r.value (values_of past rs) h.0 (values_in In past rs h.1)
