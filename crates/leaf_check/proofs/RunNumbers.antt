-- runs by their numbers in a line, and the numbers that they stand for
use Rattle.std.proofs.Common.{◌≡◌, ◌<◌, ◌≤◌, ◌+◌, ◌*◌, ◌-◌, ℕ, zero, suc, ℤ, pos, List, [], ◌∷◌, length, get_or, replicate, ap, sym, refl, ◌∙◌, arith, w64, to_z, of_z}
use Rattle.std.specs.Prelude.{FitsSigned}
use Rattle.std.proofs.lemmas.Int.{to_z-of_z}
use Rattle.std.proofs.lemmas.List.{drop_all, get_or-append_right, get_or_append_left, get_or-replicate, length-replicate}
use Rattle.std.specs.List.{AllByRecursion, flat_map}
use Rattle.crew_terms.specs.declared.TheConstants.{LAST_MINUTE}
use Rattle.dossier_terms.specs.Runs.{Run, AreRuns, RunsGoOn, begin_of, values_of}
use Rattle.line_in.specs.Fields.{run_numbers}
use Rattle.leaf_check.specs.Runs.{GoesOn, begin_of_run, number_of_run}

-- ---- the numbers of a line

pub numbers_length : (runs : List Run) → length (flat_map run_numbers runs) ≡ 2 * length runs
numbers_length [] = refl
numbers_length (r ∷ rs) = let l = numbers_length rs in omega arith

pub begin_number : (past : ℕ) (runs : List Run) (n : ℕ) → n < length runs → get_or (flat_map run_numbers runs) (2 * n) (pos 0) ≡ pos (begin_of_run past runs n)
begin_number past [] n h = absurd (omega arith)
begin_number past (r ∷ rs) zero h = refl
begin_number past (r ∷ rs) (suc n) h =
    ap (λ k. get_or (flat_map run_numbers (r ∷ rs)) k (pos 0)) (let e : 2 * suc n ≡ suc (suc (2 * n)) = omega arith in e) ∙ begin_number past rs n (omega arith)

pub value_number : (runs : List Run) (n : ℕ) → n < length runs → get_or (flat_map run_numbers runs) (2 * n + 1) (pos 0) ≡ number_of_run runs n
value_number [] n h = absurd (omega arith)
value_number (r ∷ rs) zero h = refl
value_number (r ∷ rs) (suc n) h =
    ap (λ k. get_or (flat_map run_numbers (r ∷ rs)) k (pos 0)) (let e : 2 * suc n + 1 ≡ suc (suc (2 * n + 1)) = omega arith in e) ∙ value_number rs n (omega arith)

pub begin_small : (past : ℕ) (runs : List Run) (n : ℕ) → AllByRecursion (λ (r : Run). r.from ≤ LAST_MINUTE) runs → n < length runs → begin_of_run past runs n ≤ LAST_MINUTE
begin_small past [] n each h = absurd (omega arith)
begin_small past (r ∷ rs) zero each h = each.0
begin_small past (r ∷ rs) (suc n) each h = begin_small past rs n each.1 (omega arith)

pub begin_none : (past : ℕ) (runs : List Run) (n : ℕ) → length runs ≤ n → begin_of_run past runs n ≡ past
begin_none past runs n h = ap (begin_of past) (drop_all n runs h)

pub next_value : (runs : List Run) (n : ℕ) → suc n < length runs → get_or (flat_map run_numbers runs) (2 * n + 3) (pos 0) ≡ number_of_run runs (suc n)
next_value runs n h = ap (λ k. get_or (flat_map run_numbers runs) k (pos 0)) (let e : 2 * n + 3 ≡ 2 * suc n + 1 = omega arith in e) ∙ value_number runs (suc n) h

-- two numbers of 64 bits are equal where their bits are
pub same_word : (x y : ℤ) → FitsSigned w64 x → FitsSigned w64 y → of_z w64 x ≡ of_z w64 y → x ≡ y
same_word x y fx fy e = sym (to_z-of_z w64 x fx) ∙ ap (to_z w64) e ∙ to_z-of_z w64 y fy

-- ---- each run goes on with the next

go_on_by : (r : Run) (past : ℕ) (rs : List Run) → ((n : ℕ) → n < length rs → GoesOn past (r ∷ rs) n) → RunsGoOn r past rs
go_on_by r past [] h = tt
go_on_by r past (s ∷ rs) h =
    let one = h 0 (omega arith) in
    (one.rises, one.before, one.differs, go_on_by s past rs (λ n l. let g = h (suc n) (omega arith) in record { rises = g.rises; before = g.before; differs = g.differs }))

by_go_on : (r : Run) (past : ℕ) (rs : List Run) → RunsGoOn r past rs → (n : ℕ) → n < length rs → GoesOn past (r ∷ rs) n
by_go_on r past [] h n l = absurd (omega arith)
by_go_on r past (s ∷ rs) h zero l = record { rises = h.0; before = h.1; differs = h.2 }
by_go_on r past (s ∷ rs) h (suc n) l = let g = by_go_on s past rs h.3 n (omega arith) in record { rises = g.rises; before = g.before; differs = g.differs }

pub are_by : (first past : ℕ) (runs : List Run) → 1 ≤ length runs → begin_of_run past runs 0 ≡ first → ((n : ℕ) → suc n < length runs → GoesOn past runs n) → AreRuns first past runs
are_by first past [] some begins h = absurd (omega arith)
are_by first past (r ∷ rs) some begins h = (begins, go_on_by r past rs (λ n l. h n (omega arith)))

pub first_begins : (first past : ℕ) (runs : List Run) → AreRuns first past runs → begin_of_run past runs 0 ≡ first
first_begins first past [] h = absurd h
first_begins first past (r ∷ rs) h = h.0

pub goes_on_at : (first past : ℕ) (runs : List Run) → AreRuns first past runs → (n : ℕ) → suc n < length runs → GoesOn past runs n
goes_on_at first past [] h n l = absurd h
goes_on_at first past (r ∷ rs) h n l = by_go_on r past rs h.1 n (omega arith)

-- ---- the minutes of a run, and its number

rises : (r : Run) (past : ℕ) (rs : List Run) → RunsGoOn r past rs → r.from < past → (n : ℕ) → n < suc (length rs) → begin_of_run past (r ∷ rs) n < begin_of_run past (r ∷ rs) (suc n)
rises r past [] h l zero m = l
rises r past [] h l (suc n) m = absurd (omega arith)
rises r past (s ∷ rs) h l zero m = h.0
rises r past (s ∷ rs) h l (suc n) m = rises s past rs h.3 h.1 n (omega arith)

ends : (r : Run) (past : ℕ) (rs : List Run) → RunsGoOn r past rs → r.from < past → (n : ℕ) → begin_of_run past (r ∷ rs) n ≤ past
ends r past rs h l zero = omega arith
ends r past [] h l (suc n) = let e = begin_none past [] n (omega arith) in omega arith
ends r past (s ∷ rs) h l (suc n) = ends s past rs h.3 h.1 n

begins : (r : Run) (past : ℕ) (rs : List Run) → RunsGoOn r past rs → r.from < past → (n : ℕ) → r.from ≤ begin_of_run past (r ∷ rs) n
begins r past rs h l zero = omega arith
begins r past [] h l (suc n) = let e = begin_none past [] n (omega arith) in omega arith
begins r past (s ∷ rs) h l (suc n) = let b = begins s past rs h.3 h.1 n in let c = h.0 in omega arith

value_in : (r : Run) (past : ℕ) (rs : List Run) → RunsGoOn r past rs → r.from < past → (n t : ℕ) → n < suc (length rs)
    → begin_of_run past (r ∷ rs) n ≤ t → t < begin_of_run past (r ∷ rs) (suc n) → get_or (values_of past (r ∷ rs)) (t - r.from) (pos 0) ≡ number_of_run (r ∷ rs) n
value_in r past rs h l zero t m from until =
    let k = begin_of past rs - r.from in
    get_or_append_left (replicate k r.value) (values_of past rs) (pos 0) (t - r.from) (omega (arith, length-replicate k r.value))
    ∙ get_or-replicate k (t - r.from) r.value (pos 0) (omega arith)
value_in r past [] h l (suc n) t m from until = absurd (omega arith)
value_in r past (s ∷ rs) h l (suc n) t m from until =
    let k = s.from - r.from in
    let later = h.0 in
    let least = begins s past rs h.3 h.1 n in
    get_or-append_right (replicate k r.value) (values_of past (s ∷ rs)) k (t - r.from) (pos 0) (length-replicate k r.value) (omega arith)
    ∙ ap (λ i. get_or (values_of past (s ∷ rs)) i (pos 0)) (let e : t - r.from - k ≡ t - s.from = omega arith in e)
    ∙ value_in s past rs h.3 h.1 n t (omega arith) from until

pub run_rises : (first past : ℕ) (runs : List Run) → AreRuns first past runs → first < past → (n : ℕ) → n < length runs → begin_of_run past runs n < begin_of_run past runs (suc n)
run_rises first past [] h l n m = absurd h
run_rises first past (r ∷ rs) h l n m = let e = h.0 in rises r past rs h.1 (omega arith) n (omega arith)

pub run_ends : (first past : ℕ) (runs : List Run) → AreRuns first past runs → first < past → (n : ℕ) → begin_of_run past runs n ≤ past
run_ends first past [] h l n = absurd h
run_ends first past (r ∷ rs) h l n = let e = h.0 in ends r past rs h.1 (omega arith) n

pub run_begins : (first past : ℕ) (runs : List Run) → AreRuns first past runs → first < past → (n : ℕ) → first ≤ begin_of_run past runs n
run_begins first past [] h l n = absurd h
run_begins first past (r ∷ rs) h l n = let e = h.0 in let b = begins r past rs h.1 (omega arith) n in omega arith

pub run_value : (first past : ℕ) (runs : List Run) → AreRuns first past runs → first < past → (n t : ℕ) → n < length runs
    → begin_of_run past runs n ≤ t → t < begin_of_run past runs (suc n) → get_or (values_of past runs) (t - first) (pos 0) ≡ number_of_run runs n
run_value first past [] h l n t m from until = absurd h
run_value first past (r ∷ rs) h l n t m from until =
    ap (λ f. get_or (values_of past (r ∷ rs)) (t - f) (pos 0)) (sym h.0) ∙ value_in r past rs h.1 (let e = h.0 in omega arith) n t (omega arith) from until
