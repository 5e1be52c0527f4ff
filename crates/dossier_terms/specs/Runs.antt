-- runs of equal numbers, by which form 2 writes a row of potentials
use Rattle.std.specs.Prelude.{◌≡◌, ◌≢◌, ◌<◌, ◌-◌, ◌++◌, ℕ, suc, ℤ, List, [], ◌∷◌, replicate, if◌then◌else◌}
use Rattle.std.specs.Ordering.{int_eq}

-- the number from a minute on, up to the next run
pub record Run : Type 0 where
  pub from : ℕ
  pub value : ℤ

-- the runs of these numbers from minute t on, behind a run of another number: one begins wherever the number changes
abbrev pub runs_after : ℤ → ℕ → List ℤ → List Run
runs_after last t [] = []
runs_after last t (v ∷ vs) = if int_eq v last then runs_after last (suc t) vs else record { from = t; value = v } ∷ runs_after v (suc t) vs

-- the runs of these numbers, the first of which is that of minute t
abbrev pub runs_of : ℕ → List ℤ → List Run
runs_of t [] = []
runs_of t (v ∷ vs) = record { from = t; value = v } ∷ runs_after v (suc t) vs

-- the minute at which the first of these runs begins; `past` where there is none
abbrev pub begin_of : ℕ → List Run → ℕ
begin_of past [] = past
begin_of past (r ∷ rs) = r.from

-- the numbers of these runs, one for each minute before `past`
abbrev pub values_of : ℕ → List Run → List ℤ
values_of past [] = []
values_of past (r ∷ rs) = replicate (begin_of past rs - r.from) r.value ++ values_of past rs

-- each run behind this one begins later than the one before it and earlier than `past`, with another number than it
abbrev pub RunsGoOn : Run → ℕ → List Run → Type 0
RunsGoOn last past [] = Unit {0}
RunsGoOn last past (r ∷ rs) = (last.from < r.from) × (r.from < past) × (r.value ≢ last.value) × RunsGoOn r past rs

-- the runs begin at minute `first`, and go on to before `past`
abbrev pub AreRuns : ℕ → ℕ → List Run → Type 0
AreRuns first past [] = ⊥
AreRuns first past (r ∷ rs) = (r.from ≡ first) × RunsGoOn r past rs
