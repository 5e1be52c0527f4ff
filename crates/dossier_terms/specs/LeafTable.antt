-- the table of lines: the numbers of a leaf
use Rattle.std.specs.Prelude.{◌≡◌, ◌+◌, ◌++◌, ℕ, zero, suc, ℤ, true, List, [], ◌∷◌, length, codes}
use Rattle.crew_terms.specs.Words.{Words}
use Rattle.crew_terms.specs.Plan.{unassigned_count}
use Rattle.crew_terms.specs.Limits.{Limits, tasks_in, teams_in}
use Rattle.crew_terms.specs.Minutes.{first_minute, minute_count, open_tasks, priced, required_teams}
use Rattle.crew_terms.specs.Leaf.{HoldsPotential, HoldsWorth, IsPrice, bound_of, Proves, earned}
use Rattle.dossier_terms.specs.declared.DossierForm.{DossierForm}
use Rattle.dossier_terms.specs.declared.DossierForm.TheVariants.{One, Two}
use Rattle.dossier_terms.specs.declared.Reason.TheVariants.{Shape, Number, Steps, Potential, Worth, Bound}
use Rattle.dossier_terms.specs.Dossier.{Leaf, Potentials, prices_of, worths_of, phi_in, IsWorthNumber, IsSigned}
use Rattle.dossier_terms.specs.Runs.{AreRuns, values_of}
use Rattle.dossier_terms.specs.Lines.{price_line, extra_line, worth_line, phi_line, steps_line}
use Rattle.dossier_terms.specs.Reading.{Answer, LeafSite, limits_of, Extras, Worths, Phis, leaf_done}
use Rattle.dossier_terms.specs.Rules.{Must, MustEach, MustSpell, Goes, IsShape}
use Rattle.dossier_terms.specs.Ranges.{AreNumbers, IsStepsLine, IsPairs, IsRow, BeginsAt}

-- ---- what is said after a line

-- what is said after the last line of a leaf's teams so far, of which this many are left
abbrev pub after_table : LeafSite → Leaf → ℕ → Answer → Type 0
after_table a leaf zero = let b = bound_of (limits_of a) (prices_of (limits_of a) leaf) (worths_of leaf) in
    Must (Proves b a.begun.bound) Bound
    (Must (a.is_closed ≡ true → Proves b (unassigned_count a.begun.plan)) Bound
    (Goes (leaf_done a leaf)))
after_table a leaf (suc left) = Goes (Worths a leaf left)

-- what is said after a line of the next team, of which the rows of these tasks are left
abbrev pub after_phi : LeafSite → Leaf → ℕ → Potentials → List ℕ → Answer → Type 0
after_phi a leaf left table [] =
    let n = limits_of a in
    let k = length leaf.tables in
    MustEach (tasks_in n) (HoldsPotential n k (earned (prices_of n leaf) k) (phi_in n k table)) (λ j. Potential k j)
    (Must (HoldsWorth n k (phi_in n k table) table.worth) (Worth k)
    (after_table a (record leaf { tables = leaf.tables ++ table ∷ [] }) left))
after_phi a leaf left table (j ∷ js) = Goes (Phis a leaf left table j js)

-- what is said after a line of prices of pairs, of which those of these tasks are left
abbrev pub after_extra : LeafSite → Leaf → List ℕ → Answer → Type 0
after_extra a leaf [] = after_table a leaf (teams_in (limits_of a))
after_extra a leaf (j ∷ js) = Goes (Extras a leaf j js)

-- ---- the rows

-- a line `price`
abbrev pub price_row : LeafSite → Words → Answer → Type 0
price_row a ws = Must (IsShape (codes "price") (tasks_in (limits_of a)) ws) Shape
    (MustSpell price_line (AreNumbers IsPrice (tasks_in (limits_of a))) ws Number λ vs.
    after_extra a (record { prices = vs; extras = []; tables = [] }) (priced (limits_of a)))

-- a line `extra` of task j
abbrev pub extra_row : LeafSite → Leaf → ℕ → List ℕ → Words → Answer → Type 0
extra_row a leaf j js ws = let n = length (required_teams (limits_of a) j) in
    Must (IsRow extra_line j n ws) Shape
    (MustSpell (extra_line j) (AreNumbers IsPrice n) ws Number λ vs.
    after_extra a (record leaf { extras = leaf.extras ++ vs ∷ [] }) js)

-- a line `worth`
abbrev pub worth_row : LeafSite → Leaf → ℕ → Words → Answer → Type 0
worth_row a leaf left ws = Must (IsShape (codes "worth") 1 ws) Shape
    (MustSpell worth_line IsWorthNumber ws Number λ worth.
    after_phi a leaf left (record { worth = worth; phi = [] }) (open_tasks (limits_of a) (length leaf.tables)))

-- a line `phi` of task j with this many numbers
abbrev pub phi_row : ℕ → ℕ → Words → (List ℤ → Answer → Type 0) → Answer → Type 0
phi_row j count ws rest = Must (IsRow phi_line j count ws) Shape
    (MustSpell (phi_line j) (AreNumbers IsSigned count) ws Number rest)

-- a line `steps` of task j, whose runs go from minute `first` to before `past`
abbrev pub steps_row : ℕ → ℕ → ℕ → Words → (List ℤ → Answer → Type 0) → Answer → Type 0
steps_row j first past ws rest = Must (BeginsAt (codes "steps") j ws × IsPairs ws) Shape
    (MustSpell (steps_line j) IsStepsLine ws Number λ runs.
    Must (AreRuns first past runs) Steps
    (rest (values_of past runs)))

-- the line of the potentials of team k at task j, as the form has it
abbrev pub potentials_row : DossierForm → Limits → ℕ → ℕ → Words → (List ℤ → Answer → Type 0) → Answer → Type 0
potentials_row One n k j ws rest = phi_row j (minute_count n k j) ws rest
potentials_row Two n k j ws rest = steps_row j (first_minute n k j) (first_minute n k j + minute_count n k j) ws rest

-- a line of the next team's potentials at task j
abbrev pub table_row : LeafSite → Leaf → ℕ → Potentials → ℕ → List ℕ → Words → Answer → Type 0
table_row a leaf left table j js ws = potentials_row a.begun.form (limits_of a) (length leaf.tables) j ws λ vs.
    after_phi a leaf left (record table { phi = table.phi ++ vs ∷ [] }) js
