-- the rows of the lines of a leaf, behind what is read of a line
use Rattle.std.proofs.Common.{◌≡◌, ℕ, List, [], ◌∷◌, ◌++◌, length, map, refl, ◌∙◌, sym, subst}
use Rattle.std.specs.Prelude.{ℤ}
use Rattle.std.specs.List.{flat_map}
use Rattle.std.specs.Fmt.{signed_decimal}
use Rattle.std.proofs.lemmas.List.{length-map}
use Rattle.crew_terms.specs.Words.{Words}
use Rattle.crew_terms.specs.Limits.{tasks_in}
use Rattle.crew_terms.specs.Leaf.{IsPrice}
use Rattle.dossier_terms.specs.declared.DossierForm.TheVariants.{One}
use Rattle.dossier_terms.specs.declared.Reason.TheVariants.{Steps}
use Rattle.dossier_terms.specs.Counted.{steps_pairs}
use Rattle.dossier_terms.specs.Dossier.{Leaf, Potentials, IsWorthNumber, IsSigned}
use Rattle.crew_terms.specs.Minutes.{minute_count, open_tasks, priced, required_teams}
use Rattle.dossier_terms.specs.Lines.{price_line, extra_line, worth_line, phi_line, steps_line, run_words}
use Rattle.dossier_terms.specs.Reading.{Answer, No as Refuses, limits_of, LeafSite}
use Rattle.dossier_terms.specs.Rules.{Holds, Fails, Spelled}
use Rattle.dossier_terms.specs.Runs.{Run, AreRuns, values_of}
use Rattle.dossier_terms.specs.Ranges.{AreNumbers, IsStepsLine, IsPairs}
use Rattle.dossier_terms.specs.LeafTable.{after_extra, after_phi, price_row, extra_row, worth_row, steps_row}
use Rattle.leaf_check.specs.Reader.{priced_leaf, row_in}

-- ---- numbers

spelled_length : (vs : List ℤ) (n : ℕ) → length vs ≡ n → length (map signed_decimal vs) ≡ n
spelled_length vs n e = length-map vs signed_decimal ∙ e

pub price_read : (a : LeafSite) (ws : Words) (vs : List ℤ) (said : Answer) → AreNumbers IsPrice (tasks_in (limits_of a)) vs → ws ≡ price_line vs
    → after_extra a (priced_leaf vs []) (priced (limits_of a)) said → price_row a ws said
price_read a ws vs said fits is others = Holds (map signed_decimal vs, is, spelled_length vs (tasks_in (limits_of a)) fits.count) (Spelled vs fits is others)

pub extra_read : (a : LeafSite) (prices : List ℤ) (rows : List (List ℤ)) (j : ℕ) (js : List ℕ) (ws : Words) (vs : List ℤ) (said : Answer)
    → AreNumbers IsPrice (length (required_teams (limits_of a) j)) vs → ws ≡ extra_line j vs
    → after_extra a (priced_leaf prices (rows ++ vs ∷ [])) js said → extra_row a (priced_leaf prices rows) j js ws said
extra_read a prices rows j js ws vs said fits is others =
    Holds (map signed_decimal vs, is, spelled_length vs (length (required_teams (limits_of a) j)) fits.count) (Spelled vs fits is others)

pub worth_read : (a : LeafSite) (leaf : Leaf) (left : ℕ) (ws : Words) (v : ℤ) (said : Answer) → IsWorthNumber v → ws ≡ worth_line v
    → after_phi a leaf left (record { worth = v; phi = [] }) (open_tasks (limits_of a) (length leaf.tables)) said → worth_row a leaf left ws said
worth_read a leaf left ws v said fits is others = Holds (signed_decimal v ∷ [], is, refl) (Spelled v fits is others)

-- a table with one more row
abbrev pub with_row : Potentials → List ℤ → Potentials
with_row table vs = record { worth = table.worth; phi = table.phi ++ vs ∷ [] }

pub phi_read : (a : LeafSite) (leaf : Leaf) (left : ℕ) (table : Potentials) (j : ℕ) (js : List ℕ) (ws : Words) (vs : List ℤ) (said : Answer)
    → AreNumbers IsSigned (minute_count (limits_of a) (length leaf.tables) j) vs → ws ≡ phi_line j vs
    → after_phi a leaf left (with_row table vs) js said → row_in One a leaf left table j js ws said
phi_read a leaf left table j js ws vs said fits is others =
    Holds (map signed_decimal vs, is, spelled_length vs (minute_count (limits_of a) (length leaf.tables) j) fits.count) (Spelled vs fits is others)

-- ---- runs

pub steps_read : (j first past : ℕ) (ws : Words) (rest : List ℤ → Answer → Type 0) (runs : List Run) (said : Answer) → IsStepsLine runs → ws ≡ steps_line j runs → AreRuns first past runs
    → rest (values_of past runs) said → steps_row j first past ws rest said
steps_read j first past ws rest runs said fits is are others =
    Holds ((flat_map run_words runs, is), subst IsPairs (sym is) (steps_pairs j runs fits.some)) (Spelled runs fits is (Holds are others))

pub steps_broken : (j first past : ℕ) (ws : Words) (rest : List ℤ → Answer → Type 0) (runs : List Run) → IsStepsLine runs → ws ≡ steps_line j runs → (AreRuns first past runs → ⊥)
    → steps_row j first past ws rest (Refuses Steps)
steps_broken j first past ws rest runs fits is none =
    Holds ((flat_map run_words runs, is), subst IsPairs (sym is) (steps_pairs j runs fits.some)) (Spelled runs fits is (Fails none refl))
