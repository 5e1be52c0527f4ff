-- the lines of a tree
use Rattle.std.proofs.Common.{◌≡◌, ◌≤◌, ◌<◌, ◌+◌, ◌-◌, [], ◌∷◌, ◌++◌, ℕ, suc, ℤ, List, length, arith, Bool, true, false, cond}
use Rattle.std.specs.Ordering.{int_eq}
use Rattle.std.specs.List.{AllByRecursion}
use Rattle.crew_terms.specs.Instance.{Instance}
use Rattle.crew_terms.specs.Rules.{IsInstance}
use Rattle.text_laws.proofs.CauseLines.{cause_good}
use Rattle.crew_terms.specs.Limits.{Limits, Route, tasks_in, teams_in, root_limits}
use Rattle.crew_terms.specs.Minutes.{priced, required_teams, open_tasks, first_minute, minute_count}
use Rattle.crew_terms.specs.Leaf.{IsPrice}
use Rattle.crew_terms.specs.Branches.{LeafNode, SplitNode, Claim, Bare, Open, Closed, splits, closed}
use Rattle.crew_terms.specs.Tree.{CanSplit, child, IsSound}
use Rattle.crew_terms.specs.Words.{Words}
use Rattle.crew_terms.specs.declared.Choice.{Choice}
use Rattle.crew_terms.specs.declared.Choice.TheVariants as choices
use Rattle.crew_terms.specs.declared.Side.{Side}
use Rattle.crew_terms.specs.declared.Side.TheVariants.{First, Second}
use Rattle.crew_terms.specs.declared.TheConstants.{LAST_MINUTE, MOST_NODES, MOST_NUMBER}
use Rattle.crew_terms.specs.Children.{child_is}
use Rattle.dossier_terms.specs.declared.DossierForm.{DossierForm}
use Rattle.dossier_terms.specs.declared.DossierForm.TheVariants.{One, Two}
use Rattle.dossier_terms.specs.Runs.{Run, runs_after, runs_of}
use Rattle.dossier_terms.specs.Causes.{IsCauseOf}
use Rattle.dossier_terms.specs.Dossier.{Split, Written, Leaf, Potentials, AreRows, IsSigned, IsWritten, IsWrittenClaim, Tables, AreWritten, AreCaused, tree_of}
use Rattle.dossier_terms.specs.Lines.{node_lines, claim_lines, choice_line, split_lines, leaf_lines, table_lines, tree_lines, rows_lines, extra_line, potentials_line, end_line, counts_of}
use Rattle.dossier_terms.specs.Counted.{leaves_of, depth_le, IsWide, price_wide, worth_wide, signed_wide}
use Rattle.dossier_laws.specs.Days.{IsDay, last_minute, root_day, child_day, minutes_end}
use Rattle.text_laws.specs.Texts.{AreLine}
use Rattle.text_laws.proofs.Lists.{rec-append, rec_weaker}
use Rattle.text_laws.proofs.Heads.{picked_few, picked_less, until_day}
use Rattle.text_laws.proofs.Spellings.{IsFewRun, steps_is_line, tree_is_line, window_is_line, pair_is_line, bare_is_line, open_is_line, closed_is_line, price_is_line, extra_is_line, worth_is_line, phi_is_line, end_is_line}

-- ---- a leaf

chosen_le : (t : Bool) (stop first most : ℕ) → stop ≤ most → cond t (stop - first) 0 ≤ most
chosen_le true stop first most h = omega arith
chosen_le false stop first most h = omega arith

-- a team can begin a task at a minute of its shift
minutes_few : (n : Limits) (k j : ℕ) → IsInstance n.instance → minute_count n k j ≤ LAST_MINUTE + 1
minutes_few n k j h = let until = until_day n.instance h k in chosen_le _ _ _ (LAST_MINUTE + 1) (omega arith)

rows_good : (line : ℕ → List ℤ → Words) (In : ℤ → Type 0) (wants : ℕ → ℕ) (most : ℕ) → ((key : ℕ) (row : List ℤ) → key < most → length row ≡ wants key → AllByRecursion In row → AreLine (line key row))
    → (keys : List ℕ) (rows : List (List ℤ)) → AllByRecursion (λ key. key < most) keys → AreRows In wants keys rows → AllByRecursion AreLine (rows_lines line keys rows)
rows_good line In wants most is [] rows h r = tt
rows_good line In wants most is (key ∷ keys) [] h r = tt
rows_good line In wants most is (key ∷ keys) (row ∷ rows) h r = (is key row h.0 r.0 r.1, rows_good line In wants most is keys rows h.1 r.2)

-- there are no more runs than numbers, and they begin within two days
runs_after_few : (last : ℤ) (t : ℕ) (vs : List ℤ) → t + length vs ≤ LAST_MINUTE + 1 → AllByRecursion IsSigned vs → (length (runs_after last t vs) ≤ length vs) × AllByRecursion IsFewRun (runs_after last t vs)
runs_after_few last t [] l h = (omega arith, tt)
runs_after_few last t (v ∷ vs) l h = at (int_eq v last) (runs_after_few last (suc t) vs (omega arith) h.1) (runs_after_few v (suc t) vs (omega arith) h.1)
  where
    AreFew : ℕ → List Run → Type 0
    AreFew most rs = (length rs ≤ most) × AllByRecursion IsFewRun rs

    at : (b : Bool) → AreFew (length vs) (runs_after last (suc t) vs) → AreFew (length vs) (runs_after v (suc t) vs)
        → AreFew (suc (length vs)) (cond b (runs_after last (suc t) vs) (record { from = t; value = v } ∷ runs_after v (suc t) vs))
    at true a b = (omega (arith, a.0), a.1)
    at false a b = (omega (arith, b.0), (record { from = omega arith; value = signed_wide v h.0 }, b.1))

runs_few : (t : ℕ) (vs : List ℤ) → (0 < length vs → t + length vs ≤ LAST_MINUTE + 1) → AllByRecursion IsSigned vs → (length (runs_of t vs) ≤ length vs) × AllByRecursion IsFewRun (runs_of t vs)
runs_few t [] l h = (omega arith, tt)
runs_few t (v ∷ vs) l h =
    let room : t + length (v ∷ vs) ≤ LAST_MINUTE + 1 = l (omega arith) in
    let a = runs_after_few v (suc t) vs (omega arith) h.1 in
    (omega (arith, a.0), (record { from = omega arith; value = signed_wide v h.0 }, a.1))

potentials_good : (form : DossierForm) (n : Limits) (k j : ℕ) (row : List ℤ) → IsInstance n.instance → IsDay n → j < tasks_in n → length row ≡ minute_count n k j → AllByRecursion IsSigned row
    → AreLine (potentials_line form (first_minute n k j) j row)
potentials_good One n k j row h day l count each = phi_is_line j row (omega (arith, h.parts.few_tasks)) (omega (arith, minutes_few n k j h)) (rec_weaker IsSigned IsWide signed_wide row each)
potentials_good Two n k j row h day l count each =
    let a = runs_few (first_minute n k j) row (λ some. let b = minutes_end n k j (omega arith) in let c = last_minute n j day in omega arith) each in
    steps_is_line j (runs_of (first_minute n k j) row) (omega (arith, h.parts.few_tasks)) (omega (arith, a.0, minutes_few n k j h)) a.1

phis_good : (form : DossierForm) (n : Limits) (k : ℕ) (rows : List (List ℤ)) → IsInstance n.instance → IsDay n → AreRows IsSigned (minute_count n k) (open_tasks n k) rows
    → AllByRecursion AreLine (rows_lines (λ j. potentials_line form (first_minute n k j) j) (open_tasks n k) rows)
phis_good form n k rows h day r = rows_good (λ j. potentials_line form (first_minute n k j) j) IsSigned (minute_count n k) (tasks_in n)
    (λ j row l count each. potentials_good form n k j row h day l count each) (open_tasks n k) rows (picked_less (tasks_in n) _) r

tables_good : (form : DossierForm) (n : Limits) (k : ℕ) (ts : List Potentials) → IsInstance n.instance → IsDay n → Tables n k ts → AllByRecursion AreLine (table_lines form n k ts)
tables_good form n k [] h day w = tt
tables_good form n k (t ∷ ts) h day w = (
  worth_is_line t.worth (worth_wide t.worth w.0.worth),
  rec-append AreLine (rows_lines (λ j. potentials_line form (first_minute n k j) j) (open_tasks n k) t.phi) (table_lines form n (suc k) ts) (phis_good form n k t.phi h day w.0.rows) (tables_good form n (suc k) ts h day w.1),
)

extras_good : (n : Limits) (rows : List (List ℤ)) → IsInstance n.instance → AreRows IsPrice (λ j. length (required_teams n j)) (priced n) rows → AllByRecursion AreLine (rows_lines extra_line (priced n) rows)
extras_good n rows h r = rows_good extra_line IsPrice (λ j. length (required_teams n j)) (tasks_in n)
    (λ j row l count each.
    let few : length (required_teams n j) ≤ teams_in n = picked_few (teams_in n) _ in
    extra_is_line j row (omega (arith, h.parts.few_tasks)) (omega (arith, h.parts.few_teams)) (rec_weaker IsPrice IsWide price_wide row each))
    (priced n) rows (picked_less (tasks_in n) _) r

leaf_good : (form : DossierForm) (n : Limits) (leaf : Leaf) → IsInstance n.instance → IsDay n → IsWritten n leaf → AllByRecursion AreLine (leaf_lines form n leaf)
leaf_good form n leaf h day w = (
  price_is_line leaf.prices (omega (arith, w.prices, h.parts.few_tasks)) (rec_weaker IsPrice IsWide price_wide leaf.prices w.price_range),
  rec-append AreLine (rows_lines extra_line (priced n) leaf.extras) (table_lines form n 0 leaf.tables) (extras_good n leaf.extras h w.extras) (tables_good form n 0 leaf.tables h day w.tables),
)

-- ---- nodes

claim_good : (form : DossierForm) (n : Limits) (claim : Claim Leaf) → IsInstance n.instance → IsDay n → IsWrittenClaim n claim → AllByRecursion AreLine (claim_lines form n claim)
claim_good form n Bare h day w = (bare_is_line, tt)
claim_good form n (Open leaf) h day w = (open_is_line, leaf_good form n leaf h day w)
claim_good form n (Closed leaf) h day w = (closed_is_line, leaf_good form n leaf h day w)

choice_good : (n : Limits) (choice : Choice) → IsInstance n.instance → IsDay n → CanSplit n choice → AreLine (choice_line choice)
choice_good n (choices.Window j cut) h day can = let last = last_minute n j day in window_is_line j cut (omega (arith, can.task, h.parts.few_tasks)) (omega (arith, can.late))
choice_good n (choices.Pair k j) h day can = pair_is_line k j (omega (arith, can.team, h.parts.few_teams)) (omega (arith, can.task, h.parts.few_tasks))

split_good : (form : DossierForm) (pool : List Route) (n : Limits) (u : ℕ) (split : Split) → IsInstance n.instance → length pool ≤ MOST_NUMBER → IsCauseOf form pool n u split.cause
    → AreLine (choice_line split.choice) → AllByRecursion AreLine (split_lines form split)
split_good One pool n u split h many told line = (line, tt)
split_good Two pool n u split h many told line = (line, cause_good pool n u split.cause many h.parts.few_tasks told)

nodes_good : (form : DossierForm) (pool : List Route) (n : Limits) (t : Written) (l u : ℕ) → IsInstance n.instance → IsDay n → length pool ≤ MOST_NUMBER → AreWritten n t → IsSound (tree_of n t) n l u
    → AreCaused form pool n u t → AllByRecursion AreLine (node_lines form n t)
nodes_good form pool n (LeafNode claim) l u h day many w s told = claim_good form n claim h day w
nodes_good form pool n (SplitNode split first second) l u h day many w s told =
    let choice = split.choice in
    let lines = node_lines form (child n choice First) first in
    rec-append AreLine (split_lines form split ++ lines) (node_lines form (child n choice Second) second)
    (rec-append AreLine (split_lines form split) lines (split_good form pool n u split h many told.0 (choice_good n choice h day s.0))
    (nodes_good form pool (child n choice First) first l u (child_is n choice First h) (child_day n choice First day s.0) many w.0 s.1 told.1))
    (nodes_good form pool (child n choice Second) second l u (child_is n choice Second h) (child_day n choice Second day s.0) many w.1 s.2 told.2)

-- ---- the numbers of a tree

pub tree_good : (form : DossierForm) (pool : List Route) (i : Instance) (t : Written) (l u : ℕ) → IsInstance i → length pool ≤ MOST_NUMBER → AreWritten (root_limits i) t
    → IsSound (tree_of (root_limits i) t) (root_limits i) l u → AreCaused form pool (root_limits i) u t → splits t + closed t ≤ MOST_NODES → AllByRecursion AreLine (tree_lines form i t)
tree_good form pool i t l u h many w s told few =
    let a = leaves_of t in
    let b = depth_le t in (
      tree_is_line (counts_of t) (omega arith) (omega arith) (omega arith) (omega arith),
      rec-append AreLine (node_lines form (root_limits i) t) (end_line ∷ []) (nodes_good form pool (root_limits i) t l u h (root_day i h) many w s told) (end_is_line, tt),
    )
