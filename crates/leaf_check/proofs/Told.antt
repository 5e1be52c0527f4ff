-- what is said of a line, and what the reader then stands for
use Rattle.std.proofs.Common.{◌≡◌, ◌<◌, ◌+◌, ℕ, zero, suc, List, [], ◌∷◌, ◌++◌, length, get_or, take, ap, sym, subst, refl, ◌∙◌, arith, Bool, true, length-append}
use Rattle.std.specs.Prelude.{ℤ, pos, ◌≤ℤ◌, ◌+ℤ◌, Result, Ok, Err}
use Rattle.std.specs.Result.{IsErrAnd}
use Rattle.std.proofs.lemmas.List.{map-append, take_more}
use Rattle.std.proofs.lemmas.Result.{err_from_is_err_and}
use Rattle.std.proofs.Math.Seq.{take-length}
use Rattle.crew_terms.specs.Limits.{Limits, IsPermittedVisit, tasks_in, teams_in}
use Rattle.crew_terms.specs.Leaf.{Prices as TaskPrices, Proves, bound_of, reward, HoldsPotential, HoldsWorth, earned}
use Rattle.crew_terms.specs.Plan.{unassigned_count}
use Rattle.dossier_terms.specs.declared.Reason.{Reason}
use Rattle.dossier_terms.specs.declared.Reason.TheVariants.{Bound, Potential, Worth as LowWorth}
use Rattle.dossier_terms.specs.Dossier.{Leaf, Potentials, phi_in, prices_of, worths_of}
use Rattle.dossier_terms.specs.Reading.{Reading, Answer, More as Goes, No as Refuses, Extras, Worths, Phis, limits_of, leaf_done, LeafSite}
use Rattle.dossier_terms.specs.Rules.{Holds, Fails, HoldsOfAll, FailsAt, On}
use Rattle.dossier_terms.specs.Table.{Says}
use Rattle.dossier_terms.specs.LeafTable.{after_extra, after_phi, after_table, extra_row, price_row, table_row, worth_row}
use Rattle.potentials.specs.Table.{phi}
use Rattle.potentials.specs.Rules.{IsLocalVerdict}
use Rattle.potentials.specs.declared.rules.LocalVerdict.TheVariants as verdicts
use Rattle.cert_format.specs.Expected.{expect_of}
use Rattle.line_in.specs.Faults.{reason_for}
use Rattle.cert_format.specs.Lines.{IsFaultOf}
use Rattle.line_in.specs.declared.faults.LineFault.{LineFault}
use Rattle.leaf_check.specs.Keys.{IsExtraDue, IsPhiDue}
use Rattle.leaf_check.specs.Reader.{HasReadLeaf, HasReadUpTo, HasPotentials, StandsFor, AtPrices, AtExtras, AtWorths, AtPhis, LeafTells, TellsMore, TellsDone, TellsNo, priced_leaf}
use Rattle.crew_terms.specs.Words.{Words}
use Rattle.leaf_check.specs.declared.reader.LeafDue.{LeafDue}
use Rattle.leaf_check.specs.declared.reader.LeafDue.TheVariants as due
use Rattle.leaf_check.specs.declared.reader.LeafReader.{LeafReader}
use Rattle.leaf_check.specs.declared.reader.LeafStep.{LeafStep}
use Rattle.leaf_check.specs.declared.reader.LeafStep.TheVariants.{More, Done}

-- the table of lines refuses each line with a fault
abbrev pub FaultsAreRefused : Type 0
FaultsAreRefused = (due : Reading) (ws : Words) (fault : LineFault) → IsFaultOf (expect_of due) ws fault → Says due ws (Refuses (reason_for fault))

-- what some rules tell is told by the rules that they are the rest of
pub tells_rest : (a : LeafSite) (Rest Rules : Answer → Type 0) (step : Result LeafStep Reason) (new : LeafReader) → ((said : Answer) → Rest said → Rules said) → LeafTells a Rest step new → LeafTells a Rules step new
tells_rest a Rest Rules step new f (TellsMore next says stands is) = TellsMore next (f (Goes next) says) stands is
tells_rest a Rest Rules step new f (TellsDone leaf says is) = TellsDone leaf (f (Goes (leaf_done a leaf)) says) is
tells_rest a Rest Rules step new f (TellsNo reason says is) = TellsNo reason (f (Refuses reason) says) is

-- a fault of the line that is due is refused for its reason
pub tells_fault : (a : LeafSite) (due : Reading) (ws : Words) (fault : LineFault) (step : Result LeafStep Reason) (new : LeafReader)
    → FaultsAreRefused → IsErrAnd step (λ reason. reason ≡ reason_for fault) → IsFaultOf (expect_of due) ws fault → LeafTells a (Says due ws) step new
tells_fault a due ws fault step new law told is =
    let p = err_from_is_err_and step told in
    TellsNo p.0 (subst (λ reason. Says due ws (Refuses reason)) (sym p.2) (law due ws fault is)) p.1

-- ---- a line is due

pub extra_due : (a : LeafSite) (n : Limits) (r : LeafReader) (prices : List ℤ) (rows : List (List ℤ)) (j : ℕ) (js all : List ℕ) → limits_of a ≡ n → r.due ≡ due.Extra j
    → HasReadLeaf n r (priced_leaf prices rows) → all ≡ j ∷ js → IsExtraDue n rows j js → LeafTells a (after_extra a (priced_leaf prices rows) all) (Ok More) r
extra_due a n r prices rows j js all e line read keys row =
    subst (λ ks. LeafTells a (after_extra a (priced_leaf prices rows) ks) (Ok More) r) (sym keys)
    (TellsMore (Extras a (priced_leaf prices rows) j js) (On refl)
    (AtExtras prices rows j js line (subst (λ m. HasReadLeaf m r (priced_leaf prices rows)) (sym e) read) (subst (λ m. IsExtraDue m rows j js) (sym e) row) refl) refl)

pub phi_due : (a : LeafSite) (n : Limits) (r : LeafReader) (leaf : Leaf) (team left : ℕ) (table : Potentials) (j : ℕ) (js all : List ℕ) → limits_of a ≡ n → r.due ≡ due.Phi team j
    → HasReadUpTo n r leaf team (suc left) → HasPotentials n r team table j → all ≡ j ∷ js → IsPhiDue n team table.phi j js
    → LeafTells a (after_phi a leaf left table all) (Ok More) r
phi_due a n r leaf team left table j js all e line upto potentials keys row =
    subst (λ ks. LeafTells a (after_phi a leaf left table ks) (Ok More) r) (sym keys)
    (TellsMore (Phis a leaf left table j js) (On refl)
    (AtPhis leaf left table j js
    (line ∙ ap (λ k. due.Phi k j) (sym upto.count))
    (subst (λ m. HasReadLeaf m r leaf) (sym e) upto.read)
    (ap (λ k. k + suc left) upto.count ∙ upto.teams ∙ ap teams_in (sym e))
    (subst (λ k. HasPotentials (limits_of a) r k table j) (sym upto.count) (subst (λ m. HasPotentials m r team table j) (sym e) potentials))
    (subst (λ k. IsPhiDue (limits_of a) k table.phi j js) (sym upto.count) (subst (λ m. IsPhiDue m team table.phi j js) (sym e) row))
    refl) refl)

-- where teams are left
pub worth_due : (a : LeafSite) (n : Limits) (r : LeafReader) (leaf : Leaf) (team left : ℕ) → limits_of a ≡ n → r.due ≡ due.Worth team
    → HasReadUpTo n r leaf team left → team < teams_in n → LeafTells a (after_table a leaf left) (Ok More) r
worth_due a n r leaf team zero e line upto less = let teams = upto.teams in absurd (omega arith)
worth_due a n r leaf team (suc left) e line upto less =
    TellsMore (Worths a leaf left) (On refl)
    (AtWorths leaf left (line ∙ ap due.Worth (sym upto.count)) (subst (λ m. HasReadLeaf m r leaf) (sym e) upto.read) (ap (λ k. k + suc left) upto.count ∙ upto.teams ∙ ap teams_in (sym e)) refl) refl

-- ---- the end of a leaf

-- the bound of the kept prices and worths is the one of the leaf
pub bound_at : (a : LeafSite) (n : Limits) (r : LeafReader) (leaf : Leaf) (worths : List ℤ) → limits_of a ≡ n → HasReadLeaf n r leaf → length leaf.tables ≡ teams_in n → length r.worths.items ≡ teams_in n
    → worths ≡ r.worths.items → bound_of n r.prices worths ≡ bound_of (limits_of a) (prices_of (limits_of a) leaf) (worths_of leaf)
bound_at a n r leaf worths e read count all is =
    ap (λ p. bound_of n p worths) read.prices
    ∙ ap (bound_of n (prices_of n leaf)) (is ∙ sym (take-length r.worths.items) ∙ ap (λ k. take k r.worths.items) (all ∙ sym count) ∙ read.worths)
    ∙ ap (λ m. bound_of m (prices_of m leaf) (worths_of leaf)) (sym e)

module _ (a : LeafSite) (n : Limits) (r : LeafReader) (leaf : Leaf) (bound unassigned : ℕ) (closed : Bool) (e : limits_of a ≡ n)
    (b : bound ≡ a.begun.bound) (u : unassigned ≡ unassigned_count a.begun.plan) (c : closed ≡ a.is_closed) (proved : ℤ) (is : proved ≡ bound_of (limits_of a) (prices_of (limits_of a) leaf) (worths_of leaf)) where
  at_site : (l m : ℕ) → l ≡ m → Proves proved l → Proves (bound_of (limits_of a) (prices_of (limits_of a) leaf) (worths_of leaf)) m
  at_site l m f h = subst (Proves (bound_of (limits_of a) (prices_of (limits_of a) leaf) (worths_of leaf))) f (subst (λ x. Proves x l) is h)

  of_site : (l m : ℕ) → l ≡ m → Proves (bound_of (limits_of a) (prices_of (limits_of a) leaf) (worths_of leaf)) m → Proves proved l
  of_site l m f h = subst (λ x. Proves x l) (sym is) (subst (Proves (bound_of (limits_of a) (prices_of (limits_of a) leaf) (worths_of leaf))) (sym f) h)

  pub bound_fails : (Proves proved bound → ⊥) → LeafTells a (after_table a leaf 0) (Err Bound) r
  bound_fails f = TellsNo Bound (Fails (λ h. f (of_site bound a.begun.bound b h)) refl) refl

  pub closed_fails : Proves proved bound → closed ≡ true → (Proves proved unassigned → ⊥) → LeafTells a (after_table a leaf 0) (Err Bound) r
  closed_fails h t f = TellsNo Bound (Holds (at_site bound a.begun.bound b h) (Fails (λ g. f (of_site unassigned (unassigned_count a.begun.plan) u (g (sym c ∙ t)))) refl)) refl

  pub leaf_ends : Proves proved bound → (closed ≡ true → Proves proved unassigned) → LeafTells a (after_table a leaf 0) (Ok Done) r
  leaf_ends h g = TellsDone leaf (Holds (at_site bound a.begun.bound b h) (Holds (λ t. at_site unassigned (unassigned_count a.begun.plan) u (g (c ∙ t))) (On refl))) refl

-- ---- the rules of a team

module _ (n : Limits) (p : TaskPrices) (k : ℕ) (f g : ℕ → ℕ → ℤ) (same : (j t : ℕ) → IsPermittedVisit n k j t → f j t ≡ g j t) where
  pub same_potential : (j : ℕ) → HoldsPotential n k (earned p k) f j → HoldsPotential n k (earned p k) g j
  same_potential j h = record {
    alone = λ t v. subst (λ x. reward p k j ≤ℤ x) (same j t v) (h.alone t v);
    step = λ t i u v w s. subst (λ x. (reward p k j +ℤ x) ≤ℤ g j t) (same i u w) (subst (λ x. (reward p k j +ℤ f i u) ≤ℤ x) (same j t v) (h.step t i u v w s));
  }

  pub same_worth : (worth : ℤ) → HoldsWorth n k f worth → HoldsWorth n k g worth
  same_worth worth h = record { most = λ j t v. subst (λ x. x ≤ℤ worth) (same j t v) (h.most j t v); idle = h.idle }

-- a leaf with one more table
abbrev pub with_table : Leaf → Potentials → Leaf
with_table leaf table = record { prices = leaf.prices; extras = leaf.extras; tables = leaf.tables ++ table ∷ [] }

pub read_table : (n : Limits) (r : LeafReader) (leaf : Leaf) (table : Potentials) (team : ℕ) → length leaf.tables ≡ team → team < length r.worths.items
    → get_or r.worths.items team (pos 0) ≡ table.worth → HasReadLeaf n r leaf → HasReadLeaf n r (with_table leaf table)
read_table n r leaf table team count short worth read = record {
  prices = read.prices;
  worths =
      ap (λ k. take k r.worths.items) (length-append leaf.tables (table ∷ []))
      ∙ take_more r.worths.items (length leaf.tables) (pos 0) (omega arith)
      ∙ ap (λ xs. xs ++ get_or r.worths.items (length leaf.tables) (pos 0) ∷ []) read.worths
      ∙ ap (λ k. worths_of leaf ++ get_or r.worths.items k (pos 0) ∷ []) count
      ∙ ap (λ w. worths_of leaf ++ w ∷ []) worth
      ∙ sym (map-append (λ (t : Potentials). t.worth) leaf.tables (table ∷ []));
}

module _ (a : LeafSite) (n : Limits) (r : LeafReader) (leaf : Leaf) (team left : ℕ) (table : Potentials) (worth : ℤ) (e : limits_of a ≡ n) (count : length leaf.tables ≡ team)
    (read : HasReadLeaf n r leaf) (potentials : HasPotentials n r team table (tasks_in n)) (is : worth ≡ table.worth) where
  -- the rules at the kept potentials are those at the potentials of the table
  to_table : (j t : ℕ) → IsPermittedVisit n team j t → phi r.table j t ≡ phi_in n team table j t
  to_table j t v = potentials.phi j t v.known v

  from_table : (j t : ℕ) → IsPermittedVisit n team j t → phi_in n team table j t ≡ phi r.table j t
  from_table j t v = sym (to_table j t v)

  abbrev pub Rules : Limits → ℕ → Answer → Type 0
  Rules m k = after_phi a leaf left table []

  potential_to : (j : ℕ) → HoldsPotential n team (earned r.prices team) (phi r.table) j → HoldsPotential n team (earned (prices_of n leaf) team) (phi_in n team table) j
  potential_to j h = subst (λ p. HoldsPotential n team (earned p team) (phi_in n team table) j) read.prices (same_potential n r.prices team (phi r.table) (phi_in n team table) to_table j h)

  potential_from : (j : ℕ) → HoldsPotential n team (earned (prices_of n leaf) team) (phi_in n team table) j → HoldsPotential n team (earned r.prices team) (phi r.table) j
  potential_from j h = same_potential n r.prices team (phi_in n team table) (phi r.table) from_table j (subst (λ p. HoldsPotential n team (earned p team) (phi_in n team table) j) (sym read.prices) h)

  worth_to : HoldsWorth n team (phi r.table) worth → HoldsWorth n team (phi_in n team table) table.worth
  worth_to h = subst (HoldsWorth n team (phi_in n team table)) is (same_worth n r.prices team (phi r.table) (phi_in n team table) to_table worth h)

  worth_from : HoldsWorth n team (phi_in n team table) table.worth → HoldsWorth n team (phi r.table) worth
  worth_from h = same_worth n r.prices team (phi_in n team table) (phi r.table) from_table worth (subst (HoldsWorth n team (phi_in n team table)) (sym is) h)

  -- a fact of the table's rules at the site's limits and its number of teams, from the one at these
  abbrev pub PotentialAt : Limits → ℕ → ℕ → Type 0
  PotentialAt m k j = HoldsPotential m k (earned (prices_of m leaf) k) (phi_in m k table) j

  abbrev pub WorthAt : Limits → ℕ → Type 0
  WorthAt m k = HoldsWorth m k (phi_in m k table) table.worth

  potential_up : (j : ℕ) → PotentialAt n team j → PotentialAt (limits_of a) (length leaf.tables) j
  potential_up j h = subst (λ k. PotentialAt (limits_of a) k j) (sym count) (subst (λ m. PotentialAt m team j) (sym e) h)

  potential_down : (j : ℕ) → PotentialAt (limits_of a) (length leaf.tables) j → PotentialAt n team j
  potential_down j h = subst (λ m. PotentialAt m team j) e (subst (λ k. PotentialAt (limits_of a) k j) count h)

  worth_up : WorthAt n team → WorthAt (limits_of a) (length leaf.tables)
  worth_up h = subst (WorthAt (limits_of a)) (sym count) (subst (λ m. WorthAt m team) (sym e) h)

  worth_down : WorthAt (limits_of a) (length leaf.tables) → WorthAt n team
  worth_down h = subst (λ m. WorthAt m team) e (subst (WorthAt (limits_of a)) count h)

  all_potentials : ((j : ℕ) → HoldsPotential n team (earned r.prices team) (phi r.table) j) → (j : ℕ) → j < tasks_in (limits_of a) → PotentialAt (limits_of a) (length leaf.tables) j
  all_potentials h j l = potential_up j (potential_to j (h j))

  pub team_low : (j : ℕ) → IsLocalVerdict n team (earned r.prices team) (phi r.table) worth (verdicts.Low j) → LeafTells a (Rules n team) (Err (Potential team j)) r
  team_low j h = TellsNo (Potential team j)
      (FailsAt j (subst (λ m. j < tasks_in m) (sym e) h.0) (λ i l. potential_up i (potential_to i (h.1 i l))) (λ g. h.2 (potential_from j (potential_down j g))) (ap (λ k. Refuses (Potential k j)) (sym count))) refl

  pub team_worth : IsLocalVerdict n team (earned r.prices team) (phi r.table) worth verdicts.Worth → LeafTells a (Rules n team) (Err (LowWorth team)) r
  team_worth h = TellsNo (LowWorth team)
      (HoldsOfAll (all_potentials h.0) (Fails (λ g. h.1 (worth_from (worth_down g))) (ap (λ k. Refuses (LowWorth k)) (sym count)))) refl

  pub team_holds : (step : Result LeafStep Reason) (new : LeafReader) → IsLocalVerdict n team (earned r.prices team) (phi r.table) worth verdicts.Holds
      → LeafTells a (after_table a (with_table leaf table) left) step new → LeafTells a (Rules n team) step new
  team_holds step new h told = tells_rest a (after_table a (with_table leaf table) left) (Rules n team) step new
      (λ said others. HoldsOfAll (all_potentials h.tasks) (Holds (worth_up (worth_to h.worth_rules)) others)) told

-- ---- the row of the table that is due

other_line : {P : Type 0} (r : LeafReader) (x y : LeafDue) → r.due ≡ x → r.due ≡ y → (x ≡ y → ⊥) → P
other_line r x y e f differ = absurd (differ (sym e ∙ f))

pub at_price : (a : LeafSite) (r new : LeafReader) (s : Reading) (ws : Words) (step : Result LeafStep Reason) → r.due ≡ due.Price → StandsFor a r s
    → LeafTells a (price_row a ws) step new → LeafTells a (Says s ws) step new
at_price a r new s ws step e (AtPrices line is) told = subst (λ s. LeafTells a (Says s ws) step new) (sym is) told
at_price a r new s ws step e (AtExtras prices rows j js line read row is) told = other_line r due.Price (due.Extra j) e line (λ f. cc)
at_price a r new s ws step e (AtWorths leaf left line read teams is) told = other_line r due.Price (due.Worth (length leaf.tables)) e line (λ f. cc)
at_price a r new s ws step e (AtPhis leaf left table j js line read teams potentials row is) told = other_line r due.Price (due.Phi (length leaf.tables) j) e line (λ f. cc)

pub at_extra : (a : LeafSite) (n : Limits) (r new : LeafReader) (s : Reading) (ws : Words) (step : Result LeafStep Reason) (task : ℕ) → limits_of a ≡ n → r.due ≡ due.Extra task → StandsFor a r s
    → ((prices : List ℤ) (rows : List (List ℤ)) (js : List ℕ) → HasReadLeaf n r (priced_leaf prices rows) → IsExtraDue n rows task js → LeafTells a (extra_row a (priced_leaf prices rows) task js ws) step new)
    → LeafTells a (Says s ws) step new
at_extra a n r new s ws step task l e (AtPrices line is) told = other_line r (due.Extra task) due.Price e line (λ f. cc)
at_extra a n r new s ws step task l e (AtExtras prices rows j js line read row is) told =
    let same : j ≡ task = (let f = line in let g = e in cc) in
    subst (λ s. LeafTells a (Says s ws) step new) (sym (is ∙ ap (λ i. Extras a (priced_leaf prices rows) i js) same))
    (told prices rows js (subst (λ m. HasReadLeaf m r (priced_leaf prices rows)) l read)
    (subst (λ i. IsExtraDue n rows i js) same (subst (λ m. IsExtraDue m rows j js) l row)))
at_extra a n r new s ws step task l e (AtWorths leaf left line read teams is) told = other_line r (due.Extra task) (due.Worth (length leaf.tables)) e line (λ f. cc)
at_extra a n r new s ws step task l e (AtPhis leaf left table j js line read teams potentials row is) told = other_line r (due.Extra task) (due.Phi (length leaf.tables) j) e line (λ f. cc)

pub at_worth : (a : LeafSite) (n : Limits) (r new : LeafReader) (s : Reading) (ws : Words) (step : Result LeafStep Reason) (team : ℕ) → limits_of a ≡ n → r.due ≡ due.Worth team → StandsFor a r s
    → ((leaf : Leaf) (left : ℕ) → HasReadUpTo n r leaf team (suc left) → LeafTells a (worth_row a leaf left ws) step new)
    → LeafTells a (Says s ws) step new
at_worth a n r new s ws step team l e (AtPrices line is) told = other_line r (due.Worth team) due.Price e line (λ f. cc)
at_worth a n r new s ws step team l e (AtExtras prices rows j js line read row is) told = other_line r (due.Worth team) (due.Extra j) e line (λ f. cc)
at_worth a n r new s ws step team l e (AtWorths leaf left line read teams is) told =
    let same : length leaf.tables ≡ team = (let f = line in let g = e in cc) in
    subst (λ s. LeafTells a (Says s ws) step new) (sym is)
    (told leaf left (record { read = subst (λ m. HasReadLeaf m r leaf) l read; count = same; teams = ap (λ k. k + suc left) (sym same) ∙ teams ∙ ap teams_in l }))
at_worth a n r new s ws step team l e (AtPhis leaf left table j js line read teams potentials row is) told = other_line r (due.Worth team) (due.Phi (length leaf.tables) j) e line (λ f. cc)

pub at_phi : (a : LeafSite) (n : Limits) (r new : LeafReader) (s : Reading) (ws : Words) (step : Result LeafStep Reason) (team task : ℕ) → limits_of a ≡ n → r.due ≡ due.Phi team task → StandsFor a r s
    → ((leaf : Leaf) (left : ℕ) (table : Potentials) (js : List ℕ) → HasReadUpTo n r leaf team (suc left) → HasPotentials n r team table task
    → IsPhiDue n team table.phi task js → LeafTells a (table_row a leaf left table task js ws) step new)
    → LeafTells a (Says s ws) step new
at_phi a n r new s ws step team task l e (AtPrices line is) told = other_line r (due.Phi team task) due.Price e line (λ f. cc)
at_phi a n r new s ws step team task l e (AtExtras prices rows j js line read row is) told = other_line r (due.Phi team task) (due.Extra j) e line (λ f. cc)
at_phi a n r new s ws step team task l e (AtWorths leaf left line read teams is) told = other_line r (due.Phi team task) (due.Worth (length leaf.tables)) e line (λ f. cc)
at_phi a n r new s ws step team task l e (AtPhis leaf left table j js line read teams potentials row is) told =
    let k = length leaf.tables in
    let same : k ≡ team = (let f = line in let g = e in cc) in
    let here : j ≡ task = (let f = line in let g = e in cc) in
    let p : HasPotentials n r k table j = subst (λ m. HasPotentials m r k table j) l potentials in
    let q : IsPhiDue n k table.phi j js = subst (λ m. IsPhiDue m k table.phi j js) l row in
    subst (λ s. LeafTells a (Says s ws) step new) (sym (is ∙ ap (λ i. Phis a leaf left table i js) here))
    (told leaf left table js (record { read = subst (λ m. HasReadLeaf m r leaf) l read; count = same; teams = ap (λ k. k + suc left) (sym same) ∙ teams ∙ ap teams_in l })
    (subst (HasPotentials n r team table) here (subst (λ k. HasPotentials n r k table j) same p))
    (subst (λ i. IsPhiDue n team table.phi i js) here (subst (λ k. IsPhiDue n k table.phi j js) same q)))
