-- what holds of what has been read of a sheet
use Rattle.std.proofs.Common.{◌≡◌, ◌≢◌, ◌≤◌, ◌<◌, ◌+◌, ℕ, zero, suc, List, [], ◌∷◌, ◌++◌, length, get_or, ap, sym, subst, refl, ◌∙◌, arith, ◌⊎◌, inl, inr, length-append}
use Rattle.std.specs.Prelude.{ℤ, pos}
use Rattle.std.specs.List.{AllByRecursion}
use Rattle.std.proofs.lemmas.Int.{ints}
use Rattle.std.proofs.lemmas.Bool.{cases_lt, cases_eq}
use Rattle.std.proofs.lemmas.List.{get_or_append_left, get_or_past, get_or_push}
use Rattle.crew_terms.specs.Words.{Words}
use Rattle.crew_terms.specs.Instance.{Instance, task_of}
use Rattle.crew_terms.specs.Limits.{Limits, root_limits}
use Rattle.crew_terms.specs.Leaf.{HoldsLocally, HoldsPotential, IsPrice, Proves}
use Rattle.dossier_terms.specs.declared.Reason.{Reason}
use Rattle.dossier_terms.specs.Dossier.{Potentials, no_potentials, phi_in}
use Rattle.dossier_terms.specs.Ranges.{AreNumbers}
use Rattle.dossier_terms.specs.Reading.{Answer}
use Rattle.dossier_terms.specs.Reading as dossiers
use Rattle.squeeze_terms.specs.MinutePrices.{MinutePrices, AreMinutePrices, minute_price, price_at, price_count, prices_of}
use Rattle.squeeze_terms.specs.Bound.{minute_bound}
use Rattle.sheet_laws.specs.Priced.{ArePriced}
use Rattle.sheet_laws.proofs.Priced.{all_priced, none_priced, one_priced}
use Rattle.sheet_terms.specs.Rules.{Must, Holds, Fails, MustEach, HoldsOfAll, FailsAt, MustSpell, Spelled, Unspelled}
use Rattle.sheet_terms.specs.Sheet.{Sheet, worths_in}
use Rattle.sheet_terms.specs.Reading.{SheetReading, SheetAnswer, First, Head, Bounds, Prices, Worths, Steps, Ends, More, Whole, No, head_answer, head_due}
use Rattle.sheet_terms.specs.Table.{SaysOfSheet, after_price, after_steps, after_team}

-- ---- the invariants

-- the rules of team k hold by these prices
abbrev pub TeamHolds : Instance → MinutePrices → ℕ → Potentials → Type 0
TeamHolds i p k table = HoldsLocally (root_limits i) k (minute_price i p) (phi_in (root_limits i) k table) table.worth

-- so do those of the teams so far
abbrev pub TeamsHold : Sheet → Type 0
TeamsHold s = (k : ℕ) → k < length s.tables → TeamHolds s.instance s.prices k (get_or s.tables k no_potentials)

-- the prices are whole, and the rules of the teams so far hold, of which this many are left
pub record AreTeams (s : Sheet) (left : ℕ) : Type 0 where
  pub prices : AreMinutePrices s.instance s.prices
  pub teams : TeamsHold s
  pub count : length s.tables + left ≡ length s.instance.teams

-- the tasks so far have their prices, and this many are left; no team is read
pub record AreTasks (s : Sheet) (left : ℕ) : Type 0 where
  pub prices : ArePriced s.instance s.prices
  pub none : s.tables ≡ []
  pub count : length s.prices + left ≡ length s.instance.tasks

-- the rules of all teams hold, and the bound is proved
pub record IsProved (s : Sheet) : Type 0 where
  pub teams : AreTeams s 0
  pub proved : Proves (minute_bound s.instance s.prices (worths_in s.tables)) s.bound

abbrev pub SoFar : SheetReading → Type 0
SoFar First = Unit {0}
SoFar (Head s) = Unit {0}
SoFar (Bounds i budget) = Unit {0}
SoFar (Prices s left) = AreTasks s (suc left)
SoFar (Worths s left) = AreTeams s (suc left)
SoFar (Steps s left table j js) = AreTeams s (suc left)
SoFar (Ends s) = IsProved s

-- what follows from an answer
abbrev pub Follows : SheetAnswer → Type 0
Follows (More s) = SoFar s
Follows (Whole s) = IsProved s
Follows (No r) = Unit {0}

-- ---- rules

tells : (answer said : SheetAnswer) → said ≡ answer → Follows answer → Follows said
tells answer said e h = subst Follows (sym e) h

must_then : {P : Type 0} {r : Reason} {rest : SheetAnswer → Type 0} (said : SheetAnswer) → (P → rest said → Follows said) → Must P (No r) rest said → Follows said
must_then said k (Holds f o) = k f o
must_then said k (Fails b t) = tells (No _) said t tt

each_then : {n : ℕ} {P : ℕ → Type 0} {reason : ℕ → Reason} {rest : SheetAnswer → Type 0} (said : SheetAnswer) → (((j : ℕ) → j < n → P j) → rest said → Follows said)
    → MustEach n P (λ j. No (reason j)) rest said → Follows said
each_then said k (HoldsOfAll f o) = k f o
each_then {reason = reason} said k (FailsAt j l first b t) = tells (No (reason j)) said t tt

spells_then : {V : Type 0} {spell : V → Words} {In : V → Type 0} {ws : Words} {r : Reason} {rest : V → SheetAnswer → Type 0} (said : SheetAnswer)
    → ((v : V) → In v → rest v said → Follows said) → MustSpell spell In ws (No r) rest said → Follows said
spells_then said k (Spelled v i e o) = k v i o
spells_then said k (Unspelled b t) = tells (No _) said t tt

-- ---- what follows after a line

team_then : (s : Sheet) (left : ℕ) (said : SheetAnswer) → AreTeams s left → after_team s left said → Follows said
team_then s zero said h rules = must_then said (λ proved e. tells (More (Ends s)) said e (record { teams = h; proved = proved })) rules
team_then s (suc left) said h e = tells (More (Worths s left)) said e h

-- one more team
one_more : (s : Sheet) (left : ℕ) (table : Potentials) → AreTeams s (suc left) → TeamHolds s.instance s.prices (length s.tables) table → AreTeams (record s { tables = s.tables ++ table ∷ [] }) left
one_more s left table h here = record {
  prices = h.prices;
  teams = λ k l. by k l (cases_lt k (length s.tables));
  count = let e = length-append s.tables (table ∷ []) in let c = h.count in omega arith;
}
  where
    by : (k : ℕ) → k < length (s.tables ++ table ∷ []) → (k < length s.tables) ⊎ (length s.tables ≤ k) → TeamHolds s.instance s.prices k (get_or (s.tables ++ table ∷ []) k no_potentials)
    by k l (inl m) = subst (TeamHolds s.instance s.prices k) (sym (get_or_append_left s.tables (table ∷ []) no_potentials k m)) (h.teams k m)
    by k l (inr m) =
        let n = length-append s.tables (table ∷ []) in
        let e : k ≡ length s.tables = omega arith in
        subst (TeamHolds s.instance s.prices k) (sym (get_or_push s.tables table no_potentials k (sym e))) (subst (λ i. TeamHolds s.instance s.prices i table) (sym e) here)

-- the rules of the known tasks are those of all: no other has a permitted minute
known_tasks : (n : Limits) (k : ℕ) (w phi : ℕ → ℕ → ℤ) → ((j : ℕ) → j < length n.instance.tasks → HoldsPotential n k w phi j) → (j : ℕ) → HoldsPotential n k w phi j
known_tasks n k w phi h j = record {
  alone = λ t visit. (h j visit.known).alone t visit;
  step = λ t i u visit next step. (h j visit.known).step t i u visit next step;
}

steps_then : (s : Sheet) (left : ℕ) (table : Potentials) (js : List ℕ) (said : SheetAnswer) → AreTeams s (suc left) → after_steps s left table js said → Follows said
steps_then s left table [] said h rules =
    let n = root_limits s.instance in
    let k = length s.tables in
    each_then {reason = λ j. Rattle.dossier_terms.specs.declared.Reason.TheVariants.Potential k j} said (λ tasks rest. must_then said (λ worth others.
    team_then (record s { tables = s.tables ++ table ∷ [] }) left said
    (one_more s left table h (record { tasks = known_tasks n k (minute_price s.instance s.prices) (phi_in n k table) tasks; worth_rules = worth })) others) rest) rules
steps_then s left table (j ∷ js) said h e = tells (More (Steps s left table j js)) said e h

price_then : (s : Sheet) (left : ℕ) (said : SheetAnswer) → AreTasks s left → after_price s left said → Follows said
price_then s zero said h rules =
    let c = h.count in
    team_then s (length s.instance.teams) said (record {
      prices = all_priced s.instance s.prices h.prices (omega arith);
      teams = λ k l. absurd (let e = ap length h.none in omega arith);
      count = ap (λ ts. length ts + length s.instance.teams) h.none ∙ (let e : 0 + length s.instance.teams ≡ length s.instance.teams = omega arith in e);
    }) rules
price_then s (suc left) said h e = tells (More (Prices s left)) said e h

-- one more task
one_task : (s : Sheet) (left : ℕ) (vs : List ℤ) → AreTasks s (suc left) → AreNumbers IsPrice (price_count (task_of s.instance (length s.prices))) vs
    → AreTasks (record s { prices = s.prices ++ vs ∷ [] }) left
one_task s left vs h fits = record {
  prices = one_priced s.instance s.prices vs h.prices fits;
  none = h.none;
  count = let e = length-append s.prices (vs ∷ []) in let c = h.count in omega arith;
}

-- ---- what follows from a line

head_then : (said : SheetAnswer) (a : Answer) → said ≡ head_answer a → Follows said
head_then said (dossiers.More s) e = tells (More (head_due s)) said e (due s)
  where
    due : (s : dossiers.Reading) → SoFar (head_due s)
    due (dossiers.Pools form i budget) = tt
    due _ = tt
head_then said (dossiers.Whole d) e = tells (No _) said e tt
head_then said (dossiers.No r) e = tells (No r) said e tt

pub follows : (s : SheetReading) (ws : Words) (said : SheetAnswer) → SoFar s → SaysOfSheet s ws said → Follows said
follows First ws said h rules = must_then said (λ is e. tells (More _) said e tt) rules
follows (Head s) ws said h rules = head_then said rules.0 rules.2
follows (Bounds i budget) ws said h rules = must_then said (λ shape rest. spells_then said (λ l few others.
    price_then (record { instance = i; budget = budget; bound = l; prices = []; tables = [] }) (length i.tasks) said (record {
      prices = none_priced i;
      none = refl;
      count = omega arith;
    }) others) rest) rules
follows (Prices s left) ws said h rules = must_then said (λ shape rest. spells_then said (λ vs fits others.
    price_then (record s { prices = s.prices ++ vs ∷ [] }) left said (one_task s left vs h fits) others) rest) rules
follows (Worths s left) ws said h rules = must_then said (λ shape rest. spells_then said (λ worth fits others. steps_then s left _ _ said h others) rest) rules
follows (Steps s left table j js) ws said h rules = must_then said (λ shape rest. spells_then said (λ runs fits rest2. must_then said (λ are others.
    steps_then s left _ js said h others) rest2) rest) rules
follows (Ends s) ws said h rules = must_then said (λ is e. tells (Whole s) said e h) rules
