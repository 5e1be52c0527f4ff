-- one thing is said of a line of a sheet
use Rattle.std.proofs.Common.{◌≡◌, ◌<◌, ◌≤◌, ◌+◌, ℕ, zero, suc, ℤ, List, [], ◌∷◌, ◌++◌, length, drop, ap, sym, refl, ◌∙◌, subst, arith, ◌⊎◌, inl, inr}
use Rattle.std.specs.Prelude.{map}
use Rattle.std.specs.Fmt.{decimal, signed_decimal}
use Rattle.std.proofs.lemmas.Bool.{cases_lt}
use Rattle.std.proofs.lemmas.Fmt.{decimal_injective}
use Rattle.crew_terms.specs.Words.{Words}
use Rattle.crew_terms.specs.declared.TheConstants.{MOST_TASKS}
use Rattle.dossier_terms.specs.declared.DossierForm.TheVariants.{Two}
use Rattle.dossier_terms.specs.Dossier.{Potentials}
use Rattle.dossier_terms.specs.Lines.{form_line}
use Rattle.dossier_terms.specs.Reading.{Reading, Form, Sizes}
use Rattle.dossier_terms.specs.Rules as dossiers
use Rattle.dossier_terms.specs.Table.{Reaches}
use Rattle.sheet_terms.specs.Lines.{bound_line}
use Rattle.sheet_terms.specs.Reading.{SheetReading, SheetAnswer, First, Head, Bounds, Prices, Worths, Steps, Ends, head_answer}
use Rattle.sheet_terms.specs.Rules.{Must, Holds, Fails, MustEach, HoldsOfAll, FailsAt, MustSpell, Spelled, Unspelled}
use Rattle.sheet_terms.specs.Sheet.{Sheet}
use Rattle.sheet_terms.specs.Table.{SaysOfSheet, Tells, after_price, after_steps, after_team}
use Rattle.sheet_reads.proofs.Laws.{Apart, SaysOne}
use Rattle.sheet_reads.proofs.SoFar.{SoFar}

abbrev pub Single : (SheetAnswer → Type 0) → Type 0
Single R = (a b : SheetAnswer) → R a → R b → a ≡ b

tells_one : {answer : SheetAnswer} → Single (Tells answer)
tells_one a b e f = e ∙ sym f

must_one : {P : Type 0} {refused : SheetAnswer} {rest : SheetAnswer → Type 0} → Single rest → Single (Must P refused rest)
must_one one a b (Holds f o) (Holds g p) = one a b o p
must_one one a b (Holds f o) (Fails g t) = absurd (g f)
must_one one a b (Fails g t) (Holds f o) = absurd (g f)
must_one one a b (Fails g t) (Fails h u) = t ∙ sym u

-- the first at which a fact doesn't hold
one_first : (P : ℕ → Type 0) (i j : ℕ) → ((k : ℕ) → k < i → P k) → (P i → ⊥) → ((k : ℕ) → k < j → P k) → (P j → ⊥) → i ≡ j
one_first P i j before broken below fails = at (cases_lt i j) (cases_lt j i)
  where
    at : (i < j) ⊎ (j ≤ i) → (j < i) ⊎ (i ≤ j) → i ≡ j
    at (inl l) d = absurd (broken (below i l))
    at (inr l) (inl m) = absurd (fails (before j m))
    at (inr l) (inr m) = omega arith

each_one : {n : ℕ} {P : ℕ → Type 0} {refused : ℕ → SheetAnswer} {rest : SheetAnswer → Type 0} → Single rest → Single (MustEach n P refused rest)
each_one one a b (HoldsOfAll f o) (HoldsOfAll g p) = one a b o p
each_one one a b (HoldsOfAll f o) (FailsAt j l first g t) = absurd (g (f j l))
each_one one a b (FailsAt j l first g t) (HoldsOfAll f o) = absurd (g (f j l))
each_one {P = P} {refused = refused} one a b (FailsAt i l first g t) (FailsAt j m before h u) = t ∙ ap refused (one_first P i j first g before h) ∙ sym u

spells_one : {V : Type 0} {spell : V → Words} {In : V → Type 0} {words : Words} {refused : SheetAnswer} {rest : V → SheetAnswer → Type 0}
    → ((x y : V) → In x → In y → spell x ≡ spell y → x ≡ y) → ((x : V) → In x → Single (rest x)) → Single (MustSpell spell In words refused rest)
spells_one {rest = rest} only one a b (Spelled x i e o) (Spelled y j f p) = one y j a b (subst (λ z. rest z a) (only x y i j (sym e ∙ f)) o) p
spells_one only one a b (Spelled x i e o) (Unspelled g t) = absurd (g x i e)
spells_one only one a b (Unspelled g t) (Spelled x i e o) = absurd (g x i e)
spells_one only one a b (Unspelled g t) (Unspelled h u) = t ∙ sym u

-- ---- what is said after a line

team_one : (s : Sheet) (left : ℕ) → Single (after_team s left)
team_one s zero = must_one tells_one
team_one s (suc left) = tells_one

steps_one : (s : Sheet) (left : ℕ) (table : Potentials) (keys : List ℕ) → Single (after_steps s left table keys)
steps_one s left table [] = each_one (must_one (team_one (record s { tables = s.tables ++ table ∷ [] }) left))
steps_one s left table (j ∷ js) = tells_one

price_one : (s : Sheet) (left : ℕ) → Single (after_price s left)
price_one s zero = team_one s (length s.instance.teams)
price_one s (suc left) = tells_one

-- ---- the rows

bound_one : (n : ℕ) → n ≤ MOST_TASKS → (x y : ℕ) → x ≤ n → y ≤ n → bound_line x ≡ bound_line y → x ≡ y
bound_one n few x y a b e = let f : decimal x ≡ decimal y = cc in decimal_injective x y (omega arith) (omega arith) f

-- the lines of an instance, behind the first line of a dossier
reached_head : (head : List Words) (s : Reading) → Reaches (Sizes Two) head s → Reaches Form (form_line Two ∷ head) s
reached_head head s h = (Sizes Two, dossiers.Spelled Two tt refl (dossiers.On refl), h)

pub says_one : SaysOne → Apart → (lines : List Words) (s : SheetReading) (ws : Words) → SoFar lines s → Single (SaysOfSheet s ws)
says_one one apart lines First ws r = must_one tells_one
says_one one apart lines (Head s) ws r = λ a b h k.
    h.2 ∙ ap head_answer (one (form_line Two ∷ r.0) s ws h.0 k.0 (reached_head r.0 s r.2) h.1 k.1) ∙ sym k.2
says_one one apart lines (Bounds i budget) ws r = must_one (spells_one (bound_one (length i.tasks) r.2.instance.parts.few_tasks) (λ l h. price_one (record { instance = i; budget = budget; bound = l; prices = []; tables = [] }) (length i.tasks)))
says_one one apart lines (Prices s left) ws r = must_one (spells_one (λ x y h k e. apart.prices _ x y h k (ap (drop 2) e)) (λ vs h. price_one (record s { prices = s.prices ++ vs ∷ [] }) left))
says_one one apart lines (Worths s left) ws r = must_one (spells_one apart.worths (λ v h. steps_one s left (record { worth = v; phi = [] }) _))
says_one one apart lines (Steps s left table j js) ws r = must_one (spells_one (apart.runs j) (λ runs h. must_one (steps_one s left _ js)))
says_one one apart lines (Ends s) ws r = must_one tells_one
