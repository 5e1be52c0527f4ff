-- one thing is said of a line
use Rattle.std.proofs.Common.{◌≡◌, ◌<◌, ◌≤◌, ◌+◌, ℕ, zero, suc, ℤ, List, [], ◌∷◌, ◌++◌, length, ap, sym, ◌∙◌, subst, arith, ◌⊎◌, inl, inr}
use Rattle.std.proofs.lemmas.Bool.{cases_lt}
use Rattle.crew_terms.specs.Instance.{Instance}
use Rattle.crew_terms.specs.Plan.{Plan}
use Rattle.crew_terms.specs.Verdict.{IsVerdict}
use Rattle.crew_terms.specs.declared.PlanVerdict.{PlanVerdict}
use Rattle.dossier_terms.specs.declared.Reason.{Reason}
use Rattle.dossier_terms.specs.declared.Reason.TheVariants.{Plan as BadPlan}
use Rattle.dossier_terms.specs.declared.DossierForm.{DossierForm}
use Rattle.dossier_terms.specs.declared.DossierForm.TheVariants.{One, Two}
use Rattle.dossier_terms.specs.Dossier.{Dossier, Leaf, Potentials}
use Rattle.dossier_terms.specs.Runs.{values_of}
use Rattle.crew_terms.specs.Limits.{Limits}
use Rattle.crew_terms.specs.Minutes.{first_minute, minute_count}
use Rattle.crew_terms.specs.Words.{Words}
use Rattle.dossier_terms.specs.Reading.{Reading, Answer, No, Form, Sizes, Places, Travels, Teams, Tasks, Frozens, Keeps, Pools, Routes, Plans, Jobs, Trees, Nodes, Whys, Parts, Spares, Prices, Extras, Worths, Phis, Ends, Begun, Opening, LeafSite, limits_of}
use Rattle.dossier_terms.specs.Rules.{Must, Holds, Fails, MustEach, HoldsOfAll, FailsAt, MustBy, HoldsBy, FailsBy, When, Then, Else, MustSpell, Spelled, Unspelled, Goes, On}
use Rattle.dossier_terms.specs.Table.{Says, Finishes, Finish}
use Rattle.dossier_terms.specs.BodyTable.{BreaksPlan, after_job}
use Rattle.dossier_terms.specs.CauseTable.{tasks_at}
use Rattle.dossier_terms.specs.HeadTable.{after_keep}
use Rattle.dossier_terms.specs.LeafTable.{after_table, after_phi, after_extra, potentials_row}
use Rattle.dossier_terms.specs.Apart.{form_one}
use Rattle.dossier_laws.proofs.SoFar.{IsReading}
use Rattle.dossier_laws.proofs.Spellings.{size_one, name_one, travel_one, team_one, task_one, pool_one, plan_one, window_one, node_pair_one, tree_one, route_one, do_one, prices_one, signed_one, worth_one, frozen_one, keep_one, steps_one}
use Rattle.dossier_laws.proofs.CauseSpellings.{loose_one, share_one, spare_one, overflow_one, spent_one}
use Rattle.dossier_laws.proofs.HeadReads.{parts_whole}

abbrev pub Single : (Answer → Type 0) → Type 0
Single R = (a b : Answer) → R a → R b → a ≡ b

must_one : {P : Type 0} {r : Reason} {rest : Answer → Type 0} → Single rest → Single (Must P r rest)
must_one one a b (Holds f o) (Holds g p) = one a b o p
must_one one a b (Holds f o) (Fails g t) = absurd (g f)
must_one one a b (Fails g t) (Holds f o) = absurd (g f)
must_one one a b (Fails g t) (Fails h u) = t ∙ sym u

-- the first at which a fact doesn't hold
one_first : (P : ℕ → Type 0) (i j : ℕ) → ((k : ℕ) → k < i → P k) → (P i → ⊥) → ((k : ℕ) → k < j → P k) → (P j → ⊥) → i ≡ j
one_first P i j before broken below fails = at (cases_lt i j) (cases_lt j i)
  where
    at : (i < j) ⊎ (j ≤ i) → (j < i) ⊎ (i ≤ j) → i ≡ j
    at (inl l) d = absurd (broken (below i l))
    at (inr l) (inl m) = absurd (fails (before j m))
    at (inr l) (inr m) = omega arith

each_one : {n : ℕ} {P : ℕ → Type 0} {reason : ℕ → Reason} {rest : Answer → Type 0} → Single rest → Single (MustEach n P reason rest)
each_one one a b (HoldsOfAll f o) (HoldsOfAll g p) = one a b o p
each_one one a b (HoldsOfAll f o) (FailsAt j l first g t) = absurd (g (f j l))
each_one one a b (FailsAt j l first g t) (HoldsOfAll f o) = absurd (g (f j l))
each_one {P = P} {reason = reason} one a b (FailsAt i l first g t) (FailsAt j m before h u) = t ∙ ap (λ k. No (reason k)) (one_first P i j first g before h) ∙ sym u

by_one : {P : Type 0} {Breaks : Reason → Type 0} {rest : Answer → Type 0} → ((r q : Reason) → Breaks r → Breaks q → r ≡ q) → Single rest → Single (MustBy P Breaks rest)
by_one reasons one a b (HoldsBy f o) (HoldsBy g p) = one a b o p
by_one reasons one a b (HoldsBy f o) (FailsBy r how g t) = absurd (g f)
by_one reasons one a b (FailsBy r how g t) (HoldsBy f o) = absurd (g f)
by_one reasons one a b (FailsBy r how g t) (FailsBy q also h u) = t ∙ ap No (reasons r q how also) ∙ sym u

when_one : {P : Type 0} {yes other : Answer → Type 0} → Single yes → Single other → Single (When P yes other)
when_one one two a b (Then f o) (Then g p) = one a b o p
when_one one two a b (Then f o) (Else g p) = absurd (g f)
when_one one two a b (Else g p) (Then f o) = absurd (g f)
when_one one two a b (Else f o) (Else g p) = two a b o p

spells_one : {A : Type 0} {spell : A → Words} {In : A → Type 0} {words : Words} {r : Reason} {rest : A → Answer → Type 0}
    → ((x y : A) → In x → In y → spell x ≡ spell y → x ≡ y) → ((x : A) → In x → Single (rest x)) → Single (MustSpell spell In words r rest)
spells_one {rest = rest} only one a b (Spelled x i e o) (Spelled y j f p) = one y j a b (subst (λ z. rest z a) (only x y i j (sym e ∙ f)) o) p
spells_one only one a b (Spelled x i e o) (Unspelled g t) = absurd (g x i e)
spells_one only one a b (Unspelled g t) (Spelled x i e o) = absurd (g x i e)
spells_one only one a b (Unspelled g t) (Unspelled h u) = t ∙ sym u

goes_one : {next : Reading} → Single (Goes next)
goes_one a b (On e) (On f) = e ∙ sym f

finish_one : {d : Dossier} → Single (Finishes d)
finish_one a b (Finish e) (Finish f) = e ∙ sym f

-- a plan has one verdict
abbrev pub HaveOneVerdict : Type 0
HaveOneVerdict = (i : Instance) (p : Plan) (v w : PlanVerdict) → IsVerdict i p v → IsVerdict i p w → v ≡ w

one_reason : HaveOneVerdict → (i : Instance) (p : Plan) (r q : Reason) → BreaksPlan i p r → BreaksPlan i p q → r ≡ q
one_reason verdicts i p r q h k = h.2 ∙ ap BadPlan (verdicts i p h.0 k.0 h.1 k.1) ∙ sym k.2

job_one : HaveOneVerdict → (b : Begun) (k from : ℕ) → Single (after_job b k from)
job_one verdicts b zero from = by_one (one_reason verdicts b.instance b.plan) goes_one
job_one verdicts b (suc k) from = goes_one

table_one : (a : LeafSite) (leaf : Leaf) (left : ℕ) → Single (after_table a leaf left)
table_one a leaf zero = must_one (must_one goes_one)
table_one a leaf (suc left) = goes_one

phi_one : (a : LeafSite) (leaf : Leaf) (left : ℕ) (table : Potentials) (keys : List ℕ) → Single (after_phi a leaf left table keys)
phi_one a leaf left table [] = each_one (must_one (table_one a (record leaf { tables = leaf.tables ++ table ∷ [] }) left))
phi_one a leaf left table (j ∷ js) = goes_one

extra_one : (a : LeafSite) (leaf : Leaf) (keys : List ℕ) → Single (after_extra a leaf keys)
extra_one a leaf [] = table_one a leaf _
extra_one a leaf (j ∷ js) = goes_one

keep_after_one : (o : Opening) (k from : ℕ) (i : Instance) → Single (after_keep o k from i)
keep_after_one o zero from i = must_one goes_one
keep_after_one o (suc k) from i = goes_one

tail_is : {A : Type 0} (x y : A) (xs ys : List A) → x ∷ xs ≡ y ∷ ys → xs ≡ ys
tail_is x y xs ys e = cc

potentials_one : (form : DossierForm) (n : Limits) (k j : ℕ) (ws : Words) (rest : List ℤ → Answer → Type 0) → ((vs : List ℤ) → Single (rest vs)) → Single (potentials_row form n k j ws rest)
potentials_one One n k j ws rest one = must_one (spells_one (λ x y h k e. signed_one _ x y h k (tail_is _ _ _ _ (tail_is _ _ _ _ e))) (λ x h. one x))
potentials_one Two n k j ws rest one = must_one (spells_one (steps_one j) (λ x h. must_one (one (values_of (first_minute n k j + minute_count n k j) x))))

pub says_one : HaveOneVerdict → (s : Reading) (ws : Words) → IsReading s → Single (Says s ws)
says_one verdicts Form ws r = spells_one (λ x y h k e. form_one x y e) (λ x h. goes_one)
says_one verdicts (Sizes form) ws r = must_one (spells_one size_one (λ z h. goes_one))
says_one verdicts (Places o k i) ws r = must_one (spells_one name_one (λ x h. must_one goes_one))
says_one verdicts (Travels o k i) ws r = must_one (spells_one (travel_one o.size.places) (λ x h. goes_one))
says_one verdicts (Teams o k i) ws r = must_one (must_one (spells_one (team_one o.size.places r.2.size.places) (λ x h. must_one (must_one goes_one))))
says_one verdicts (Tasks o k i) ws r = must_one (must_one (spells_one (task_one o.size.places r.2.size.places) (λ x h. must_one (must_one goes_one))))
says_one verdicts (Frozens o i) ws r = must_one (spells_one (frozen_one (length i.tasks) (parts_whole o i r.part r.read).few_tasks) (λ x h. goes_one))
says_one verdicts (Keeps o k from i) ws r = must_one (spells_one (keep_one (length i.teams) (length i.tasks) r.parts.few_teams r.parts.few_tasks) (λ x h. must_one (must_one (keep_after_one o k _ _))))
says_one verdicts (Pools form i budget) ws r = must_one (spells_one pool_one (λ x h. must_one goes_one))
says_one verdicts (Routes b k) ws r = must_one (spells_one (route_one (length b.instance.teams) (length b.instance.tasks) r.0.head.instance.parts.few_teams r.0.head.instance.parts.few_tasks) (λ x h. must_one (must_one goes_one)))
says_one verdicts (Plans b) ws r = must_one (spells_one (plan_one (length b.instance.tasks) r.0.head.instance.parts.few_tasks) (λ x h. job_one verdicts _ _ _))
says_one verdicts (Jobs b k from) ws r = must_one (spells_one (do_one (length b.instance.teams) (length b.instance.tasks) r.0.pool.head.instance.parts.few_teams r.0.pool.head.instance.parts.few_tasks) (λ x h. must_one (job_one verdicts _ k _)))
says_one verdicts (Trees b) ws r = must_one (spells_one tree_one (λ x h. must_one (must_one (must_one goes_one))))
says_one verdicts (Nodes b c above) ws r =
    let parts = r.0.planned.pool.head.instance.parts in
    when_one (must_one (spells_one (window_one (length b.instance.tasks) parts.few_tasks) (λ x h. must_one (must_one goes_one))))
    (when_one (must_one (spells_one (node_pair_one (length b.instance.teams) (length b.instance.tasks) parts.few_teams parts.few_tasks) (λ x h. must_one (must_one goes_one))))
    (must_one (when_one (must_one (must_one goes_one)) (when_one (must_one goes_one) (must_one (must_one goes_one))))))
says_one verdicts (Whys p) ws r =
    let few = r.0.planned.pool.head.instance.parts.few_tasks in
    when_one (must_one (spells_one (loose_one (tasks_at p) few) (λ z h. must_one goes_one)))
    (when_one (must_one (spells_one (overflow_one (tasks_at p) few) (λ z h. must_one (must_one goes_one))))
    (when_one (must_one (spells_one (spent_one (tasks_at p) few) (λ z h. must_one goes_one)))
    (must_one goes_one)))
says_one verdicts (Parts p now read left from) ws r =
    must_one (spells_one (share_one (length p.begun.pool) read.whole r.site.0.planned.pool.many r.whole) (λ part h. must_one (must_one goes_one)))
says_one verdicts (Spares p now read) ws r = must_one (spells_one (spare_one (tasks_at p) read.whole r.1.whole) (λ spare h. must_one goes_one))
says_one verdicts (Prices a) ws r = must_one (spells_one (λ x y h k e. prices_one _ x y h k (tail_is _ _ _ _ e)) (λ x h. extra_one a (record { prices = x; extras = []; tables = [] }) _))
says_one verdicts (Extras a leaf j js) ws r = must_one (spells_one (λ x y h k e. prices_one _ x y h k (tail_is _ _ _ _ (tail_is _ _ _ _ e))) (λ x h. extra_one a (record leaf { extras = leaf.extras ++ x ∷ [] }) js))
says_one verdicts (Worths a leaf left) ws r = must_one (spells_one worth_one (λ x h. phi_one a leaf left (record { worth = x; phi = [] }) _))
says_one verdicts (Phis a leaf left table j js) ws r = potentials_one a.begun.form (limits_of a) (length leaf.tables) j ws _ (λ vs. phi_one a leaf left (record table { phi = table.phi ++ vs ∷ [] }) js)
says_one verdicts (Ends b c t) ws r = must_one (must_one finish_one)
