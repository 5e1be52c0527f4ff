-- what an audit stands for behind a dossier, and what is told of one
use Rattle.std.proofs.Common.{◌≡◌, ◌≢◌, ◌∙◌, ◌↔◌, ℕ, List, Option, None, Some, Ok, Err, true, false, ap, subst, sym, refl}
use Rattle.std.specs.Prelude.{Result, IsErr, IsSome, IsTrue, option_map}
use Rattle.dossier_terms.specs.Dossier.{Dossier}
use Rattle.crew_terms.specs.Instance.{Instance}
use Rattle.route_terms.specs.Named.{NamedRoute}
use Rattle.day_terms.specs.Instances.{day_instance}
use Rattle.day_terms.specs.Rounds.{Round}
use Rattle.day_terms.specs.State.{DayState, NamedJob}
use Rattle.day_terms.specs.Work.{after_plan, jobs_by_names}
use Rattle.day_audit.specs.Audited.{Audited, behind_dossier}
use Rattle.day_audit.specs.Belongs.{BelongsToRound, IsFit, handed_on}
use Rattle.day_audit.specs.Kept.{audited, handed_in, round_of}
use Rattle.day_audit.specs.declared.audit.Audit.TheInside.{Inside}
use Rattle.day_audit.specs.declared.audit.Fit.{Fit}
use Rattle.day_audit.specs.declared.audit.Fit.TheVariants as fits
use Rattle.day_audit.proofs.Fits.{due_is}

-- a test that fails of what does not hold
pub not_so : {P : Type 0} → (P → ⊥) → IsTrue false ↔ P
not_so none = (λ t. absurd (cc), λ p. absurd (none p))

-- an error is no value
pub err_not_ok : {X E : Type 0} (r : Result X E) (x : X) → IsErr r → r ≡ Ok x → ⊥
err_not_ok (Ok y) x is e = cc
err_not_ok (Err f) x is e = cc

-- a round is due
pub some_due : (a : Inside) (s : Audited) → audited a ≡ s → IsSome s.due → a.due ≡ None → ⊥
some_due a s view due none =
    let here : IsSome (option_map (round_of a.desk) a.due) = subst (λ (x : Audited). IsSome x.due) (sym view) due in
    let gone : IsSome (option_map (round_of a.desk) None) = subst (λ o. IsSome (option_map (round_of a.desk) o)) none here in
    cc

-- what is told beside the round as it is kept, is told beside the round that is due
pub fit_told : (a : Inside) (s : Audited) → audited a ≡ s → (nodes : ℕ) → a.due ≡ Some nodes → (i : Instance) → i ≡ day_instance a.desk
    → (round : Round) → s.due ≡ Some round → (d : Dossier) (fit : Fit)
    → IsFit (handed_in a.carry) (record { instance = i; nodes = nodes }) d fit → IsFit s.handed round d fit
fit_told a s view nodes is i same round due d fit told =
    let kept : option_map (round_of a.desk) a.due ≡ Some round = ap (λ (x : Audited). x.due) view ∙ due in
    let r : round_of a.desk nodes ≡ round = due_is a.desk a.due nodes round is kept in
    let here : IsFit (handed_in a.carry) (round_of a.desk nodes) d fit = subst (λ (j : Instance). IsFit (handed_in a.carry) (record { instance = j; nodes = nodes }) d fit) same told in
    subst (λ (x : Audited). IsFit x.handed round d fit) view (subst (λ (q : Round). IsFit (handed_in a.carry) q d fit) r here)

-- of one that fits the instance is that of the day
pub day_of_fit : (a : Inside) (s : Audited) → audited a ≡ s → (nodes : ℕ) (i : Instance) → i ≡ day_instance a.desk → (d : Dossier) (fit : Fit) → fit ≡ fits.Fits
    → IsFit (handed_in a.carry) (record { instance = i; nodes = nodes }) d fit → d.instance ≡ day_instance s.day
day_of_fit a s view nodes i same d fit is told =
    let belongs : BelongsToRound (handed_in a.carry) (record { instance = i; nodes = nodes }) d = subst (IsFit (handed_in a.carry) (record { instance = i; nodes = nodes }) d) is told in
    belongs.instance ∙ same ∙ ap (λ (x : Audited). day_instance x.day) view

-- an audit where no dossier is due
abbrev at_rest : DayState → List NamedRoute → Audited
at_rest day handed = record { day = day; due = None; handed = handed }

-- the plan is the last one, and the pool is handed on
pub followed : (a : Inside) (s : Audited) → audited a ≡ s → (new : DayState) (jobs : List NamedJob) (carry : List NamedRoute) (d : Dossier)
    → new ≡ record a.desk { last_plan = jobs } → jobs ≡ jobs_by_names (day_instance a.desk) d.plan → carry ≡ handed_on d
    → at_rest new carry ≡ behind_dossier s d
followed a s view new jobs carry d is told handed =
    let day : new ≡ after_plan a.desk d.plan = is ∙ ap (λ (js : List NamedJob). record a.desk { last_plan = js }) told in
    ap (λ (x : DayState). at_rest x carry) day ∙ ap (at_rest (after_plan a.desk d.plan)) handed ∙ ap (λ (x : Audited). behind_dossier x d) view
