-- what is told by some rules is told by others, and what a `?` leaves with is told
use Rattle.std.proofs.Common.{◌≡◌, ◌∙◌, ap, sym, refl, Result, Ok, Err}
use Rattle.std.specs.Result.{IsErrAnd, MatchResult}
use Rattle.std.proofs.lemmas.Result.{err_from_is_err_and}
use Rattle.crew_instance.specs.declared.faults.BuildFault.{BuildFault}
use Rattle.dossier_terms.specs.Reading.{Answer, More as Goes, No as Refuses}
use Rattle.line_in.specs.Faults.{reason_for}
use Rattle.line_in.specs.declared.faults.LineFault.{LineFault}
use Rattle.line_in.specs.declared.refusals.Refusal.{Refusal}
use Rattle.line_in.specs.declared.refusals.Refusal.TheVariants.{No, OutOfMemory}
use Rattle.head_check.specs.Head.{HeadTells, reading_of, refusal_for}
use Rattle.head_check.specs.declared.due.HeadDue.{HeadDue}

-- where the ones say all that the others do
pub told_by : {Ones Others : Answer → Type 0} (step : Result HeadDue Refusal) → HeadTells Ones step
    → ((said : Answer) → Ones said → Others said) → HeadTells Others step
told_by (Ok due) t rules = record { says = rules (Goes (reading_of due)) t.says; holds = t.holds }
told_by (Err (No reason)) t rules = rules (Refuses reason) t
told_by (Err OutOfMemory) t rules = tt

-- a `?` on a line with this fault
pub refused : (Rules : Answer → Type 0) (step : Result HeadDue Refusal) (fault : LineFault)
    → IsErrAnd step (λ refusal. refusal ≡ No (reason_for fault)) → Rules (Refuses (reason_for fault)) → HeadTells Rules step
refused Rules step fault is rules = let p = err_from_is_err_and step is in rw (p.1, p.2) rules

-- the fault that `map_err` was given
given_fault : {X : Type 0} (built : Result X BuildFault) (mapped : Result X Refusal) (refusal : Refusal)
    → MatchResult built (λ x. mapped ≡ Ok x) (λ fault. IsErrAnd mapped (λ r. r ≡ refusal_for fault)) → mapped ≡ Err refusal
    → (fault : BuildFault) × (built ≡ Err fault) × (refusal ≡ refusal_for fault)
given_fault (Ok x) mapped refusal h is = let e : Ok x ≡ Err refusal = sym h ∙ is in absurd cc
given_fault (Err fault) mapped refusal h is = (fault, refl, (rw is at h))

-- a `?` on a fault of a builder
pub not_built : {X : Type 0} (Rules : Answer → Type 0) (built : Result X BuildFault) (mapped : Result X Refusal) (refusal : Refusal)
    (step : Result HeadDue Refusal)
    → MatchResult built (λ x. mapped ≡ Ok x) (λ fault. IsErrAnd mapped (λ r. r ≡ refusal_for fault)) → mapped ≡ Err refusal
    → IsErrAnd step (λ r. r ≡ refusal) → ((fault : BuildFault) → built ≡ Err fault → HeadTells Rules (Err (refusal_for fault))) → HeadTells Rules step
not_built Rules built mapped refusal step cases was is told =
    let f = given_fault built mapped refusal cases was in
    let p = err_from_is_err_and step is in rw (p.1, p.2, f.2) (told f.0 f.1)

-- what `map_err` gives on is what it was given
pub given_ok : {X E D : Type 0} (r : Result X E) (mapped : Result X D) (Post : E → D → Type 0) (x : X)
    → MatchResult r (λ y. mapped ≡ Ok y) (λ e. IsErrAnd mapped (Post e)) → mapped ≡ Ok x → r ≡ Ok x
given_ok (Ok y) mapped Post x h is =
    let e = sym h ∙ is in
    let f : y ≡ x = cc in ap Ok f
given_ok (Err e) mapped Post x h is = absurd (rw is at h)
