-- what is told of an entry that is refused
use Rattle.std.proofs.Common.{◌≡◌, ◌⊎◌, ℕ, inl, inr, List, Option, Some, None, Result, Ok, Err, refl, sym, ap, ◌∙◌}
use Rattle.std.specs.Prelude.{option_map}
use Rattle.std.specs.Option.{option_or}
use Rattle.day_terms.specs.Refusal.{Refusal, FrozenWork, MissingTravel, refusal_by_lists, refusal_of, work_against}
use Rattle.day_terms.specs.Rounds.{first_missing}
use Rattle.day_terms.specs.State.{DayState, NamedJob}
use Rattle.day_terms.specs.declared.Entry.{Entry}
use Rattle.day_terms.specs.declared.Entry.TheVariants.{Plan}
use Rattle.flight_changes.specs.Faults.{answer_by_lists, answer_of, fault_of}
use Rattle.flight_changes.specs.declared.faults.ChangeFault.{ChangeFault}
use Rattle.flight_changes.specs.declared.faults.ChangeFault.TheVariants as told
use Rattle.flight_changes.proofs.Entries.{same_refusal, with_jobs}
use Rattle.flight_changes.proofs.Keyed.{Bytes}

-- an answer's refusal
record IsTold (o : Option Refusal) (fault : ChangeFault) : Type 0 where
  pub refusal : Refusal
  pub is : o ≡ Some refusal
  pub told : fault ≡ fault_of refusal

told_of : (o : Option Refusal) (fault : ChangeFault) → answer_of o ≡ Err fault → IsTold o fault
told_of None fault e = cc
told_of (Some r) fault e = record { refusal = r; is = refl; told = cc }

none_of : (o : Option Refusal) → answer_of o ≡ Ok tt → o ≡ None
none_of None e = refl
none_of (Some r) e = cc

same_told : (o : Option Bytes) → option_map fault_of (option_map FrozenWork o) ≡ option_map told.FrozenWork o
same_told None = refl
same_told (Some task) = refl

module _ (s : DayState) (e : Entry) where
  module _ (passed : refusal_by_lists s e ≡ None) where
    by_work : refusal_of s e ≡ option_map FrozenWork (work_against s e)
    by_work = ap (λ o. option_or o (option_map FrozenWork (work_against s e))) passed

    -- an entry that the lists take is taken where no frozen work is against it
    pub taken : work_against s e ≡ None → refusal_of s e ≡ None
    taken none = by_work ∙ ap (option_map FrozenWork) none

    -- and otherwise the frozen work is told
    pub told_work : (fault : ChangeFault) → (fault ≡ told.OutOfMemory) ⊎ (option_map told.FrozenWork (work_against s e) ≡ Some fault)
        → (fault ≡ told.OutOfMemory) ⊎ (option_map fault_of (refusal_of s e) ≡ Some fault)
    told_work fault (inl memory) = inl memory
    told_work fault (inr work) = inr (ap (option_map fault_of) by_work ∙ same_told (work_against s e) ∙ work)

    pub not_by_lists : {A : Type 0} (r : Refusal) → refusal_by_lists s e ≡ Some r → A
    not_by_lists r some = let f : None ≡ Some r = sym passed ∙ some in cc

  module _ (fault : ChangeFault) (refused : answer_by_lists s e ≡ Err fault) where
    the_refusal : IsTold (refusal_by_lists s e) fault
    the_refusal = told_of (refusal_by_lists s e) fault refused

    -- an entry that the lists refuse is told so
    pub told_lists : option_map fault_of (refusal_of s e) ≡ Some fault
    told_lists =
        let t = the_refusal in
        ap (λ o. option_map fault_of (option_or o (option_map FrozenWork (work_against s e)))) t.is ∙ ap Some (sym t.told)

    pub as_by_lists : (r : Refusal) → refusal_by_lists s e ≡ Some r → fault ≡ fault_of r
    as_by_lists r some =
        let t = the_refusal in
        let same : Some t.refusal ≡ Some r = sym t.is ∙ some in
        let one : t.refusal ≡ r = cc in
        t.told ∙ ap fault_of one

    pub not_taken : {A : Type 0} → refusal_by_lists s e ≡ None → A
    not_taken none = let f : Some the_refusal.refusal ≡ None = sym the_refusal.is ∙ none in cc

  pub passed_from : answer_by_lists s e ≡ Ok tt → refusal_by_lists s e ≡ None
  passed_from = none_of (refusal_by_lists s e)

-- the lists answer as they do beside any jobs
pub answer_beside : (lists : DayState) (last frozen : List NamedJob) (s : DayState) (e : Entry) (answer : Result (Unit {0}) ChangeFault) → with_jobs lists last frozen ≡ s
    → answer ≡ answer_by_lists lists e → answer_by_lists s e ≡ answer
answer_beside lists last frozen s e answer same is = ap (λ s. answer_by_lists s e) (sym same) ∙ ap answer_of (same_refusal lists last frozen e) ∙ sym is

pub same_fault : (a b : ChangeFault) → ◌≡◌ {A = Result (Unit {0}) ChangeFault} (Err a) (Err b) → a ≡ b
same_fault a b e = cc

-- the answer of the lists to a plan, or to a time
module _ (s : DayState) (answer : Result (Unit {0}) ChangeFault) (nodes : ℕ) (is : answer ≡ answer_by_lists s (Plan nodes)) where
  pub told_missing : (from to : Bytes) → first_missing s ≡ Some (from, to) → answer ≡ Err (told.MissingTravel from to)
  told_missing from to e = is ∙ ap (λ o. answer_of (option_map (λ p. MissingTravel p.0 p.1) o)) e

  pub none_missing : first_missing s ≡ None → answer ≡ Ok tt
  none_missing e = is ∙ ap (λ o. answer_of (option_map (λ p. MissingTravel p.0 p.1) o)) e
