use Rattle.std.proofs.Common.{◌≡◌, ◌∙◌, ℕ, refl, ap, sym, subst, arith, length, Ok, Err}
use Rattle.std.proofs.lemmas.Result.{IfErr-at_err, IfOk-at_ok}
use Rattle.crew_instance.specs.Draft.{Draft, instance_of, known_times}
use Rattle.crew_instance.specs.Times.{IsFirstMissing}
use Rattle.crew_instance.specs.Rules.{IsTimesFault}
use Rattle.crew_instance.specs.declared.faults.BuildFault.{BuildFault}
use Rattle.crew_instance.specs.declared.faults.BuildFault.TheVariants.{OutOfMemory, MissingTravel}
use Rattle.crew_terms.specs.Instance.{Instance}
use Rattle.dossier_terms.specs.Reading.{Answer, More, Pools, tasks_done, tasks_due}
use Rattle.dossier_terms.specs.Rules.{Goes, On}
use Rattle.dossier_terms.specs.declared.DossierForm.{DossierForm}
use Rattle.dossier_terms.specs.declared.DossierForm.TheVariants.{One, Two}
use Rattle.head_check.specs.declared.due.Base.{Base}
use Rattle.head_check.specs.declared.due.HeadDue.TheVariants.{Whole}
use Rattle.head_check.specs.declared.due.Head.{Head}
use Rattle.head_check.specs.Head.{AreGiven, IsHead, HeadTells, instance_so_far, opening_of, read_of, refusal_for}
use Rattle.head_check.proofs.Steps.{not_built, given_ok}
use Rattle.head_check.proofs.head.due_behind_tasks.Goals as goal

-- where every time is given, only memory is wanting
only_memory : (Rules : Answer → Type 0) (d : Draft) (places : ℕ) (fault : BuildFault) → length d.places ≡ places → AreGiven d places → IsTimesFault fault
    → ((a b : ℕ) → fault ≡ MissingTravel a b → IsFirstMissing (known_times d) a b) → HeadTells Rules (Err (refusal_for fault))
only_memory Rules d places OutOfMemory e given is missing = tt
only_memory Rules d places (MissingTravel from to) e given is missing =
    let m = (missing from to refl).missing in
    let f = m.from in let t = m.to in
    absurd (given from to (omega arith) t m.time)
only_memory Rules d places _ e given is missing = absurd is

pub returns-in_err-instance : goal.returns-in_err-instance
returns-in_err-instance c =
    let b : Head = c.into_inner-form.result in
    let head : IsHead b b.size.places b.size.places b.size.teams c.requires.0 =
    subst (λ (h : Head). IsHead h h.size.places h.size.places h.size.teams c.requires.0) (sym c.into_inner-form.ensures) c.requires.2 in
    let Rules = Goes (tasks_due (opening_of c.args.head.value) 0 (read_of c.args.head.value)) in
    not_built Rules c.into_instance.result c.map_err.result _ _ c.map_err.ensures.cases c.in_err-instance.was c.from_residual.ensures.1
    (λ fault is. only_memory Rules b.builder b.size.places fault head.places head.given
    (IfErr-at_err IsTimesFault is (c.into_instance.ensures.free head.frozen))
    (λ x y e. (c.into_instance.ensures.missing x y).0 (is ∙ ap Err e)))

form_one : (f : DossierForm) → (f ≡ Two → ⊥) → f ≡ One
form_one One other = refl
form_one Two other = absurd (other refl)

-- what is due where no task is left, and no frozen job is told
done : (h : Head) (more : ℕ) → more ≡ 0 → h.form ≡ One → (i : Instance) → i ≡ read_of h → Pools h.form i h.size.nodes ≡ tasks_due (opening_of h) more (read_of h)
done h more none one i read =
    ap (λ f. Pools f i h.size.nodes) one ∙ ap (λ i. Pools One i h.size.nodes) read
    ∙ ap (λ f. tasks_done f h.size (read_of h)) (sym one) ∙ ap (λ n. tasks_due (opening_of h) n (read_of h)) (sym none)

pub returns : goal.returns
returns c =
    let b : Head = c.into_inner-form.result in
    let e : b ≡ c.args.head.value = c.into_inner-form.ensures in
    let built : c.into_instance.result ≡ Ok c.in_ok-instance.instance = given_ok _ _ _ _ c.map_err.ensures.cases c.in_ok-instance.was in
    let is : c.in_ok-instance.instance ≡ instance_of b.builder = IfOk-at_ok _ built c.into_instance.ensures.ok in
    let head : IsHead b b.size.places b.size.places b.size.teams c.requires.0 =
    subst (λ (h : Head). IsHead h h.size.places h.size.places h.size.teams c.requires.0) (sym c.into_inner-form.ensures) c.requires.2 in
    let read : c.in_ok-instance.instance ≡ read_of b = is ∙ ap (instance_so_far b.builder) head.places in
    let none : 0 ≡ 0 = refl in
    let one : b.form ≡ One = form_one b.form (λ two. c.in_default.not-Two (ap (λ (h : Head). h.form) (c.deref.ensures ∙ sym e) ∙ two)) in
    let base = c.in_ok-base.base in
    let line : More (Pools base.value.form base.value.instance base.value.nodes) ≡ More (tasks_due (opening_of b) 0 (read_of b)) =
    ap (λ (x : Base). More (Pools x.form x.instance x.nodes)) c.in_ok-base.ensures.ok ∙ ap More (done b 0 none one c.in_ok-instance.instance read) in
    subst (λ (h : Head). HeadTells (Goes (tasks_due (opening_of h) 0 (read_of h))) (Ok (Whole base))) e (record { says = On line; holds = tt })
