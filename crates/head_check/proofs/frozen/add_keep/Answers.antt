use Rattle.std.proofs.Common.{◌≡◌, ◌∙◌, ◌<◌, ℕ, ap, sym, subst, length, Ok, Err}
use Rattle.std.specs.Prelude.{Contains}
use Rattle.std.proofs.lemmas.Result.{IfErr-at_err}
use Rattle.crew_terms.specs.Plan.{Job}
use Rattle.crew_instance.specs.Rules.{IsFreezeFault}
use Rattle.head_check.specs.declared.due.Head.{Head}
use Rattle.head_check.specs.Head.{IsFull, HeadTells, after_job, opening_of}
use Rattle.head_check.proofs.Steps.{not_built, given_ok, told_by}
use Rattle.head_check.proofs.FrozenSteps.{may_freeze, freeze_fault, keep_rules}
use Rattle.head_check.proofs.frozen.add_keep.Goals as goal

pub returns-in_err-map_err : goal.returns-in_err-map_err
returns-in_err-map_err c =
    let b : Head = c.deref_mut-held.result.now in
    let e : b ≡ c.args.head.value = c.deref_mut-held.ensures.value in
    let full : IsFull b = subst IsFull (sym e) c.requires.full in
    let job : Job = record { start = c.args.start; teams = c.args.teams.now } in
    let known : (k : ℕ) → Contains job.teams k → k < length b.builder.teams = λ (k : ℕ) (x : Contains job.teams k).
    subst (λ n. k < n) (sym full.teams) (subst (λ (h : Head). k < h.size.teams) (sym e) (c.requires.teams k x)) in
    subst (λ (h : Head). HeadTells (after_job h c.args.more c.args.task c.args.start c.args.teams.now) c.from_residual.result) e
    (not_built _ c.freeze.result c.map_err.result _ _ c.map_err.ensures.cases c.in_err-map_err.was c.from_residual.ensures.1
    (λ fault is. freeze_fault b.builder b.size.places c.args.task job _ fault full.places known
    (IfErr-at_err IsFreezeFault is c.freeze.ensures.no_other)
    (λ f. c.freeze.ensures.bad_window.0 (is ∙ ap Err f))
    (λ f. (c.freeze.ensures.bad_teams.0 (is ∙ ap Err f)).1)))

pub returns : goal.returns
returns c =
    let b : Head = c.deref_mut-held.result.now in
    let e : b ≡ c.args.head.value = c.deref_mut-held.ensures.value in
    let full : IsFull b = subst IsFull (sym e) c.requires.full in
    let job : Job = record { start = c.args.start; teams = c.args.teams.now } in
    let took : c.freeze.result ≡ Ok tt = given_ok _ _ _ _ c.map_err.ensures.cases c.in_ok-map_err.was in
    let frozen = rw took at c.freeze.ensures.ok in
    let can = may_freeze b.builder b.size.places c.args.task job full.places
    (λ no. let x = c.freeze.ensures.bad_window.1 no in absurd cc) (λ no. let x = c.freeze.ensures.bad_teams.1 no in absurd cc) in
    subst (λ (h : Head). HeadTells (after_job h c.args.more c.args.task c.args.start c.args.teams.now) c.due_keeps.result) e
    (told_by c.due_keeps.result c.due_keeps.ensures (λ said rest.
    keep_rules b.builder c.freeze.new.self (opening_of b) c.args.more b.size.places c.args.task job said can frozen rest))
