use Rattle.std.proofs.Common.{◌≡◌, ◌<◌, ◌∙◌, ℕ, refl, length, map, ap, sym, subst, arith, pos}
use Rattle.std.specs.Prelude.{Contains}
use Rattle.std.proofs.lemmas.List.Elements.{All-contains, All-from_recursion}
use Rattle.crew_terms.specs.Words.{Words}
use Rattle.crew_terms.specs.Plan.{Job}
use Rattle.crew_terms.specs.declared.TheConstants.{MOST_TEAMS}
use Rattle.cert_format.specs.Lines.{IsFaultOf, IsKeepLine}
use Rattle.cert_format.specs.Typed.{keep_kind}
use Rattle.cert_format.specs.declared.kinds.Expect.TheVariants as expects
use Rattle.line_in.specs.declared.faults.LineFault.{LineFault}
use Rattle.cert_format.specs.declared.typed.JobLine.{JobLine}
use Rattle.dossier_terms.specs.Ranges.{IsDoLine}
use Rattle.dossier_terms.specs.Rules.{Holds as Met, Fails, Spelled}
use Rattle.head_check.specs.Numbers.{naturals, AreBelow}
use Rattle.head_check.specs.declared.due.Head.{Head}
use Rattle.head_check.specs.declared.due.HeadDue.TheVariants.{Keep}
use Rattle.head_check.specs.Head.{IsFull, reading_of, HeadTells, after_job}
use Rattle.head_check.proofs.Steps.{refused, told_by}
use Rattle.head_check.proofs.Listed.{below_from, below_more}
use Rattle.head_check.proofs.frozen.keep_line.Goals as goal
use Rattle.head_check.specs.NumbersBack.{naturals-pos}

-- the counts that are read of the head are its own
keep_of : (ws : Words) (a b head : Head) (line : JobLine) → a ≡ head → b ≡ head
    → IsKeepLine a.size.teams b.size.tasks ws (keep_kind line) → IsKeepLine head.size.teams head.size.tasks ws (keep_kind line)
keep_of ws a b head line d e h =
    subst (λ (x : Head). IsKeepLine head.size.teams x.size.tasks ws (keep_kind line)) e
    (subst (λ (x : Head). IsKeepLine x.size.teams b.size.tasks ws (keep_kind line)) d h)

-- and as many as it has
fault_of : (ws : Words) (a b head : Head) (fault : LineFault) → a ≡ head → b ≡ head → IsFull head
    → IsFaultOf (expects.Keep a.size.teams b.size.tasks) ws fault → IsFaultOf (expects.Keep (length head.builder.teams) (length head.builder.tasks)) ws fault
fault_of ws a b head fault d e full h =
    subst (λ n. IsFaultOf (expects.Keep n (length head.builder.tasks)) ws fault) (sym full.teams)
    (subst (λ n. IsFaultOf (expects.Keep head.size.teams n) ws fault) (sym full.tasks)
    (subst (λ (x : Head). IsFaultOf (expects.Keep head.size.teams x.size.tasks) ws fault) e
    (subst (λ (x : Head). IsFaultOf (expects.Keep x.size.teams b.size.tasks) ws fault) d h)))

known_job : (head : Head) (j : ℕ) (job : Job) → IsFull head → IsDoLine head.size.teams head.size.tasks (j, job)
    → IsDoLine (length head.builder.teams) (length head.builder.tasks) (j, job)
known_job head j job full fits =
    subst (λ m. IsDoLine m (length head.builder.tasks) (j, job)) (sym full.teams)
    (subst (λ n. IsDoLine head.size.teams n (j, job)) (sym full.tasks) fits)

pub returns-in_err-task : goal.returns-in_err-task
returns-in_err-task c =
    let fault = c.in_err-task.field-0.0 in
    refused _ c.from_residual.result fault c.from_residual.ensures.1
    (c.fault_is_refused.ensures (reading_of (Keep c.args.head c.args.more c.args.from)) c.args.words fault
    (fault_of c.args.words c.deref.result.now c.deref-2.result.now c.args.head.value fault c.deref.ensures c.deref-2.ensures c.requires c.in_err-task.ensures))

pub returns-then-task-from : goal.returns-then-task-from
returns-then-task-from c =
    let head = c.args.head.value in
    let line : JobLine = c.in_ok-task.field-0 in
    let h = keep_of c.args.words c.deref.result.now c.deref-2.result.now head line c.deref.ensures c.deref-2.ensures c.in_ok-task.ensures in
    let job : Job = record { start = line.start; teams = h.0 } in
    let early = c.if-task-from.true in
    Met (_, h.3, omega arith) (Spelled (line.task, job) (known_job head line.task job c.requires h.2) h.3 (Fails (λ l. absurd (omega arith)) refl))

pub team_list-requires : goal.team_list-requires
team_list-requires c =
    let head = c.args.head.value in
    let line : JobLine = c.in_ok-task.field-0 in
    let h = keep_of c.args.words c.deref.result.now c.deref-2.result.now head line c.deref.ensures c.deref-2.ensures c.in_ok-task.ensures in
    subst (AreBelow MOST_TEAMS) (sym h.1) (below_more head.size.teams MOST_TEAMS (map pos h.0) c.requires.size.teams (below_from head.size.teams h.0 h.2.teams))

pub add_keep-requires-clause-teams : goal.add_keep-requires-clause-teams
add_keep-requires-clause-teams c = λ k x.
    let head = c.args.head.value in
    let line : JobLine = c.in_ok-task.field-0 in
    let h = keep_of c.args.words c.deref.result.now c.deref-2.result.now head line c.deref.ensures c.deref-2.ensures c.in_ok-task.ensures in
    let list : c.deref-3.result.now ≡ h.0 = c.deref-3.ensures ∙ c.in_ok-list.ensures ∙ ap naturals h.1 ∙ naturals-pos h.0 in
    All-contains (λ k. k < head.size.teams) h.0 k (All-from_recursion (λ k. k < head.size.teams) h.0 h.2.teams) (subst (λ ns. Contains ns k) list x)

pub returns : goal.returns
returns c =
    let head = c.args.head.value in
    let line : JobLine = c.in_ok-task.field-0 in
    let h = keep_of c.args.words c.deref.result.now c.deref-2.result.now head line c.deref.ensures c.deref-2.ensures c.in_ok-task.ensures in
    let job : Job = record { start = line.start; teams = h.0 } in
    let list : c.deref-3.result.now ≡ h.0 = c.deref-3.ensures ∙ c.in_ok-list.ensures ∙ ap naturals h.1 ∙ naturals-pos h.0 in
    told_by c.add_keep.result
    (subst (λ ns. HeadTells (after_job head c.args.more line.task line.start ns) c.add_keep.result) list c.add_keep.ensures)
    (λ said rest. Met (_, h.3, omega arith) (Spelled (line.task, job) (known_job head line.task job c.requires h.2) h.3 (Met c.if-task-from.false rest)))
