use Rattle.std.proofs.Common.{◌++◌, [], ◌∷◌, Some, append-nil, nat_eq, ap, map, sym, subst, ◌∙◌}
use Rattle.std.specs.Prelude.{Contains}
use Rattle.std.specs.Option.{option_eq}
use Rattle.crew_terms.specs.Instance.{team_of}
use Rattle.crew_terms.specs.Plan.{job_of}
use Rattle.crew_terms.specs.declared.Task.{Task}
use Rattle.day_terms.specs.Work.{named_at}
use Rattle.flight_changes.proofs.ByPlace.{each_after}
use Rattle.flight_changes.proofs.NamedJobs.{named_begun, named_other, teams_are}
use Rattle.flight_changes.proofs.jobs.add_jobs_at.Goals as goal
use Rattle.flight_changes.proofs.jobs.add_jobs_at.Goals.{then-eq+in_ok-names_of+in_ok-push, else-eq}

pub names_of-requires : goal.names_of-requires
names_of-requires c k has = teams_are c.args.instance.now c.args.plan.now c.loop-j.j k c.requires (subst (λ ks. Contains ks k) c.teams.ensures has)

pub loop-j-preserved : goal.loop-j-preserved
loop-j-preserved c =
    let i = c.args.instance.now in
    let p = c.args.plan.now in
    let t = c.args.minute in
    let j = c.loop-j.j in
    let now = c.loop-j.jobs.items in
    let more = each_after (λ j. named_at i t j (job_of p j)) j c.args.jobs.now.items now c.if-eq.jobs.items c.loop-j.invariant in
    let test = c.eq.ensures ∙ ap (λ start. option_eq nat_eq start (Some t)) c.start.ensures in
    elim c.if-eq.branch [
      | then-eq+in_ok-names_of+in_ok-push w ↦
          let names = w.in_ok-names_of.field-0.items in
          let are = w.in_ok-names_of.ensures ∙ ap (map (λ k. (team_of i k).name)) w.teams.ensures in
          let here = named_begun i t j (job_of p j) names (sym test ∙ w.if-eq.true) are in
          let pushed = ap (λ (task : Task). record { task = task.name; start = t; teams = names } ∷ []) (sym w.task.ensures.task) in
          more (ap (λ v. v.items) w.jobs-is ∙ w.in_ok-push.ensures.items ∙ ap (λ xs. now ++ xs) (sym (here ∙ pushed)))
      | else-eq w ↦
          let none = named_other i t j (job_of p j) (sym test ∙ w.if-eq.false) in
          more (ap (λ v. v.items) w.jobs-is ∙ sym (append-nil now) ∙ ap (λ xs. now ++ xs) (sym none))
    ]
