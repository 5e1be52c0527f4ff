use Rattle.std.proofs.Common.{◌≡◌, ◌<◌, ◌+◌, refl, Some, length, set, arith, ap, sym, subst, ◌∙◌}
use Rattle.std.specs.List.{All}
use Rattle.std.proofs.lemmas.List.{get_or_read}
use Rattle.std.proofs.lemmas.Result.{err_from_is_err_and}
use Rattle.crew_terms.specs.Instance.{no_task}
use Rattle.crew_terms.specs.Plan.{Job}
use Rattle.crew_instance.specs.Draft.{AreTeamsFor, Draft, MayFreeze, filled, instance_of, task_at}
use Rattle.crew_instance.specs.Kept.{drafted}
use Rattle.crew_instance.proofs.Drafts.{job_more}
use Rattle.crew_instance.proofs.Filled.{filled_again, filled_up_set}
use Rattle.crew_instance.proofs.FrozenJobs.{all_known, teams_for}
use Rattle.crew_instance.proofs.GoodJobs.{list_decides, window_decides}
use Rattle.crew_instance.proofs.builders.Builder.freeze.Goals as goal
use Rattle.crew_instance.proofs.builders.Builder.freeze.Goals.{then-not-is_team_list-via-then-not-is_team_list, then-not-is_team_list-via-else-not-is_team_list+then-not-are_teams}

pub returns-then-not-is_team_list-clause-bad_teams : goal.returns-then-not-is_team_list-clause-bad_teams
returns-then-not-is_team_list-clause-bad_teams c =
    let d = c.args.self.now in
    let job : Job = record { start = c.args.start; teams = c.args.teams.now } in
    let j : c.args.j < length c.self.inside.tasks.items = let v = ap (λ x. length x.tasks) c.self.view_is in let h = c.requires in omega arith in
    let task = get_or_read c.self.inside.tasks.items c.args.j c.index-task.result.now j c.index-task.ensures no_task ∙ ap (λ x. task_at x c.args.j) c.self.view_is in
    let window = (window_decides (instance_of d) c.args.j job c.index-task.result.now c.is_in_window.result task c.is_in_window.ensures).0 c.if-not-is_in_window.false in
    let list = list_decides (instance_of d) c.args.j job c.index-task.result.now c.is_team_list.result task c.is_team_list.ensures in
    let bad : AreTeamsFor d c.args.j job → ⊥ = λ are. (elim c.then-not-is_team_list.branch [
      | then-not-is_team_list-via-then-not-is_team_list w ↦ (let t = list.1 are.list in let f = w.if-not-is_team_list.true in cc)
      | then-not-is_team_list-via-else-not-is_team_list+then-not-are_teams w ↦ (
          let n : w.len.result ≡ length d.teams = (let v = ap (λ x. length x.teams) c.self.view_is in omega arith) in
          let t = w.are_teams.ensures.1 (subst (λ m. All (λ k. k < m) job.teams) (sym n) (all_known d c.args.j job are)) in
          let f = w.if-not-are_teams.true in
          cc
          )
    ]) in
    ((λ _. (window, bad)), (λ _. refl))

-- the job may be frozen
may : (c : goal.In_ok-assign) → MayFreeze (drafted c.self.inside) c.args.j (record { start = c.args.start; teams = c.args.teams.now })
may c =
    let d = drafted c.self.inside in
    let job : Job = record { start = c.args.start; teams = c.args.teams.now } in
    let j : c.args.j < length c.self.inside.tasks.items = let v = ap (λ x. length x.tasks) c.self.view_is in let h = c.requires in omega arith in
    let task = get_or_read c.self.inside.tasks.items c.args.j c.index-task.result.now j c.index-task.ensures no_task in
    let n : c.len.result ≡ length c.self.inside.teams.items = omega arith in
    record {
      window = (window_decides (instance_of d) c.args.j job c.index-task.result.now c.is_in_window.result task c.is_in_window.ensures).0 c.if-not-is_in_window.false;
      teams = teams_for d c.args.j job
          ((list_decides (instance_of d) c.args.j job c.index-task.result.now c.is_team_list.result task c.is_team_list.ensures).0 c.if-not-is_team_list.false)
          (subst (λ m. All (λ k. k < m) job.teams) n (c.are_teams.ensures.0 c.if-not-are_teams.false));
    }

-- the frozen jobs where memory ran out are those of before
same : (c : goal.After-from_residual-in_err-assign) → let n = length c.self.inside.tasks.items in filled n c.assign.new.self ≡ filled n c.self.inside.frozen
same c =
    let n = length c.self.inside.tasks.items in
    let v = ap (λ x. length x.tasks) c.self.view_is in
    let h = c.requires in
    ap (filled n) (c.in_err-assign.ensures.err ∙ c.in_ok-lengthen.ensures.ok) ∙ filled_again (c.args.j + 1) n c.self.inside.frozen (omega arith)

pub invariant_of-self-in_err-assign : goal.invariant_of-self-in_err-assign
invariant_of-self-in_err-assign c = rw (same c) c.self.invariant

pub returns-in_err-assign-clause-err : goal.returns-in_err-assign-clause-err
returns-in_err-assign-clause-err c =
    let p = err_from_is_err_and c.from_residual-in_err-assign.result c.from_residual-in_err-assign.ensures.1 in
    rw p.1 (ap (λ p. record (drafted c.self.inside) { frozen = p }) (same c) ∙ c.self.view_is)

-- the frozen jobs with the new one
written : (c : goal.In_ok-assign) → let n = length c.self.inside.tasks.items in filled n c.assign.new.self ≡ set (filled n c.self.inside.frozen) c.args.j (Some (record { start = c.args.start; teams = c.args.teams.now }))
written c =
    let n = length c.self.inside.tasks.items in
    let job : Job = record { start = c.args.start; teams = c.args.teams.now } in
    let v = ap (λ x. length x.tasks) c.self.view_is in
    let h = c.requires in
    ap (filled n) (c.in_ok-assign.ensures.ok ∙ ap (λ p. set p c.args.j (Some job)) c.in_ok-lengthen.ensures.ok) ∙ filled_up_set n c.args.j c.self.inside.frozen (Some job) (omega arith)

pub invariant_of-self-2 : goal.invariant_of-self-2
invariant_of-self-2 c =
    let job : Job = record { start = c.args.start; teams = c.args.teams.now } in
    let v = ap (λ x. length x.tasks) c.self.view_is in
    let h = c.requires in
    rw (written c) (job_more (drafted c.self.inside) c.self.invariant c.args.j job (omega arith) (may c))

pub returns-clause-ok : goal.returns-clause-ok
returns-clause-ok c =
    let job : Job = record { start = c.args.start; teams = c.args.teams.now } in
    ap (λ p. record (drafted c.self.inside) { frozen = p }) (written c) ∙ ap (λ (d : Draft). record d { frozen = set d.frozen c.args.j (Some job) }) c.self.view_is
