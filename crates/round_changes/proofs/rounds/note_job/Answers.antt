use Rattle.std.proofs.Common.{◌≡◌, ◌<◌, ℕ, List, length, ap, sym, subst, ◌∙◌}
use Rattle.std.specs.Prelude.{All}
use Rattle.crew_instance.specs.Teams.{job_teams}
use Rattle.round_changes.proofs.Jobs.{has_job, known_teams}
use Rattle.round_changes.proofs.rounds.note_job.Goals as goal

pub note_teams-requires : goal.note_teams-requires
note_teams-requires c =
    let i = c.args.instance.now in
    let p = c.args.plan.now in
    let h = has_job _ c.args.start c.requires.begun in
    let are : c.teams.result.now ≡ h.0.teams = c.teams.ensures ∙ ap job_teams h.1 in
    subst (λ (ks : List ℕ). All (λ k. k < length i.teams) ks) (sym are) (known_teams i p c.args.j h.0 c.requires.legal h.1)
