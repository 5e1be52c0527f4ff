use Rattle.std.proofs.Common.{ltb, rules}
use Rattle.std.proofs.lemmas.List.Sorted.{answers_always}
use Rattle.crew_instance.proofs.GoodJobs.{rising_decides}
use Rattle.crew_instance.proofs.rules.is_team_list.Goals as goal

pub returns-then-teams-wanted : goal.returns-then-teams-wanted
returns-then-teams-wanted c =
    let rising = rising_decides c.args.teams.now c.is_sorted_by.result (c.is_sorted_by.ensures.cases ltb (answers_always _ _ _ (λ f a r g h. search rules))) in
    ((λ t. (c.if-teams-wanted.true, rising.0 t)), (λ e. rising.1 e.1))
