use Rattle.replan.proofs.Numbers.{counts_are}
use Rattle.replan.proofs.Dossiers.{a_plan, few_causes, round_dossier, writable}
use Rattle.replan.proofs.laws.outcomes_are_rounds.Goals as goal

pub returns : goal.returns
returns x = record {
  writable = λ g o of. writable x.solved_trees_are_proved.ensures x.solved_causes_may_be_told.ensures.count g o of;
  dossier = λ handed g o d of kept is.
      round_dossier x.solved_trees_are_proved.ensures x.solved_causes_may_be_told.ensures.count x.solved_causes_may_be_told.ensures.causes x.solved_pools_are_of_the_instance.ensures x.written_dossiers_are_good.ensures x.leaves_keep_their_prices.ensures
      x.good_bounds.ensures x.one_tree.ensures x.outcomes_are_searched.ensures x.searches_are_caused.ensures x.told_causes_tell.ensures handed g o d of kept is;
  few = λ g o of. few_causes x.solved_trees_are_proved.ensures x.solved_causes_may_be_told.ensures.count g o of;
  plan = λ g o of. a_plan x.solved_trees_are_proved.ensures x.solved_causes_may_be_told.ensures.count g o of;
  counts = λ g o d counts of is numbers. counts_are x.one_tree.ensures g o d counts of is numbers;
}
