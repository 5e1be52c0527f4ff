use Rattle.search_terms.specs.Closing.{required_plan}
use Rattle.search_laws.proofs.Whole.{plan_feasible, within_node, only_plan}
use Rattle.search_laws.proofs.Frozen.{keeps_frozen}
use Rattle.search_laws.proofs.Required.{required_whole}
use Rattle.search_laws.proofs.one_plan_is_left.Goals as goal

pub returns : goal.returns
returns c = record {
  legal = λ n is node decided free all. record {
    feasible = plan_feasible c.required_teams_are_listed.ensures n is node.limits decided (required_plan n) (required_whole n) free all;
    frozen = keeps_frozen c.required_teams_are_listed.ensures n is node.limits node.inside (required_plan n) (required_whole n);
  };
  within = λ n is limits decided. within_node c.required_teams_are_listed.ensures n is limits decided (required_plan n) (required_whole n);
  only = λ n r is limits decided legal within. only_plan c.required_teams_are_listed.ensures n is limits decided (required_plan n) (required_whole n) r legal within;
}
