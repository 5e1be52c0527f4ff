use Rattle.std.proofs.Common.{◌<◌, ◌-◌, arith, length, pos, subst}
use Rattle.std.specs.Prelude.{◌<ℤ◌}
use Rattle.crew_terms.specs.Leaf.{bound_of}
use Rattle.search_terms.specs.BasicChoice.{choice_of}
use Rattle.search_terms.specs.Rows.{number, value_row}
use Rattle.share_terms.specs.Shares.{choice_value}
use Rattle.search_terms.specs.declared.TheConstants.{RIGHT, VALUE}
use Rattle.master_laws.specs.Loss.{rounding_loss}
use Rattle.master_laws.proofs.Loose.{in_parts}
use Rattle.master_laws.proofs.losses.rounded_prices_are_near.Goals as goal

pub returns : goal.returns
returns c = λ n routes made t prices worths whole x is run done legal rounded worth unbeaten parts.
    let b = (c.run_keeps.ensures.feasible n routes made t run).basic in
    let end : length t.rows - 1 < length t.rows = omega (arith, b.some) in
    let up = subst (λ k. pos 0 <ℤ number (value_row t) k) b.value (b.positive (length t.rows - 1) end) in
    let h = c.rounding_loses_little.ensures n routes made t prices worths run done legal rounded worth unbeaten in
    in_parts (number (value_row t) VALUE) (number (value_row t) RIGHT) (bound_of n prices worths) (rounding_loss n) (choice_value n (choice_of n routes whole x)) whole up
    (c.little_is_lost.ensures n is) h (c.optimal_choice.ensures.value n routes made t whole x run done legal parts)
