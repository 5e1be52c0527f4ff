use Rattle.std.proofs.Common.{ap, ◌%◌}
use Rattle.day_gen.specs.Draws.{draw, after_draw}
use Rattle.day_gen.proofs.draws.draw.Goals as goal

pub returns-clause-value : goal.returns-clause-value
unfolding draw
returns-clause-value c = ap (λ p. p.0 % c.args.k) c.next_word.ensures

pub returns-clause-one : goal.returns-clause-one
unfolding after_draw
returns-clause-one c = ap (λ p. p.1) c.next_word.ensures
