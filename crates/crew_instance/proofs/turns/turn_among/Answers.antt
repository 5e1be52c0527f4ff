use Rattle.std.proofs.Common.{◌≡◌, get_or, sym, ◌∙◌}
use Rattle.std.specs.Int.{bit_at}
use Rattle.std.proofs.lemmas.Nat.Bits.{shr_and_one}
use Rattle.crew_instance.proofs.turns.turn_among.Goals as goal

pub returns-then-sets-at-eq0 : goal.returns-then-sets-at-eq0
returns-then-sets-at-eq0 c = λ t does.
    let set = get_or c.args.sets.now c.args.task 0 in
    let out : bit_at set c.args.k ≡ 0 = sym (shr_and_one set c.args.k) ∙ c.if-sets-at-eq0.true in
    let one : bit_at set c.args.k ≡ 1 = c.requires.sets c.args.k c.args.task t c.if-at-sets.true does in
    cc
