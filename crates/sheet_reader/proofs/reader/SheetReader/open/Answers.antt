use Rattle.std.proofs.Common.{length, ap, refl, subst, sym, arith}
use Rattle.minute_rules.specs.Rules.{HasRuleRoom}
use Rattle.sheet_laws.specs.Priced.{ArePriced}
use Rattle.sheet_reader.proofs.reader.SheetReader.open.Goals as goal

pub returns : goal.returns
returns c = λ budget.
    let i = c.args.limits.now.limits.instance in (
      record {
        roomy = record { room = subst (λ h. HasRuleRoom h c.in_ok-room.room) c.instance.ensures.instance c.in_ok-room.ensures; possible = c.in_ok-possible.ensures };
        prices = subst (ArePriced i) (sym c.new.ensures) (c.prices_are_read_in_turn.ensures.none i);
        count = ap length c.new.ensures;
        few = omega arith;
        none = c.new-2.ensures.items;
      },
      refl,
    )
