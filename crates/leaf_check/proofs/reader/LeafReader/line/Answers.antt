use Rattle.leaf_check.proofs.Told.{at_price, at_extra, at_worth, at_phi}
use Rattle.leaf_check.proofs.reader.LeafReader.line.Goals as goal

pub returns-in-Price-clause-judged : goal.returns-in-Price-clause-judged
returns-in-Price-clause-judged c = λ a s g stands.
    at_price a c.args.self.now c.price_line.new.self s c.args.words c.price_line.result c.in-Price.is stands (c.price_line.ensures.tells a g)

pub returns-in-Extra-clause-judged : goal.returns-in-Extra-clause-judged
returns-in-Extra-clause-judged c = λ a s g stands.
    at_extra a c.args.limits.now.limits c.args.self.now c.extra_line.new.self s c.args.words c.extra_line.result c.in-Extra.task g.limits c.in-Extra.is stands
    (λ prices rows js read row. c.extra_line.ensures.tells a prices rows js g read row)

pub returns-in-Worth-clause-judged : goal.returns-in-Worth-clause-judged
returns-in-Worth-clause-judged c = λ a s g stands.
    at_worth a c.args.limits.now.limits c.args.self.now c.worth_line.new.self s c.args.words c.worth_line.result c.in-Worth.team g.limits c.in-Worth.is stands
    (λ leaf left upto. c.worth_line.ensures.tells a leaf left g upto)

pub returns-in-Phi-clause-judged : goal.returns-in-Phi-clause-judged
returns-in-Phi-clause-judged c = λ a s g stands.
    at_phi a c.args.limits.now.limits c.args.self.now c.potentials_line.new.self s c.args.words c.potentials_line.result c.in-Phi.team c.in-Phi.task g.limits c.in-Phi.is stands
    (λ leaf left table js upto potentials row. c.potentials_line.ensures.tells a leaf left table js g upto potentials row)
