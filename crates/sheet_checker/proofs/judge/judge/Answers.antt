use Rattle.std.proofs.Common.{sym, subst}
use Rattle.sheet_checker.specs.Due.{IsStep}
use Rattle.sheet_checker.proofs.judge.judge.Goals as goal

pub returns-in-First : goal.returns-in-First
returns-in-First c = subst (λ due. IsStep due c.args.words c.first_line.result) (sym c.in-First.is) c.first_line.ensures

pub returns-in-Head : goal.returns-in-Head
returns-in-Head c = subst (λ due. IsStep due c.args.words c.head_line.result) (sym c.in-Head.is) c.head_line.ensures

pub returns-in-Body : goal.returns-in-Body
returns-in-Body c = subst (λ due. IsStep due c.args.words c.body_line.result) (sym c.in-Body.is) c.body_line.ensures
