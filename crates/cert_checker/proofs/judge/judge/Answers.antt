use Rattle.std.proofs.Common.{sym, subst}
use Rattle.std.specs.Prelude.{Ok}
use Rattle.cert_checker.specs.Due.{IsStepWithRoom}
use Rattle.cert_checker.proofs.judge.judge.Goals as goal

pub returns-in-Pool-clause-step : goal.returns-in-Pool-clause-step
returns-in-Pool-clause-step c = subst (λ due. IsStepWithRoom due c.args.words c.pool_line.result) (sym c.in-Pool.is) c.pool_line.ensures

pub returns-in-Route-clause-step : goal.returns-in-Route-clause-step
returns-in-Route-clause-step c = subst (λ due. IsStepWithRoom due c.args.words c.route_line.result) (sym c.in-Route.is) c.route_line.ensures

pub returns-in_ok-plan_line-in-Plan-clause-step : goal.returns-in_ok-plan_line-in-Plan-clause-step
returns-in_ok-plan_line-in-Plan-clause-step c = subst (λ due. IsStepWithRoom due c.args.words (Ok c.in_ok-plan_line-in-Plan.field-0)) (sym c.in-Plan.is) c.in_ok-plan_line-in-Plan.ensures

pub returns-in-Job-clause-step : goal.returns-in-Job-clause-step
returns-in-Job-clause-step c = subst (λ due. IsStepWithRoom due c.args.words c.job_line.result) (sym c.in-Job.is) c.job_line.ensures

pub returns-in-Tree-clause-step : goal.returns-in-Tree-clause-step
returns-in-Tree-clause-step c = subst (λ due. IsStepWithRoom due c.args.words c.tree_line.result) (sym c.in-Tree.is) c.tree_line.ensures

pub returns-in_ok-node_line-in-Node-clause-step : goal.returns-in_ok-node_line-in-Node-clause-step
returns-in_ok-node_line-in-Node-clause-step c = subst (λ due. IsStepWithRoom due c.args.words (Ok c.in_ok-node_line-in-Node.field-0)) (sym c.in-Node.is) c.in_ok-node_line-in-Node.ensures

pub returns-in_ok-why_line-in-Why-clause-step : goal.returns-in_ok-why_line-in-Why-clause-step
returns-in_ok-why_line-in-Why-clause-step c = subst (λ due. IsStepWithRoom due c.args.words (Ok c.in_ok-why_line-in-Why.field-0)) (sym c.in-Why.is) c.in_ok-why_line-in-Why.ensures

pub returns-in_ok-share_line-in-Share-clause-step : goal.returns-in_ok-share_line-in-Share-clause-step
returns-in_ok-share_line-in-Share-clause-step c = subst (λ due. IsStepWithRoom due c.args.words (Ok c.in_ok-share_line-in-Share.field-0)) (sym c.in-Share.is) c.in_ok-share_line-in-Share.ensures

pub returns-in_ok-spare_line-in-Spare-clause-step : goal.returns-in_ok-spare_line-in-Spare-clause-step
returns-in_ok-spare_line-in-Spare-clause-step c = subst (λ due. IsStepWithRoom due c.args.words (Ok c.in_ok-spare_line-in-Spare.field-0)) (sym c.in-Spare.is) c.in_ok-spare_line-in-Spare.ensures

pub returns-in_ok-number_line-in-Leaf-clause-step : goal.returns-in_ok-number_line-in-Leaf-clause-step
returns-in_ok-number_line-in-Leaf-clause-step c = subst (λ due. IsStepWithRoom due c.args.words (Ok c.in_ok-number_line-in-Leaf.field-0)) (sym c.in-Leaf.is) c.in_ok-number_line-in-Leaf.ensures

pub returns-in_ok-end_line-in-End-clause-step : goal.returns-in_ok-end_line-in-End-clause-step
returns-in_ok-end_line-in-End-clause-step c = subst (λ due. IsStepWithRoom due c.args.words (Ok c.in_ok-end_line-in-End.field-0)) (sym c.in-End.is) c.in_ok-end_line-in-End.ensures
