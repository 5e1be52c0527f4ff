use Rattle.std.proofs.Common.{◌≡◌, ◌∙◌, true, false}
use Rattle.day_audit.specs.Kept.{handed_in}
use Rattle.day_audit.proofs.Fits.{all_fit, other_kept, other_nodes}
use Rattle.day_audit.proofs.audit.fit_of.Goals as goal

pub returns-then-not-are_same : goal.returns-then-not-are_same
returns-then-not-are_same c = λ d w g e.
    let t : c.are_same.result ≡ true = c.are_same.ensures.1 (c.instance.ensures d w ∙ e) in
    let u : c.are_same.result ≡ false = c.if-not-are_same.true in
    cc

pub returns-then-nodes : goal.returns-then-nodes
returns-then-nodes c = λ d w g.
    other_nodes c.args.checker.now.at c.args.instance.now c.instance.result.now (handed_in c.args.carry.now) c.args.nodes c.nodes.result c.instance.ensures c.nodes.ensures
    (c.are_same.ensures.0 c.if-not-are_same.false) c.if-nodes.true d w

pub returns-then-not-keeps : goal.returns-then-not-keeps
returns-then-not-keeps c = λ d w g.
    other_kept c.args.checker.now.at c.args.instance.now c.instance.result.now (handed_in c.args.carry.now) c.args.nodes c.nodes.result c.instance.ensures c.nodes.ensures
    (c.are_same.ensures.0 c.if-not-are_same.false) c.if-nodes.false c.in_ok-kept.kept c.in_ok-kept.ensures c.teams.ensures.limits c.kept_routes_are_one.ensures d
    (λ e.
    let t : c.keeps.result ≡ true = (c.keeps.ensures d w g).1 e in
    let u : c.keeps.result ≡ false = c.if-not-keeps.true in
    cc) w

pub returns : goal.returns
returns c = λ d w g.
    all_fit c.args.checker.now.at c.args.instance.now c.instance.result.now (handed_in c.args.carry.now) c.args.nodes c.nodes.result c.instance.ensures c.nodes.ensures
    (c.are_same.ensures.0 c.if-not-are_same.false) c.if-nodes.false c.in_ok-kept.kept c.in_ok-kept.ensures d g ((c.keeps.ensures d w g).0 c.if-not-keeps.false) w
