use Rattle.std.proofs.Common.{◌≡◌, ◌==◌, ◌&&◌, length, ap, sym, ◌∙◌, eq-eqb}
use Rattle.std.specs.List.{list_all}
use Rattle.std.proofs.lemmas.Bool.{ne_eqb}
use Rattle.round_changes.specs.Changes.{has_name, same_teams}
use Rattle.round_changes.proofs.changes.same_teams.Goals as goal

pub returns-then-xs-ys : goal.returns-then-xs-ys
unfolding same_teams
returns-then-xs-ys c =
    c.are_among.ensures ∙ sym (ap (λ b. b && list_all (has_name c.args.ys.now) c.args.xs.now) (eq-eqb (length c.args.xs.now) (length c.args.ys.now) c.if-xs-ys.true))

pub returns-else-xs-ys : goal.returns-else-xs-ys
unfolding same_teams
returns-else-xs-ys c =
    let no = ne_eqb (length c.args.xs.now) (length c.args.ys.now) c.if-xs-ys.false in
    no ∙ sym (ap (λ b. b && list_all (has_name c.args.ys.now) c.args.xs.now) no)
