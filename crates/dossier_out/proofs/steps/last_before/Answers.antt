use Rattle.std.proofs.Common.{◌∙◌, ap, w64}
use Rattle.std.specs.Prelude.{Some}
use Rattle.std.proofs.lemmas.Int.{to_z-of_z}
use Rattle.dossier_out.proofs.Runs.{last_at, none_yet}
use Rattle.dossier_out.proofs.steps.last_before.Goals as goal

pub returns-then-t-first : goal.returns-then-t-first
returns-then-t-first c = none_yet c.args.table.now c.args.j c.args.first c.args.t c.if-t-first.true

pub returns : goal.returns
returns c = ap Some (to_z-of_z w64 c.get.result (record { sfits = c.get.type_inv })) ∙ last_at c.args.table.now c.args.j c.args.first c.args.t c.get.result c.requires.order c.if-t-first.false c.get.ensures
