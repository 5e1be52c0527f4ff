use Rattle.std.proofs.Common.{refl}
use Rattle.bundle_join.proofs.Bytes.{all_written}
use Rattle.bundle_join.proofs.OnePlan.{planned, writable}
use Rattle.bundle_join.proofs.first.text_of_plan.Goals as goal

pub write_dossier-requires : goal.write_dossier-requires
write_dossier-requires c = writable c.args.instance.now _ c.args.plan.now _ _ c.new-columns.ensures c.in_ok-tree.ensures refl

pub returns-in-Ok : goal.returns-in-Ok
returns-in-Ok c =
    let w = c.in-Ok.ensures in (
      w.dossier,
      planned c.args.instance.now _ c.args.plan.now _ _ c.new-columns.ensures c.in_ok-tree.ensures refl c.teams.ensures.limits c.requires c.first_trees_are_proved.ensures.open_one c.written_dossiers_are_good.ensures w.dossier w.parts,
      all_written _ _ _ _ c.new-kept.ensures c.into_bytes.ensures w.puts.all,
    )
