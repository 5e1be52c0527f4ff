use Rattle.std.proofs.Common.{ap, w64}
use Rattle.std.proofs.lemmas.Int.{to_z-of_z}
use Rattle.crew_io.specs.Chains.{puts_same}
use Rattle.dossier_out.specs.Steps.{table_in}
use Rattle.dossier_out.specs.Tables.{team_lines}
use Rattle.dossier_out.specs.Texts.{text}
use Rattle.potentials.specs.Table.{phi}
use Rattle.sheet_write.proofs.Rows.{team_table}
use Rattle.sheet_write.proofs.teams.put_team.Goals as goal

pub returns-clause-puts : goal.returns-clause-puts
returns-clause-puts g c =
    let n = c.args.limits.now.limits in
    let k = c.args.k in
    let worth = c.price_rewards_with-worth.result in
    let table = c.price_rewards_with-worth.new.table in
    let found = c.price_rewards_with-worth.ensures in
    record {
      table = table_in n k worth table;
      is = team_table c.minutes_are_permitted.ensures n c.args.prices.now k c.requires.prices (phi table) worth (record { sfits = c.price_rewards_with-worth.type_inv }) found.worth found.holds;
      puts = puts_same g.K.Sink _ _ _ _ _ (ap (λ v. text (team_lines n k (table_in n k v table))) (to_z-of_z w64 worth (record { sfits = c.price_rewards_with-worth.type_inv }))) c.put_table.ensures;
    }
