use Rattle.std.proofs.Common.{ap, ◌∙◌, w64}
use Rattle.std.proofs.lemmas.Int.{to_z-of_z}
use Rattle.crew_terms.specs.Leaf.{earned}
use Rattle.dossier_out.specs.Steps.{table_in}
use Rattle.crew_io.specs.Chains.{puts_same}
use Rattle.dossier_out.specs.Tables.{team_lines}
use Rattle.cert_write.proofs.TeamTables.{table_is}
use Rattle.dossier_out.specs.Texts.{text}
use Rattle.cert_write.proofs.tables.put_team.Goals as goal

pub returns-clause-puts : goal.returns-clause-puts
returns-clause-puts g c t priced =
    let n = c.args.limits.now.limits in
    let k = c.args.k in
    let p = c.args.prices.now in
    let found = c.price_with-worth.ensures in
    puts_same g.K.Sink _ _ _ _ _
    (ap (λ v. text (team_lines n k (table_in n k v c.price_with-worth.new.table))) (to_z-of_z w64 c.price_with-worth.result (record { sfits = c.price_with-worth.type_inv }))
    ∙ ap (λ x. text (team_lines n k x))
    (table_is n k p _ (c.teams_have_bests.ensures.one n k (earned p k)) found.best c.price_with-worth.result found.worth (c.one_worth.ensures n k (earned p k)) t priced))
    c.put_table.ensures
