use Rattle.std.proofs.Common.{◌∙◌, subst, sym}
use Rattle.std.specs.Prelude.{Contains}
use Rattle.search_terms.specs.declared.Place.TheVariants.{Unused}
use Rattle.frac_master.specs.Columns.{route_of}
use Rattle.master_tests.proofs.States.{entered}
use Rattle.master_tests.proofs.asked.enter.Goals as goal

pub add_column-requires-clause-team : goal.add_column-requires-clause-team
add_column-requires-clause-team c =
    subst (λ l. Contains l (Unused c.args.team)) (sym c.requires.places) ((c.places_are.ensures.teams c.args.limits.now.limits c.args.team).1 c.requires.team)

pub returns : goal.returns
returns c =
    let e = entered c.args.master.now c.add_column.new.self c.args.column (route_of c.args.team c.args.visits.now) c.add_column.result c.requires.rising c.add_column.ensures.adds in
    record { places = e.places ∙ c.requires.places; columns = e.columns }
