use Rattle.std.proofs.Common.{◌-◌, arith}
use Rattle.crew_terms.specs.Limits.{teams_in}
use Rattle.sheet_write.proofs.Tables.{tables_from}
use Rattle.sheet_write.proofs.laws.teams_have_tables.Goals as goal

pub returns : goal.returns
returns c = λ n p k is are within.
    tables_from (record {
      minutes = c.minutes_are_permitted.ensures;
      some = c.teams_have_bests.ensures.some;
      hold = c.best_potentials_hold.ensures;
      fit = c.earnings_fit.ensures.worths;
    }) n p is are (teams_in n - k) k (omega arith)
