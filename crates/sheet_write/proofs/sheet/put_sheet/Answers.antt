use Rattle.std.proofs.Common.{◌≡◌, sym, subst, refl, ap, arith}
use Rattle.crew_terms.specs.Limits.{Limits, root_limits}
use Rattle.crew_io.specs.Chains.{puts_then, puts_front, puts_same}
use Rattle.label_pricing.specs.Pricing.{HasRoom}
use Rattle.potentials.specs.Table.{IsTableOf}
use Rattle.squeeze_terms.specs.MinutePrices.{AreMinutePrices}
use Rattle.sheet_write.specs.Given.{given}
use Rattle.sheet_write.specs.Sheets.{IsSheetOf}
use Rattle.sheet_write.proofs.Good.{sheet_with}
use Rattle.sheet_write.proofs.TeamsSoFar.{at_root}
use Rattle.sheet_write.proofs.Whole.{front_of_head, front_of_prices, front_of_tables, sheet_text}
use Rattle.sheet_write.proofs.sheet.put_sheet.Goals as goal

pub put_prices-requires : goal.put_prices-requires
put_prices-requires g c = c.requires.prices.tasks

pub put_teams-requires-clause-prices : goal.put_teams-requires-clause-prices
put_teams-requires-clause-prices g c = subst (λ (n : Limits). AreMinutePrices n.instance c.args.parts.now.prices.now) (sym c.requires.root) c.requires.prices

pub put_teams-requires-clause-room : goal.put_teams-requires-clause-room
put_teams-requires-clause-room g c = subst (λ (n : Limits). HasRoom n.instance c.args.pricer.now) (sym c.requires.root) c.requires.room

pub put_teams-requires-clause-table : goal.put_teams-requires-clause-table
put_teams-requires-clause-table g c = subst (λ (n : Limits). IsTableOf n.instance c.args.table.now) (sym c.requires.root) c.requires.table

pub returns-in_err-put_head : goal.returns-in_err-put_head
returns-in_err-put_head g c =
    let s = given c.args.parts.now in
    let ts = c.teams_have_tables.ensures (root_limits s.instance) s.prices 0 c.tasks.ensures.limits c.requires.prices (omega arith) in
    let parts : IsSheetOf s (sheet_with s ts.0) = record { instance = refl; budget = refl; bound = refl; prices = refl; tables = ts.1 } in
    record {
      sheet = sheet_with s ts.0;
      parts = parts;
      good = c.proved_sheets_are_good.ensures s (sheet_with s ts.0) c.tasks.ensures.limits c.requires.prices parts;
      puts = puts_front g.K.Sink _ _ _ _ _ c.from_residual.result c.from_residual.ensures.0 c.in_err-put_head.ensures (front_of_head s ts.0);
    }

pub returns-in_err-put_prices : goal.returns-in_err-put_prices
returns-in_err-put_prices g c =
    let s = given c.args.parts.now in
    let ts = c.teams_have_tables.ensures (root_limits s.instance) s.prices 0 c.tasks.ensures.limits c.requires.prices (omega arith) in
    let parts : IsSheetOf s (sheet_with s ts.0) = record { instance = refl; budget = refl; bound = refl; prices = refl; tables = ts.1 } in
    record {
      sheet = sheet_with s ts.0;
      parts = parts;
      good = c.proved_sheets_are_good.ensures s (sheet_with s ts.0) c.tasks.ensures.limits c.requires.prices parts;
      puts =
          puts_front g.K.Sink _ _ _ _ _ c.from_residual-in_err-put_prices.result c.from_residual-in_err-put_prices.ensures.0
          (puts_then g.K.Sink _ _ _ _ _ _ _ c.in_ok-put_head.ensures c.in_err-put_prices.ensures) (front_of_prices s ts.0);
    }

pub returns-in_err-put_teams : goal.returns-in_err-put_teams
returns-in_err-put_teams g c =
    let s = given c.args.parts.now in
    let ts = at_root g.K.Sink _ _ s.prices _ _ _ c.requires.root c.in_err-put_teams.ensures in
    let parts : IsSheetOf s (sheet_with s ts.tables) = record { instance = refl; budget = refl; bound = refl; prices = refl; tables = ts.are } in
    record {
      sheet = sheet_with s ts.tables;
      parts = parts;
      good = c.proved_sheets_are_good.ensures s (sheet_with s ts.tables) c.tasks.ensures.limits c.requires.prices parts;
      puts =
          puts_front g.K.Sink _ _ _ _ _ c.from_residual-in_err-put_teams.result c.from_residual-in_err-put_teams.ensures.0
          (puts_then g.K.Sink _ _ _ _ _ _ _ (puts_then g.K.Sink _ _ _ _ _ _ _ c.in_ok-put_head.ensures c.in_ok-put_prices.ensures) ts.puts) (front_of_tables s ts.tables);
    }

pub returns : goal.returns
returns g c =
    let s = given c.args.parts.now in
    let ts = at_root g.K.Sink _ _ s.prices _ _ _ c.requires.root c.in_ok-put_teams.ensures in
    let parts : IsSheetOf s (sheet_with s ts.tables) = record { instance = refl; budget = refl; bound = refl; prices = refl; tables = ts.are } in
    record {
      sheet = sheet_with s ts.tables;
      parts = parts;
      good = c.proved_sheets_are_good.ensures s (sheet_with s ts.tables) c.tasks.ensures.limits c.requires.prices parts;
      puts =
          puts_same g.K.Sink _ _ _ _ _ (sheet_text s ts.tables)
          (puts_then g.K.Sink _ _ _ _ _ _ _
          (puts_then g.K.Sink _ _ _ _ _ _ _ (puts_then g.K.Sink _ _ _ _ _ _ _ c.in_ok-put_head.ensures c.in_ok-put_prices.ensures) ts.puts)
          c.put_line.ensures);
    }
