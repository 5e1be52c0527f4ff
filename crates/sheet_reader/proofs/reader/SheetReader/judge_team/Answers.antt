use Rattle.std.proofs.Common.{◌≡◌, ◌+◌, ℤ, [], ◌∷◌, ◌++◌, length, ap, subst, sym, arith, ◌∙◌, length-append, FitsSigned, rules, to_z, of_z, w64}
use Rattle.std.proofs.lemmas.Int.{to_z-of_z}
use Rattle.squeeze_terms.specs.MinutePrices.{AreMinutePrices}
use Rattle.minute_rules.specs.Rules.{AreTeamRows}
use Rattle.potentials.specs.declared.rules.LocalVerdict.TheVariants as verdicts
use Rattle.sheet_reader.specs.declared.reader.SheetReader.{SheetReader}
use Rattle.sheet_reader.proofs.TeamLines.{worth_more}
use Rattle.sheet_reader.proofs.Verdicts.{potential_fails, rules_hold, verdict_by, worth_fails}
use Rattle.sheet_reader.proofs.reader.SheetReader.judge_team.Goals as goal

pub minute_rules-requires-clause-prices : goal.minute_rules-requires-clause-prices
minute_rules-requires-clause-prices c = subst (AreMinutePrices c.args.limits.now.limits.instance) (sym c.rows.ensures) c.requires.worths.prices

pub minute_rules-requires-clause-rows : goal.minute_rules-requires-clause-rows
minute_rules-requires-clause-rows c = subst (AreTeamRows c.args.limits.now.limits c.args.team) (sym c.rows-2.ensures) c.requires.rows

pub returns-in-Low : goal.returns-in-Low
returns-in-Low c = λ budget left tables table read begun.
    let n = c.args.limits.now.limits in
    let r = c.args.self.now in
    let fits : FitsSigned w64 r.worth = search rules in
    let worth : ℤ = to_z w64 (of_z w64 r.worth) in
    let is : worth ≡ table.worth = to_z-of_z w64 r.worth fits ∙ begun.worth in
    let h = verdict_by n c.args.team worth _ r.prices _ r.rows (verdicts.Low c.in-Low.task) c.rows.ensures c.rows-2.ensures c.in-Low.ensures.verdict in
    potential_fails n.instance budget n r c.args.team left tables table worth c.requires.root c.requires.worths read begun c.requires.rows.count is c.in-Low.task h

pub returns-in-Worth : goal.returns-in-Worth
returns-in-Worth c = λ budget left tables table read begun.
    let n = c.args.limits.now.limits in
    let r = c.args.self.now in
    let fits : FitsSigned w64 r.worth = search rules in
    let worth : ℤ = to_z w64 (of_z w64 r.worth) in
    let is : worth ≡ table.worth = to_z-of_z w64 r.worth fits ∙ begun.worth in
    let h = verdict_by n c.args.team worth _ r.prices _ r.rows verdicts.Worth c.rows.ensures c.rows-2.ensures c.in-Worth.ensures.verdict in
    worth_fails n.instance budget n r c.args.team left tables table worth c.requires.root c.requires.worths read begun c.requires.rows.count is h

pub after_team-requires : goal.after_team-requires
after_team-requires c =
    let has = c.requires.worths in
    let known = c.requires.known in
    let pushed = ap length c.in_ok-push-in-Holds.ensures.items in
    let size = has.count in
    record {
      worths = record {
        roomy = record { room = c.in-Holds.ensures.room; possible = has.roomy.possible };
        prices = has.prices;
        count = pushed ∙ length-append c.args.self.now.worths.items _ ∙ ap (λ n. n + 1) size;
        few = omega arith;
      };
    }

pub returns-in_ok-push-in-Holds : goal.returns-in_ok-push-in-Holds
returns-in_ok-push-in-Holds c = λ budget left tables table read begun.
    let n = c.args.limits.now.limits in
    let r = c.args.self.now in
    let fits : FitsSigned w64 r.worth = search rules in
    let worth : ℤ = to_z w64 (of_z w64 r.worth) in
    let same : worth ≡ r.worth = to_z-of_z w64 r.worth fits in
    let is : worth ≡ table.worth = same ∙ begun.worth in
    let h = verdict_by n c.args.team worth _ r.prices _ r.rows verdicts.Holds c.rows.ensures c.rows-2.ensures c.in-Holds.ensures.verdict in
    let new : SheetReader = record r { room = c.minute_rules.new.room; worths = c.push.new.self } in
    let items = c.in_ok-push-in-Holds.ensures.items in
    let pushed : new.worths.items ≡ r.worths.items ++ r.worth ∷ [] = cc in
    rules_hold n.instance budget n r c.args.team left tables table worth c.requires.root c.requires.worths read begun c.requires.rows.count is c.after_team.result c.after_team.new.self h
    (c.after_team.ensures budget left (tables ++ table ∷ []) (worth_more n.instance r new c.args.team left tables table r.worth read begun.worth pushed))
