use Rattle.std.proofs.Common.{◌∙◌, ap, sym, subst}
use Rattle.std.specs.Prelude.{All}
use Rattle.day_terms.specs.Ranges.{IsInRange}
use Rattle.day_faults.specs.Days.{TellsWith, stops_of}
use Rattle.day_faults.specs.Stops.{stops_among}
use Rattle.day_faults.proofs.Goes.{told_bad}
use Rattle.day_faults.proofs.passes.Pass.take_day.Goals as goal

pub take_all-requires-clause-range : goal.take_all-requires-clause-range
take_all-requires-clause-range c = subst (All IsInRange) (sym c.as_slice-entries.ensures) c.requires.range

pub returns-in_default : goal.returns-in_default
returns-in_default c =
    subst (λ s. TellsWith s (stops_among c.args.self.now.desk 1 c.args.day.now.entries) (stops_of c.take_all.new.self.records.items)) (sym c.in_default.is)
    (c.in_ok-take_all.ensures ∙ ap (stops_among c.args.self.now.desk 1) c.as_slice-entries.ensures)

pub returns : goal.returns
returns c =
    subst (λ s. TellsWith s (stops_among c.args.self.now.desk 1 c.args.day.now.entries) (stops_of c.go_on.new.self.records.items)) (sym c.in-Some.is)
    (told_bad _ (stops_of c.take_all.new.self.records.items) _ c.in-Some.bad (c.in_ok-take_all.ensures ∙ ap (stops_among c.args.self.now.desk 1) c.as_slice-entries.ensures) c.in_ok-go_on.ensures)
