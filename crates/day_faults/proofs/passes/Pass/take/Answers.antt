use Rattle.std.proofs.Common.{◌≡◌, ◌∙◌, ◌++◌, None, Some, ap, sym, append-nil}
use Rattle.std.specs.Prelude.{option_map}
use Rattle.day_terms.specs.Refusal.{refusal_of}
use Rattle.flight_changes.specs.Faults.{fault_of}
use Rattle.day_faults.specs.Days.{stops_of}
use Rattle.day_faults.proofs.Goes.{goes_on_none, goes_on_with, none_told, some_told}
use Rattle.day_faults.proofs.passes.Pass.take.Goals as goal

pub returns-in_default-clause-told : goal.returns-in_default-clause-told
returns-in_default-clause-told c =
    let none : None ≡ option_map fault_of (refusal_of c.args.self.now.desk c.args.entry.now) = sym c.in_default.is ∙ c.in_ok-told.ensures.told in
    sym (append-nil (stops_of c.args.self.now.records.items)) ∙ ap (λ more. stops_of c.args.self.now.records.items ++ more) (sym (none_told c.args.number _ none))

pub returns-in_default-clause-more : goal.returns-in_default-clause-more
returns-in_default-clause-more c = goes_on_none (stops_of c.args.self.now.records.items)

pub returns-clause-told : goal.returns-clause-told
returns-clause-told c =
    let some : Some c.in-Some.fault ≡ option_map fault_of (refusal_of c.args.self.now.desk c.args.entry.now) = sym c.in-Some.is ∙ c.in_ok-told.ensures.told in
    c.in_ok-add.ensures ∙ ap (λ more. stops_of c.args.self.now.records.items ++ more) (sym (some_told c.args.number _ _ some))

pub returns-clause-more : goal.returns-clause-more
returns-clause-more c = goes_on_with _ _ _ c.in_ok-add.ensures
