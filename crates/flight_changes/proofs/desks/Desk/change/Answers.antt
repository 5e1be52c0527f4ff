use Rattle.std.proofs.Common.{sym, ap, subst, ◌∙◌}
use Rattle.std.specs.Prelude.{All}
use Rattle.day_terms.specs.Entries.{after_entry}
use Rattle.day_terms.specs.Refusal.{work_against}
use Rattle.flight_changes.specs.Limits.{AreDoable, AreTeamsKnown, IsState}
use Rattle.flight_changes.specs.Named.{left_jobs}
use Rattle.flight_changes.proofs.Entries.{left_known, none_against, none_doable, with_jobs}
use Rattle.flight_changes.proofs.desks.Desk.change.Goals as goal

pub invariant_of-self-2 : goal.invariant_of-self-2
invariant_of-self-2 c =
    let old = c.self.inside.lists in
    let new = c.change.new.self in
    let entry = c.args.entry.now in
    let last = c.self.inside.last_plan.items in
    let none = ap (λ s. s.frozen) c.self.view_is ∙ c.requires.free in
    let known : All (AreTeamsKnown (after_entry old entry)) (left_jobs entry last) = left_known old entry c.requires.lists last c.self.invariant.last_plan in
    let here : All (AreTeamsKnown new) (left_jobs entry last) = subst (λ lists. All (AreTeamsKnown lists) (left_jobs entry last)) (sym c.in_ok-change.ensures.ok) known in
    let d = subst (AreDoable new) (sym none) (none_doable new c.are_within_limits.ensures c.first_fault_is_told.ensures.feasible c.empty_plan_is_feasible.ensures) in
    record {
      last_plan = subst (All (AreTeamsKnown new)) (sym c.end_jobs.ensures) here;
      frozen = record { known = d.known; feasible = d.feasible };
    }

pub returns-clause-taken : goal.returns-clause-taken
returns-clause-taken c =
    let old = c.self.inside.lists in
    let entry = c.args.entry.now in
    let last = c.self.inside.last_plan.items in
    let none = ap (λ s. s.frozen) c.self.view_is ∙ c.requires.free in
    let limits = subst IsState c.in_ok-change.ensures.ok c.are_within_limits.ensures in
    ap (λ s. work_against s entry) (sym c.self.view_is)
    ∙ ap (λ frozen. work_against (with_jobs old last frozen) entry) none
    ∙ none_against old last entry c.requires.lists limits c.first_fault_is_told.ensures.feasible c.empty_plan_is_feasible.ensures
