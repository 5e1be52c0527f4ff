use Rattle.std.proofs.Common.{◌≡◌, ◌∙◌, ap, map, subst, sym}
use Rattle.day_terms.specs.State.{given_time, with_time_between}
use Rattle.flight_changes.specs.Kept.{given_of, kept}
use Rattle.flight_changes.specs.Limits.{IsState}
use Rattle.flight_changes.proofs.Times.{inserted, few_given}
use Rattle.flight_changes.proofs.States.{other_times}
use Rattle.flight_changes.proofs.lists.Lists.set_time.Goals as goal

at_end : (c : goal.In_ok-insert) → map given_of c.insert.new.self.entries ≡ given_time (kept c.self.inside).times c.args.from c.args.to c.args.minutes
at_end c = ap (map given_of) c.in_ok-insert.ensures.entries ∙ inserted c.self.inside.times.entries c.args.from c.args.to c.args.minutes

pub invariant_of-self-2 : goal.invariant_of-self-2
invariant_of-self-2 c =
    let s = kept c.self.inside in
    let is = c.self.invariant.state in
    let all = few_given s.times c.args.from c.args.to c.args.minutes c.requires is.times in
    record {
      teams_by_name = c.self.invariant.teams_by_name;
      tasks_by_name = c.self.invariant.tasks_by_name;
      state = subst (λ ts. IsState (record s { times = ts })) (sym (at_end c)) (other_times s is _ all);
    }

pub returns-clause-ok : goal.returns-clause-ok
returns-clause-ok c = ap (λ t. record (kept c.self.inside) { times = t }) (at_end c) ∙ ap (λ s. with_time_between s c.args.from c.args.to c.args.minutes) c.self.view_is
