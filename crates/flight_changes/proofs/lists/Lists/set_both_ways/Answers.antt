use Rattle.std.proofs.Common.{◌≡◌, ◌∙◌, ap, map, subst, sym}
use Rattle.day_terms.specs.State.{given_time, with_time_between}
use Rattle.flight_changes.specs.Kept.{given_of, kept}
use Rattle.flight_changes.specs.Limits.{IsState}
use Rattle.flight_changes.proofs.Times.{inserted, few_given}
use Rattle.flight_changes.proofs.States.{other_times}
use Rattle.flight_changes.proofs.lists.Lists.set_both_ways.Goals as goal

at_end : (c : goal.After-unwrap-2) → map given_of c.insert-2.new.self.entries ≡ given_time (given_time (kept c.self.inside).times c.args.from c.args.to c.args.minutes) c.args.to c.args.from c.args.minutes
at_end c =
    let m = c.args.minutes in
    let e = rw c.unwrap.ensures at c.insert.ensures.entries in
    let f = rw c.unwrap-2.ensures at c.insert-2.ensures.entries in
    let one = ap (map given_of) e ∙ inserted c.reserve.new.self.entries c.args.from c.args.to m ∙ ap (λ es. given_time (map given_of es) c.args.from c.args.to m) c.reserve.ensures.entries in
    ap (map given_of) f ∙ inserted c.insert.new.self.entries c.args.to c.args.from m ∙ ap (λ gs. given_time gs c.args.to c.args.from m) one

pub invariant_of-self-2 : goal.invariant_of-self-2
invariant_of-self-2 c =
    let s = kept c.self.inside in
    let is = c.self.invariant.state in
    let one = few_given s.times c.args.from c.args.to c.args.minutes c.requires is.times in
    let all = few_given _ c.args.to c.args.from c.args.minutes c.requires one in
    record {
      teams_by_name = c.self.invariant.teams_by_name;
      tasks_by_name = c.self.invariant.tasks_by_name;
      state = subst (λ ts. IsState (record s { times = ts })) (sym (at_end c)) (other_times s is _ all);
    }

pub returns-clause-ok : goal.returns-clause-ok
returns-clause-ok c = ap (λ t. record (kept c.self.inside) { times = t }) (at_end c) ∙ ap (λ s. with_time_between (with_time_between s c.args.from c.args.to c.args.minutes) c.args.to c.args.from c.args.minutes) c.self.view_is
