use Rattle.std.proofs.Common.{sym}
use Rattle.audit_command.proofs.DayLaws.{DayLaws}
use Rattle.audit_command.proofs.OneEvent.{one_event}
use Rattle.audit_command.proofs.laws.one_event.Goals as goal

pub returns : goal.returns
returns c = λ input event other p q.
    let laws : DayLaws = record {
      takes = c.state_takes_entries.ensures;
      refusal = c.plans_to_come_decide_nothing.ensures.refusal;
      round = c.plans_to_come_decide_nothing.ensures.round;
      count = c.rounds_are_of_plans.ensures.count;
      appended = c.rounds_go_on.ensures.appended;
      one_more = c.rounds_go_on.ensures.one_more;
      next_state = c.state_goes_on.ensures.one_more;
      state = c.state_goes_on.ensures.later;
      rounds = c.state_goes_on.ensures.rounds;
      taken = c.state_goes_on.ensures.taken;
    } in
    sym (one_event laws c.one_reading.ensures.of_day c.one_refusal.ensures c.refused_is_not_accepted.ensures c.one_way_on.ensures.dossiers c.one_way_on.ensures.refusal c.lines_in_text.ensures.either
    input event other p q)
