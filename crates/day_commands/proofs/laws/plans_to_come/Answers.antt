use Rattle.day_commands.proofs.laws.plans_to_come.Goals as goal

pub returns : goal.returns
returns c = record {
  state = c.state_goes_on.ensures.later;
  rounds = c.state_goes_on.ensures.rounds;
  taken = c.state_goes_on.ensures.taken;
  count = c.rounds_are_of_plans.ensures.count;
  refusal = c.plans_to_come_decide_nothing.ensures.refusal;
  round = c.plans_to_come_decide_nothing.ensures.round;
  reading = λ text entries others refused other day same. (c.one_reading.ensures.of_day text entries others refused other day same).0;
}
