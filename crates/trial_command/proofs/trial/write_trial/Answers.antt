use Rattle.trial_command.proofs.Runs.{runs_end, runs_memory}
use Rattle.trial_command.proofs.trial.write_trial.Goals as goal

pub returns-in_default : goal.returns-in_default
returns-in_default g c = runs_memory g.K.Sink c.args.trial c.args.out.now _

pub returns : goal.returns
returns g c =
    let p = c.in-Ok.ensures in
    runs_end g.K.Sink c.args.trial c.args.out.now c.put_trial-put.new.out p.0 p.1 c.in-Ok.verdict p.2 c.put_trial-put.result (c.put_trial-put.ensures p.0 p.2) c.end_of.result c.end_of.ensures
