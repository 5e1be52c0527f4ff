use Rattle.std.proofs.Common.{subst}
use Rattle.day_commands.specs.Taken.{IsTakenSo, output_of, planning_of}
use Rattle.day_commands.specs.declared.entries.Taken.{Taken}
use Rattle.day_commands.proofs.Passed.{held_back}
use Rattle.day_commands.proofs.entries.Taker.take.Goals as goal

pub returns-in-Err-clause-taken : goal.returns-in-Err-clause-taken
returns-in-Err-clause-taken g c =
    let output = output_of c.args.self.now in
    let s = planning_of c.args.self.now in
    let new = planning_of c.write.new.self in
    let got = g.K.Sink.got c.args.out.now in
    let mid = g.K.Sink.got c.write.new.out in
    held_back output s c.args.entry.now c.in-Whole.proved new got mid (g.K.Sink.got c.flush.new.self)
    (subst (λ (t : Taken). IsTakenSo output s c.args.entry.now t new got mid) c.in-Whole.is c.in_ok-taken.ensures.taken) c.flush.ensures.same
