use Rattle.day_explain.specs.Text.{long_text}
use Rattle.day_explain.proofs.Said.{part_of_all}
use Rattle.day_explain.proofs.read.put_long.Goals as goal

pub returns-in-Ok-clause-part : goal.returns-in-Ok-clause-part
returns-in-Ok-clause-part g c = part_of_all (g.K.Sink.got c.args.out.now) (g.K.Sink.got c.put_all.new.sink) long_text c.in-Ok.ensures.puts.all
