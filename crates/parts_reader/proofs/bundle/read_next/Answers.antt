use Rattle.std.proofs.Common.{rules, subst}
use Rattle.parts_reader.specs.Stages.{HasCome}
use Rattle.parts_reader.proofs.bundle.read_next.Goals as goal

pub returns-in_err-begin-clause-says : goal.returns-in_err-begin-clause-says
returns-in_err-begin-clause-says g c = λ input done b.
    let h = c.in_err-begin.ensures.says input done b in
    search (rules, h)

pub returns-in_err-whole-in-Bundle-clause-says : goal.returns-in_err-whole-in-Bundle-clause-says
returns-in_err-whole-in-Bundle-clause-says g c = λ input done b.
    let p = subst (HasCome input done c.begin.new.reader (g.S.Source.left c.begin.new.src) c.args.lines) c.in-Bundle.is (c.in_ok-begin.ensures.says input done b) in
    let h = c.in_err-whole-in-Bundle.ensures.says input done p in
    search (rules, h)

pub returns-in-End-clause-says : goal.returns-in-End-clause-says
returns-in-End-clause-says g c = λ input done b.
    subst (HasCome input done c.begin.new.reader (g.S.Source.left c.begin.new.src) c.args.lines) c.in-End.is (c.in_ok-begin.ensures.says input done b)
