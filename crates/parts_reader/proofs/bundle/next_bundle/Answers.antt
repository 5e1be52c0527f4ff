use Rattle.std.proofs.Common.{subst}
use Rattle.parts_reader.specs.Stages.{HaltsAt, IsFound}
use Rattle.parts_reader.proofs.bundle.next_bundle.Goals as goal

pub returns-in-Ok-Some-clause-outcome : goal.returns-in-Ok-Some-clause-outcome
returns-in-Ok-Some-clause-outcome g c = λ input done b.
    subst (IsFound input done c.read_next.new.reader (g.S.Source.left c.read_next.new.src)) c.in-Ok-Some.field-0-is (c.in-Ok-Some.ensures.says input done b)

pub returns-in-Ok-None-clause-outcome : goal.returns-in-Ok-None-clause-outcome
returns-in-Ok-None-clause-outcome g c = λ input done b.
    subst (IsFound input done c.read_next.new.reader (g.S.Source.left c.read_next.new.src)) c.in-Ok-None.field-0-is (c.in-Ok-None.ensures.says input done b)

pub returns-in-Err-No-clause-outcome : goal.returns-in-Err-No-clause-outcome
returns-in-Err-No-clause-outcome g c = λ input done b.
    subst (HaltsAt input done (g.S.Source.left c.read_next.new.src)) c.in-Err-No.field-0-is (c.in-Err-No.ensures.says input done b)

pub returns-in-Err-ReadFault-clause-outcome : goal.returns-in-Err-ReadFault-clause-outcome
returns-in-Err-ReadFault-clause-outcome g c = λ input done b.
    subst (HaltsAt input done (g.S.Source.left c.read_next.new.src)) c.in-Err-ReadFault.field-0-is (c.in-Err-ReadFault.ensures.says input done b)
