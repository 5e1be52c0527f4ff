use Rattle.std.proofs.Common.{sym, refl, ◌∙◌}
use Rattle.audit_command.specs.Says.{Cut, Whole}
use Rattle.audit_command.proofs.Told.{end_no_write_fault}
use Rattle.audit_command.proofs.ended.tell.Goals as goal

pub returns-in-Ok : goal.returns-in-Ok
returns-in-Ok g c =
    let puts = c.in-Ok.ensures in
    record {
      told = Whole c.end_of-end.ensures puts.all;
      writes = record {
        cause = λ e. absurd (end_no_write_fault c.args.event (sym c.end_of-end.ensures ∙ e));
        told = λ _. puts.told;
        later = puts.later;
        steady = λ h. ((puts.steady h).0, λ e. absurd (end_no_write_fault c.args.event (sym c.end_of-end.ensures ∙ e)));
      };
    }

pub returns-in-Err : goal.returns-in-Err
returns-in-Err g c =
    let puts = c.in-Err.ensures in
    record {
      told = Cut refl puts.part;
      writes = record {
        cause = λ _. puts.cause refl;
        told = λ none. absurd (none refl);
        later = puts.later;
        steady = λ h. ((puts.steady h).0, λ _. (puts.steady h).1 refl);
      };
    }
