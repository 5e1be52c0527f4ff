use Rattle.std.proofs.Common.{◌≡◌, Some, ap, subst}
use Rattle.std.proofs.lemmas.Result.{IfOk-weaker}
use Rattle.crew_io.specs.Draws.{reads_none}
use Rattle.day_commands.specs.declared.refused.DayFault.TheVariants.{Change}
use Rattle.day_audit.specs.Audited.{IsNext}
use Rattle.day_audit.specs.declared.audit.Next.TheVariants.{Due}
use Rattle.audit_command.specs.Reads.{IsStopped}
use Rattle.audit_command.proofs.Going.{change_stopped, enters, found_no_fault, refused_amid, same_fault}
use Rattle.audit_command.proofs.rounds.Dossiers.entry.Goals as goal

pub returns-in-Ok-Due-clause-reads : goal.returns-in-Ok-Due-clause-reads
returns-in-Ok-Due-clause-reads g c =
    let due : c.in-Ok-Due.field-0 ≡ Due = (let a = c.in-Ok-Due.is in let b = c.in-Ok-Due.field-0-is in cc) in
    IfOk-weaker c.round.result _ _ (λ found read. enters c.args.self.now c.round.new.self c.entry.new.self (g.S.Source.left c.args.src.now) (g.S.Source.left c.round.new.src) c.args.number c.args.entry.now found
    c.in-Ok-Due.ensures.taken (subst (IsNext c.args.self.now.audit.day c.args.entry.now) due c.in-Ok-Due.ensures.next) c.in-Ok-Due.ensures.ok read) c.round.ensures.reads

pub returns-in_ok-found-in-Err-clause-reads : goal.returns-in_ok-found-in-Err-clause-reads
returns-in_ok-found-in-Err-clause-reads g c =
    IsStopped (Change c.in-Err.fault) (change_stopped c.args.self.now.audit.day c.args.entry.now c.in-Err.fault c.in_ok-found-in-Err.ensures.memory c.in-Err.ensures.told) (ap Some c.in_ok-found-in-Err.ensures.found)

pub returns-in_ok-found-in-Err-clause-amid : goal.returns-in_ok-found-in-Err-clause-amid
returns-in_ok-found-in-Err-clause-amid g c = refused_amid c.in_ok-found-in-Err.found c.args.number c.in-Err.fault c.in_ok-found-in-Err.ensures.found c.in_ok-found-in-Err.ensures.memory

pub returns-in_ok-found-in-Err-clause-tells : goal.returns-in_ok-found-in-Err-clause-tells
returns-in_ok-found-in-Err-clause-tells g c =
    same_fault g.S.Source c.args.src.now c.args.src.now (reads_none g.S.Source c.args.src.now)
    (λ e. absurd (found_no_fault c.in_ok-found-in-Err.found c.args.number c.in-Err.fault c.in_ok-found-in-Err.ensures.found e)) (λ fault. absurd fault)
