-- why a line with a fault is refused
use Rattle.dossier_terms.specs.declared.Reason.{Reason}
use Rattle.dossier_terms.specs.declared.Reason.TheVariants as reasons
use Rattle.line_in.specs.declared.faults.LineFault.{LineFault}
use Rattle.line_in.specs.declared.faults.LineFault.TheVariants as faults

-- the reason that tells a fault of a line
abbrev pub reason_for : LineFault → Reason
reason_for faults.Shape = reasons.Shape
reason_for faults.Number = reasons.Number
reason_for faults.Name = reasons.Name
