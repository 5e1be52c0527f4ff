use Rattle.std.proofs.Common.{◌≡◌, ◌≤◌, take}
use Rattle.std.specs.Prelude.{map}
use Rattle.std.specs.List.{sum_by}
use Rattle.cert_write.specs.Causes.{cause_of}
use Rattle.dossier_terms.specs.Causes.{unshown_in}
use Rattle.replan.proofs.round.unshown.Given as goal

abbrev pub invariant-loop-cause : goal.invariant-loop-cause
invariant-loop-cause l = record {
  few : l.n ≤ l.cause-index;
  value : l.n ≡ sum_by unshown_in (map cause_of (take l.cause-index l.causes));
}
