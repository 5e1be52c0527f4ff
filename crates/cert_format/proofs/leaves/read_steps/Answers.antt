use Rattle.std.proofs.Common.{refl}
use Rattle.cert_format.specs.declared.kinds.Expect.TheVariants.{Steps}
use Rattle.cert_format.specs.declared.kinds.LineKind.TheVariants as kinds
use Rattle.cert_format.proofs.LeafLines.{pairs_after_team}
use Rattle.cert_format.proofs.Runs.{steps_line_of, no_steps}
use Rattle.cert_format.proofs.Readings.{rest_read}
use Rattle.cert_format.proofs.leaves.read_steps.Goals as goal

pub read_runs-requires : goal.read_runs-requires
read_runs-requires c = record { pairs = pairs_after_team c.args.words c.if-not-has_pairs_at.ensures.1 }

pub returns : goal.returns
returns c =
    let shape = c.if-not-has_pairs_at.ensures in
    rest_read (Steps c.args.task) (kinds.Steps c.args.task) c.args.words c.read_runs.result _ _ c.read_runs.ensures
    (λ pairs (runs, same, spelled). let line = steps_line_of c.args.task c.args.words runs shape.0 shape.1 spelled in (runs, same, refl, line.0, line.1))
    (λ none. (shape, tt, no_steps c.args.task c.args.words none))
