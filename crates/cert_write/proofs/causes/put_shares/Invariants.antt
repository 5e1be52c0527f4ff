use Rattle.std.proofs.Common.{take}
use Rattle.std.specs.List.{flat_map}
use Rattle.crew_io.specs.Puts.{Puts}
use Rattle.crew_io.specs.Chains.{fine}
use Rattle.crew_terms.specs.Words.{line_text}
use Rattle.dossier_terms.specs.Lines.{share_line}
use Rattle.cert_write.specs.Causes.{part_of}
use Rattle.cert_write.proofs.causes.put_shares.Given as goal

abbrev pub invariant-loop-share : goal.invariant-loop-share
invariant-loop-share g l = Puts g.K.Sink (flat_map (λ s. line_text (share_line (part_of s))) (take l.share-index l.shares)) l.fn.out l.out fine
