use Rattle.std.proofs.Common.{take}
use Rattle.std.specs.Fmt.{decimal}
use Rattle.std.specs.List.{flat_map}
use Rattle.crew_io.specs.Puts.{Puts}
use Rattle.crew_io.specs.Chains.{fine}
use Rattle.line_out.specs.Parts.{next_word}
use Rattle.dossier_out.proofs.words.put_numbers.Given as goal

abbrev pub invariant-loop-n : goal.invariant-loop-n
invariant-loop-n g l = Puts g.K.Sink (flat_map (λ n. next_word (decimal n)) (take l.n-index l.numbers)) l.fn.out l.out fine
