use Rattle.crew_terms.specs.Limits.{root_limits}
use Rattle.search_laws.proofs.Steps.{state_sound, run_stands}
use Rattle.search_laws.proofs.Sound.{handed_sound}
use Rattle.search_laws.proofs.handed_out_is_sound.Goals as goal

pub returns : goal.returns
returns c = λ i budget s l run proved. handed_sound s (root_limits i) l (state_sound i budget s l (run_stands i budget s run) proved)
