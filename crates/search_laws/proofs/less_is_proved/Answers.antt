use Rattle.search_laws.proofs.Inside.{less_proved}
use Rattle.search_laws.proofs.less_is_proved.Goals as goal

pub returns : goal.returns
returns c = less_proved
