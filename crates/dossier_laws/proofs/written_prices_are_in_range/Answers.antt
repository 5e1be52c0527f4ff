use Rattle.dossier_laws.proofs.LeafPrices.{in_range, on_required}
use Rattle.dossier_laws.proofs.written_prices_are_in_range.Goals as goal

pub returns : goal.returns
returns c n leaf h = (in_range n leaf h.price_range h.extras, on_required n leaf)
