use Rattle.std.proofs.Common.{◌∙◌, sym, ap}
use Rattle.std.specs.Int.{w64, from_le_bytes}
use Rattle.crew_terms.specs.Name.{front_of}
use Rattle.crew_terms.specs.NameBack.{all_stored}
use Rattle.crew_terms.proofs.Name.front.Goals as goal

pub returns : goal.returns
unfolding front_of
returns c =
    let stored = all_stored c.self.inside.bytes c.self.inside.len c.self.invariant in
    c.from_le_bytes.ensures ∙ sym (ap (from_le_bytes w64) stored) ∙ ap front_of c.self.view_is
