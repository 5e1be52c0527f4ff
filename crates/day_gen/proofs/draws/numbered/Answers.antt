use Rattle.std.proofs.Common.{◌∙◌, subst, sym}
use Rattle.crew_terms.specs.Name.{IsName}
use Rattle.day_gen.proofs.Names.{front_name, numbered_is_name}
use Rattle.day_gen.proofs.draws.numbered.Goals as goal

pub named-requires : goal.named-requires
named-requires c =
    subst IsName (sym (front_name c.args.letter c.args.n _ _ _ c.copy_from_slice.ensures.after (c.as_bytes-digits.ensures.value ∙ c.format.ensures.text)))
    (numbered_is_name c.args.letter c.args.n c.requires c.ranges.n.fits)
