use Rattle.std.proofs.Common.{◌∙◌, ap}
use Rattle.day_terms.specs.State.{has_place}
use Rattle.flight_changes.proofs.lists.Lists.number_of_place.Goals as goal

pub unwrap-requires : goal.unwrap-requires
unwrap-requires c = c.get_index_of.ensures.found ∙ ap (λ s. has_place s c.args.name.now) c.self.view_is ∙ c.requires
