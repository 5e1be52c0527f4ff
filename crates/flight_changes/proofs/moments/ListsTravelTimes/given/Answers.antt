use Rattle.std.proofs.Common.{[], get_or, ap, ◌∙◌}
use Rattle.day_terms.specs.Instances.{minutes_given}
use Rattle.flight_changes.proofs.ByNumber.{place_read}
use Rattle.flight_changes.proofs.Times.{looked_up}
use Rattle.flight_changes.proofs.moments.ListsTravelTimes.given.Goals as goal

pub returns : goal.returns
returns c =
    let s = c.args.self.now in
    let places = c.as_slice-places.ensures.keys ∙ ap (λ s. s.places) c.self.view_is in
    let from = place_read s c.as_slice-places.result.now c.args.a c.index-places-a.result places c.index-places-a.is c.requires.from in
    let to = place_read s c.as_slice-places.result.now c.args.b c.index-places-b.result places c.index-places-b.is c.requires.to in
    c.copied.ensures ∙ c.get.ensures.value
    ∙ looked_up c.self.inside.times.entries c.index-places-a.result c.index-places-b.result
    ∙ ap (λ s. minutes_given s c.index-places-a.result c.index-places-b.result) c.self.view_is
    ∙ ap (λ name. minutes_given s name c.index-places-b.result) from
    ∙ ap (minutes_given s (get_or s.places c.args.a [])) to
