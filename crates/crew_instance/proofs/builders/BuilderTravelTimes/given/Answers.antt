use Rattle.std.proofs.Common.{◌<◌, None, length, get_or, arith, ap, sym, ◌∙◌}
use Rattle.std.proofs.lemmas.List.{length-map}
use Rattle.crew_instance.specs.Draft.{filled, time_of, times_in}
use Rattle.crew_instance.proofs.Filled.{read_filled, row_of}
use Rattle.crew_instance.proofs.builders.BuilderTravelTimes.given.Goals as goal

pub returns : goal.returns
returns c =
    let n = length c.self.inside.places.items in
    let rows = c.self.inside.times.items in
    let same = ap (λ d. length d.places) c.self.view_is in
    let r = c.self.invariant.rows in
    let l = length-map rows (λ row. filled n (times_in row)) in
    let h : c.args.a < length rows = omega arith in
    c.time.ensures ∙ sym (read_filled n (times_in c.index.result.now) c.args.b)
    ∙ ap (λ row. get_or row c.args.b None) (sym (row_of n rows c.args.a c.index.result.now h c.index.ensures)) ∙ ap (λ d. time_of d c.args.a c.args.b) c.self.view_is
