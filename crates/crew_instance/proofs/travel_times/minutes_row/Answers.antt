use Rattle.crew_instance.specs.Times.{minutes_of}
use Rattle.crew_instance.proofs.Counted.{one_more}
use Rattle.crew_instance.proofs.WholeRows.{minutes_given}
use Rattle.crew_instance.proofs.travel_times.minutes_row.Goals as goal

pub loop-b-preserved : goal.loop-b-preserved
loop-b-preserved g c =
    one_more (λ b. minutes_of (g.T.TravelTimes.times c.args.times.now) c.args.a b) c.loop-b.b c.loop-b.row.items c.push.new.self.items c.minutes.result c.in_ok-push.ensures.items c.loop-b.invariant c.minutes.ensures

pub returns-in-Some : goal.returns-in-Some
returns-in-Some g c =
    let count = rw c.in-Some.is at c.given_row.ensures.count in
    let given = rw c.in-Some.is at c.given_row.ensures.given in
    rw (minutes_given (g.T.TravelTimes.times c.args.times.now) c.args.a c.in-Some.row.now count given) c.from_slice.ensures.items
