use Rattle.std.proofs.Common.{◌<◌, ◌∙◌, length, ap, arith}
use Rattle.std.proofs.lemmas.List.{length-set}
use Rattle.crew_instance.specs.Draft.{rows_of}
use Rattle.minute_rules.specs.Rules.{phi_by}
use Rattle.minute_rules.proofs.Found.{below_more}
use Rattle.minute_rules.proofs.rules.find_ahead.Goals as goal

pub loop-j-preserved : goal.loop-j-preserved
loop-j-preserved c =
    let n = c.args.limits.now.limits in
    let visits = c.visits_to-visits in
    let t = c.loop-j-test.true in
    let m = c.tasks-j-end.ensures.count in
    let e = ap (λ i. length i.tasks) c.instance.ensures.instance in
    let g = c.loop-j.invariant.count in
    let inside : c.loop-j.j < length c.loop-j.ahead.items = omega arith in
    record {
      count = length-set c.loop-j.ahead.items c.loop-j.j c.find.new.self ∙ c.loop-j.invariant.count;
      found = below_more n c.args.k (phi_by n c.args.k (rows_of c.args.rows.now)) c.loop-j.ahead.items c.loop-j.j c.find.new.self inside c.loop-j.invariant.found
          (visits.result.first, visits.result.potentials.now, visits.ensures.visits, visits.ensures.day, c.find.ensures);
    }

pub returns-clause-ahead : goal.returns-clause-ahead
returns-clause-ahead c = λ j row below read.
    let t = c.loop-j-test.false in
    let m = c.tasks-j-end.ensures.count in
    let e = ap (λ i. length i.tasks) c.instance.ensures.instance in
    c.loop-j.invariant.found j row (omega arith) read
