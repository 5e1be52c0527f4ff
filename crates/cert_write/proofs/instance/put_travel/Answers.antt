use Rattle.std.proofs.Common.{◌<◌, length, arith}
use Rattle.cert_write.proofs.Instances.{time_pushed}
use Rattle.cert_write.proofs.instance.put_travel.Goals as goal

pub loop-b-preserved : goal.loop-b-preserved
loop-b-preserved g c =
    let below : c.loop-b.b < length c.args.instance.now.places = (let t = c.loop-b-test.true in let e = c.places-b-end.ensures.count in omega arith) in
    record {
      room = (let n = c.push-in-loop-b.ensures.len in let r = c.loop-b.invariant.room in omega (arith, n, r));
      so_far = time_pushed c.args.instance.now c.args.a c.loop-b.b c.travel.result c.loop-b.line.items c.push-in-loop-b.new.self.items c.number.result
          c.places-b-end.ensures.limits c.requires below c.travel.ensures.minutes c.number.ensures c.push-in-loop-b.ensures.items c.loop-b.invariant.so_far;
    }
