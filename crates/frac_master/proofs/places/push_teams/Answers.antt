use Rattle.std.proofs.Common.{◌++◌, ◌∙◌, ap, sym, arith, map}
use Rattle.std.specs.List.{range_with_len}
use Rattle.std.proofs.lemmas.List.FromFn.{map-range_with_len_more}
use Rattle.search_terms.specs.declared.Place.TheVariants.{Unused}
use Rattle.frac_master.proofs.Ranges.{grown, longer_by_one}
use Rattle.frac_master.proofs.places.push_teams.Goals as goal

pub loop-k-preserved : goal.loop-k-preserved
loop-k-preserved c =
    let k = c.loop-k.k in
    let old = c.args.places.now.items in
    let front = c.loop-k.places.items in
    let new = c.push.new.self.items in
    let e = c.in_ok-push.ensures.items in
    let l = longer_by_one front new (Unused k) e in
    let few = c.loop-k.invariant.few in
    record {
      places = grown old front new (Unused k) (map Unused (range_with_len 0 k)) c.loop-k.invariant.places e
          ∙ ap (λ l. old ++ l) (sym (map-range_with_len_more Unused 0 k k (omega arith)));
      few = omega arith;
    }
