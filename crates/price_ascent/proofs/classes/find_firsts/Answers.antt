use Rattle.std.proofs.Common.{◌≡◌, ◌<◌, ◌+◌, ap, sym, subst, ◌∙◌, arith, length}
use Rattle.crew_terms.specs.Limits.{teams_in}
use Rattle.price_ascent.specs.Classes.{first_of}
use Rattle.price_ascent.proofs.Firsts.{AreFirstsBelow, firsts_more}
use Rattle.price_ascent.proofs.classes.find_firsts.Goals as goal

pub loop-k-preserved : goal.loop-k-preserved
loop-k-preserved c =
    let n = c.args.limits.now.limits in
    let k = c.loop-k.k in
    let old = c.loop-k.firsts.items in
    let first = c.first_like-first.result in
    let own : first < k → first_of old first ≡ first = (λ l. ap (λ xs. first_of xs first) (sym c.deref.ensures.value) ∙ c.first_like-first.ensures.own l) in
    subst (AreFirstsBelow n (k + 1)) (sym c.in_ok-push.ensures.items) (firsts_more n k old first c.loop-k.invariant c.first_like-first.ensures.early own c.first_like-first.ensures.alike)

pub returns : goal.returns
returns c =
    let n = c.args.limits.now.limits in
    let is = c.loop-k.invariant in
    let a = c.teams-k-end.ensures.count in
    let b = ap (λ i. length i.teams) c.instance.ensures.instance in
    let d = c.loop-k-test.false in
    let e = c.loop-k.auto.k-end in
    let all : c.loop-k.k ≡ teams_in n = omega arith in
    record {
      count = is.count ∙ all;
      early = λ k l. is.early k (omega arith);
      own = λ k l. is.own k (omega arith);
      alike = λ k l ne. is.alike k (omega arith) ne;
    }
