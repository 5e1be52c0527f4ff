use Rattle.std.proofs.Common.{◌≡◌, true, false, ℤ, ◌∙◌, ap, FitsSigned, rules, to_z, of_z}
use Rattle.std.specs.Int.{w128}
use Rattle.std.proofs.lemmas.Int.{to_z-of_z}
use Rattle.squeeze_terms.specs.Bound.{minute_bound}
use Rattle.sheet_reader.proofs.Priced.{bound_fails, bound_holds}
use Rattle.sheet_reader.proofs.reader.SheetReader.judge_bound.Goals as goal

pub returns-then-not-proves : goal.returns-then-not-proves
returns-then-not-proves c = λ budget tables read.
    let i = c.args.limits.now.limits.instance in
    let r = c.args.self.now in
    let fits : FitsSigned w128 c.minute_bound-proved.result = search rules in
    let x : ℤ = to_z w128 (of_z w128 c.minute_bound-proved.result) in
    let is : x ≡ minute_bound i r.prices c.deref.result.now = to_z-of_z w128 c.minute_bound-proved.result fits ∙ c.minute_bound-proved.ensures ∙ ap (λ h. minute_bound h r.prices c.deref.result.now) c.instance.ensures.instance in
    bound_fails i budget r tables x c.deref.result.now (c.deref.ensures.value ∙ read.worths) is
    (λ h. let t : c.proves.result ≡ true = c.proves.ensures.1 h in let f : c.proves.result ≡ false = c.if-not-proves.true in cc)

pub returns : goal.returns
returns c = λ budget tables read.
    let i = c.args.limits.now.limits.instance in
    let r = c.args.self.now in
    let fits : FitsSigned w128 c.minute_bound-proved.result = search rules in
    let x : ℤ = to_z w128 (of_z w128 c.minute_bound-proved.result) in
    let is : x ≡ minute_bound i r.prices c.deref.result.now = to_z-of_z w128 c.minute_bound-proved.result fits ∙ c.minute_bound-proved.ensures ∙ ap (λ h. minute_bound h r.prices c.deref.result.now) c.instance.ensures.instance in
    bound_holds i budget r tables x c.deref.result.now (c.deref.ensures.value ∙ read.worths) is (c.proves.ensures.0 c.if-not-proves.false)
