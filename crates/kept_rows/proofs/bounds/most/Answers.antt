use Rattle.std.proofs.Common.{◌≡◌, ◌+◌, ◌*◌, ◌-◌, ◌∙◌, ap, subst, rules, pos, FitsSigned, get_or, length, All}
use Rattle.std.specs.Prelude.{IfSome}
use Rattle.std.specs.Int.{w128}
use Rattle.std.proofs.lemmas.Int.{to_z-of_z}
use Rattle.kept_rows.specs.Replaced.{IsWithin}
use Rattle.kept_rows.proofs.Reached.{most_is}
use Rattle.kept_rows.proofs.bounds.most.Goals as goal

pub returns : goal.returns
returns c =
    let row = c.args.row.now in
    let r = c.in_ok-reach.reach in
    let last = length row - 2 in
    let a : FitsSigned w128 (get_or row last (pos 0)) = search rules in
    let all = subst (λ o. IfSome o (λ r. All (IsWithin last r) c.args.columns.now)) c.in_ok-reach.was c.requires.reach in
    let e = rw (to_z-of_z w128 (get_or row last (pos 0)) a) at c.unsigned_abs.ensures.value in
    let o = c.in_ok-others.ensures.1 in
    let l = c.in_ok-ending.ensures.1 in
    let s : c.in_ok-sum.sum ≡ r.others * c.most_but.result + r.last * c.unsigned_abs.result = c.in_ok-sum.ensures.1 ∙ ap (λ q. q + c.in_ok-ending.ending) o ∙ ap (λ q. r.others * c.most_but.result + q) l in
    most_is c.args.columns.now last r row c.most_but.result c.unsigned_abs.result c.in_ok-sum.sum all c.most_but.ensures e s
