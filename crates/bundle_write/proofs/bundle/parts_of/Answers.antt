use Rattle.std.proofs.Common.{ℕ, Vec, Global, arith}
use Rattle.std.proofs.lemmas.List.{length-map}
use Rattle.crew_instance.specs.Draft.{rows_of}
use Rattle.bundle_write.proofs.Division.{divided_apart}
use Rattle.bundle_write.proofs.bundle.parts_of.Goals as goal

pub returns : goal.returns
returns c = divided_apart c.args.instance.now (rows_of c.in_ok-lists.lists.items) c.in_ok-lists.ensures
    (let e = c.len.ensures in let f = length-map c.in_ok-lists.lists.items (λ (r : Vec ℕ Global). r.items) in let l = c.if-len-gt-MOST_TASKS.false in omega (arith, e, f, l))
