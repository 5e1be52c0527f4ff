use Rattle.std.proofs.Common.{◌≡◌, ◌+◌, ℕ, List, length, ap, arith, subst, Vec, Global}
use Rattle.std.proofs.lemmas.Result.{IfOk-weaker}
use Rattle.crew_instance.specs.Draft.{rows_of}
use Rattle.part_cuts.specs.Divided.{AreLists, IsDivision}
use Rattle.part_cuts.proofs.Division.{is_division}
use Rattle.part_cuts.proofs.lists.divided.Goals as goal

pub returns : goal.returns
returns c =
    let numbers = c.in_ok-numbers.numbers.items in
    let same : c.len.result ≡ length c.deref.result.now = let o = c.in_ok-cuts.cuts.ok.0 in omega (arith, c.len.ensures, ap length c.deref.ensures.value) in
    IfOk-weaker c.gathered.result
    (λ (parts : Vec (Vec ℕ Global) Global). AreLists c.deref-2.result.now (c.len.result + 1) (rows_of parts.items))
    (λ (parts : Vec (Vec ℕ Global) Global). IsDivision (length c.args.instance.now.tasks) (rows_of parts.items))
    (λ parts are.
    is_division numbers (length c.args.instance.now.tasks) (length c.deref.result.now) (rows_of parts.items) c.in_ok-numbers.ensures
    (subst (λ n. AreLists numbers (n + 1) (rows_of parts.items)) same (subst (λ (ns : List ℕ). AreLists ns (c.len.result + 1) (rows_of parts.items)) c.deref-2.ensures.value are)))
    c.gathered.ensures
