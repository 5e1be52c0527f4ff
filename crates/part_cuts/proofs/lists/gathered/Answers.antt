use Rattle.std.proofs.Common.{ap, ◌∙◌, ℕ}
use Rattle.std.specs.Global.{Vec}
use Rattle.std.proofs.lemmas.List.{map_push}
use Rattle.crew_instance.specs.Draft.{rows_of}
use Rattle.part_cuts.proofs.Division.{lists_more}
use Rattle.part_cuts.proofs.lists.gathered.Goals as goal

pub loop-k-preserved : goal.loop-k-preserved
loop-k-preserved c =
    let tasks = c.in_ok-tasks_of.field-0 in
    lists_more c.args.numbers.now c.loop-k.k (rows_of c.loop-k.lists.items) (rows_of c.push.new.self.items) tasks.items c.loop-k.invariant c.in_ok-tasks_of.ensures
    (ap rows_of c.in_ok-push.ensures.items ∙ map_push (λ (v : Vec ℕ). v.items) c.loop-k.lists.items tasks)
