use Rattle.std.proofs.Common.{ap, ◌∙◌, ℕ, length}
use Rattle.std.specs.Global.{Vec}
use Rattle.std.proofs.lemmas.List.{map_push}
use Rattle.crew_instance.specs.Draft.{rows_of}
use Rattle.part_make.specs.Tables.{by_way_of, row_of}
use Rattle.part_make.proofs.OneMore.{one_more}
use Rattle.part_make.proofs.tables.rows_by.Goals as goal

pub loop-a-preserved : goal.loop-a-preserved
loop-a-preserved c =
    let row = c.in_ok-row_by.field-0 in
    let grows = ap rows_of c.in_ok-push.ensures.items ∙ map_push (λ (v : Vec ℕ). v.items) c.loop-a.next.items row in
    one_more (λ x. row_of (length c.args.rows.now) (by_way_of (rows_of c.args.rows.now) c.args.b x)) c.loop-a.a (rows_of c.loop-a.next.items) (rows_of c.push.new.self.items) row.items grows c.loop-a.invariant c.in_ok-row_by.ensures
