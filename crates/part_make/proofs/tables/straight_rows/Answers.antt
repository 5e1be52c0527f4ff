use Rattle.std.proofs.Common.{ap, ◌∙◌, ℕ, length}
use Rattle.std.specs.Global.{Vec}
use Rattle.std.proofs.lemmas.List.{map_push}
use Rattle.crew_instance.specs.Draft.{rows_of}
use Rattle.crew_terms.specs.Instance.{minutes_between}
use Rattle.part_make.specs.Tables.{row_of}
use Rattle.part_make.proofs.OneMore.{one_more}
use Rattle.part_make.proofs.tables.straight_rows.Goals as goal

pub loop-a-preserved : goal.loop-a-preserved
loop-a-preserved c =
    let row = c.in_ok-straight_row.field-0 in
    let grows = ap rows_of c.in_ok-push.ensures.items ∙ map_push (λ (v : Vec ℕ). v.items) c.loop-a.rows.items row in
    one_more (λ x. row_of (length c.args.whole.now.places) (minutes_between c.args.whole.now x)) c.loop-a.a (rows_of c.loop-a.rows.items) (rows_of c.push.new.self.items) row.items grows c.loop-a.invariant c.in_ok-straight_row.ensures
