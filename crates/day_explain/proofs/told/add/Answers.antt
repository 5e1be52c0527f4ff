use Rattle.std.proofs.Common.{◌≡◌, ◌∙◌, ap, map, rules, subst, sym, true}
use Rattle.std.specs.Prelude.{All}
use Rattle.std.specs.Result.{is_ok}
use Rattle.day_explain.specs.Telling.{IsOneLine, placed_of}
use Rattle.day_explain.proofs.Places.{lines_more, placed_last}
use Rattle.day_explain.proofs.told.add.Goals as goal

pub returns-clause-placed : goal.returns-clause-placed
returns-clause-placed c =
    let good : is_ok c.push.result ≡ true = search rules in
    let items = rw good at c.push.ensures.items in
    ap (map placed_of) items ∙ placed_last _ _

pub returns-clause-lines : goal.returns-clause-lines
returns-clause-lines c = λ all.
    let good : is_ok c.push.result ≡ true = search rules in
    let items = rw good at c.push.ensures.items in
    subst (All IsOneLine) (sym items) (lines_more _ _ all c.requires)
