use Rattle.std.proofs.Common.{◌∙◌, ap, map, subst, sym}
use Rattle.std.specs.Prelude.{All}
use Rattle.day_explain.specs.Says.{AreTold}
use Rattle.day_explain.specs.Telling.{IsOneLine, faults_placed, placed_of}
use Rattle.day_explain.proofs.read.explain_text.Goals as goal

pub returns-clause-says : goal.returns-clause-says
returns-clause-says g c =
    let are : AreTold c.args.text.now c.in_ok-faults.faults c.as_slice-2.result.now = record {
      tells = c.in_ok-faults.ensures.told;
      first = c.in_ok-faults.ensures.first;
      each = ap (map placed_of) c.as_slice-2.ensures.value ∙ c.in_ok-told.ensures.placed ∙ ap faults_placed c.as_slice.ensures.value;
      lines = subst (All IsOneLine) (sym c.as_slice-2.ensures.value) c.in_ok-told.ensures.lines;
    } in
    c.put_told.ensures.says c.args.text.now c.requires are
