use Rattle.std.proofs.Common.{refl, rules, sym}
use Rattle.parts_reader.specs.Input.{InParts}
use Rattle.parts_reader.proofs.Added.{no_more, one_more}
use Rattle.parts_reader.proofs.parts.add_part.Goals as goal

pub returns-in_err-part-clause-says : goal.returns-in_err-part-clause-says
returns-in_err-part-clause-says g c = λ input done day k parts same due t.
    let h = c.in_err-part.ensures.says input done (InParts day k parts) due t.place in
    search (rules, h)

pub returns-then-not-took-clause-says : goal.returns-then-not-took-clause-says
returns-then-not-took-clause-says g c = λ input done day k parts same due t.
    let left = g.S.Source.left c.args.src.now in
    let later = g.S.Source.left c.read_dossier.new.src in
    let r = c.in_ok-part.ensures.says input done (InParts day k parts) due t.place in
    let took = c.in_ok-took.ensures day parts r.dossier t.place.read.begins.good_day same (sym (c.instance.ensures r.dossier r.has)) t.taken in
    no_more input done day k parts c.args.reader.now c.read_dossier.new.reader left later c.args.tally.now due t c.in_ok-part.part r c.lines-lines.result c.lines-lines.ensures.count
    (took.1 (search rules))

pub returns-clause-says : goal.returns-clause-says
returns-clause-says g c = λ input done day k parts same due t.
    let left = g.S.Source.left c.args.src.now in
    let later = g.S.Source.left c.read_dossier.new.src in
    let r = c.in_ok-part.ensures.says input done (InParts day k parts) due t.place in
    let took = c.in_ok-took.ensures day parts r.dossier t.place.read.begins.good_day same (sym (c.instance.ensures r.dossier r.has)) t.taken in (
      r.dossier,
      one_more input done day k parts c.args.reader.now c.read_dossier.new.reader left later c.args.tally.now due t c.in_ok-part.part r _ (took.0 (search rules)) refl c.lines-lines.ensures.count,
    )
