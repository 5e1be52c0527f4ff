use Rattle.std.proofs.Common.{◌-◌, ◌∷◌, [], sym, subst}
use Rattle.std.specs.Prelude.{codes}
use Rattle.parts_cli.specs.Run.{Answers, of_check, of_pieces, promises_of}
use Rattle.bundle_write.specs.declared.piece.Job.TheVariants.{Bundle, Count, Part}
use Rattle.parts_cli.specs.Words.{IsOnePart, IsParts, part_words, parts_words}
use Rattle.parts_cli.specs.declared.run.Command.{Command}
use Rattle.parts_cli.specs.declared.status.Status.{Status}
use Rattle.parts_cli.proofs.Top.{check_answers, pieces_answer}
use Rattle.parts_cli.proofs.run.answer.Goals as goal

pub returns-in-PartsCheck : goal.returns-in-PartsCheck
returns-in-PartsCheck g c =
    subst (λ (a : Command). Answers g.S.Source g.K.Sink (promises_of a) c.args.src.now c.read_bundles.new.src c.args.out.now c.read_bundles.new.out c.of_check.result)
    (sym c.in-PartsCheck.is)
    (subst (λ (s : Status). Answers g.S.Source g.K.Sink of_check c.args.src.now c.read_bundles.new.src c.args.out.now c.read_bundles.new.out s)
    (sym c.of_check.ensures) (check_answers g.S.Source g.K.Sink c.args.src.now c.read_bundles.new.src c.args.out.now c.read_bundles.new.out c.read_bundles.result c.read_bundles.ensures))

pub returns-in-PartsCut : goal.returns-in-PartsCut
returns-in-PartsCut g c =
    subst (λ (a : Command). Answers g.S.Source g.K.Sink (promises_of a) c.args.src.now c.write_pieces.new.src c.args.out.now c.write_pieces.new.out c.of_pieces.result)
    (sym c.in-PartsCut.is)
    (subst (λ (s : Status). Answers g.S.Source g.K.Sink (of_pieces (codes "parts-cut" ∷ []) (Unit {0}) Count) c.args.src.now c.write_pieces.new.src c.args.out.now c.write_pieces.new.out s)
    (sym c.of_pieces.ensures)
    (pieces_answer g.S.Source g.K.Sink c.args.src.now c.write_pieces.new.src c.args.out.now c.write_pieces.new.out (codes "parts-cut" ∷ []) (Unit {0}) Count c.write_pieces.result c.write_pieces.ensures))

pub returns-in-Parts : goal.returns-in-Parts
returns-in-Parts g c =
    subst (λ (a : Command). Answers g.S.Source g.K.Sink (promises_of a) c.args.src.now c.write_pieces-in-Parts.new.src c.args.out.now c.write_pieces-in-Parts.new.out c.of_pieces-in-Parts.result)
    (sym c.in-Parts.is)
    (subst (λ (s : Status). Answers g.S.Source g.K.Sink (of_pieces (parts_words c.in-Parts.parts) (IsParts c.in-Parts.parts) (Bundle c.in-Parts.parts.nodes)) c.args.src.now c.write_pieces-in-Parts.new.src c.args.out.now c.write_pieces-in-Parts.new.out s)
    (sym c.of_pieces-in-Parts.ensures)
    (pieces_answer g.S.Source g.K.Sink c.args.src.now c.write_pieces-in-Parts.new.src c.args.out.now c.write_pieces-in-Parts.new.out (parts_words c.in-Parts.parts) (IsParts c.in-Parts.parts) (Bundle c.in-Parts.parts.nodes) c.write_pieces-in-Parts.result c.write_pieces-in-Parts.ensures))

pub returns-in-Part : goal.returns-in-Part
returns-in-Part g c =
    subst (λ (a : Command). Answers g.S.Source g.K.Sink (promises_of a) c.args.src.now c.write_pieces-in-Part.new.src c.args.out.now c.write_pieces-in-Part.new.out c.of_pieces-in-Part.result)
    (sym c.in-Part.is)
    (subst (λ (s : Status). Answers g.S.Source g.K.Sink (of_pieces (part_words c.in-Part.part) (IsOnePart c.in-Part.part) (Part c.in-Part.part.nodes (c.in-Part.part.number - 1))) c.args.src.now c.write_pieces-in-Part.new.src c.args.out.now c.write_pieces-in-Part.new.out s)
    (sym c.of_pieces-in-Part.ensures)
    (pieces_answer g.S.Source g.K.Sink c.args.src.now c.write_pieces-in-Part.new.src c.args.out.now c.write_pieces-in-Part.new.out (part_words c.in-Part.part) (IsOnePart c.in-Part.part) (Part c.in-Part.part.nodes (c.in-Part.part.number - 1)) c.write_pieces-in-Part.result c.write_pieces-in-Part.ensures))
