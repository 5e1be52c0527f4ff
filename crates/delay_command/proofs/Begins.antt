-- where the late lines are read, and the dossier is due
use Rattle.std.proofs.Common.{◌≡◌, ◌≢◌, ◌≤◌, ◌+◌, ◌++◌, ℕ, List, [], ◌∷◌, length, map, Option, Some, ap, subst, sym, refl, ◌∙◌, arith, length-append, append-nil}
use Rattle.std.proofs.lemmas.List.{length-map}
use Rattle.std.proofs.lemmas.List.Elements.{All-nil}
use Rattle.crew_terms.specs.Words.{IsLine, line_of}
use Rattle.crew_io.specs.Lines.{Reader}
use Rattle.dossier_terms.specs.Dossier.{IsGood}
use Rattle.cert_checker.specs.Checked.{Checked, opened_at}
use Rattle.dossier_commands.specs.Input.{CanGoOn, Fresh, IsBetween, IsGoing, text_of_lines}
use Rattle.late_lines.specs.declared.first_line.LateLine.{LateLine}
use Rattle.late_lines.specs.Lines.{dossier_words, first_lines, late_text}
use Rattle.late_lines.specs.First.{IsAfter}
use Rattle.delay_command.specs.Delays.{late_front}

pub can_go : (lines : List LateLine) (reader : Reader) (checker : Checked) → IsGoing reader (length lines + 1) → checker ≡ opened_at (length lines + 1) → CanGoOn reader checker
can_go lines reader checker going is = subst (CanGoOn reader) (sym is) (record { going = going; first = Fresh refl })

pub between : (lines : List LateLine) (input : List ℕ) (reader : Reader) (left : Option (List ℕ)) (checker : Checked) → checker ≡ opened_at (length lines + 1)
    → IsAfter (first_lines lines) input reader left → IsBetween (late_front lines) input [] reader left checker
between lines input reader left checker is b =
    let front = text_of_lines (first_lines lines) in
    let none = append-nil front in
    let size = ap length none in
    let within = b.read.within in
    let first = length-append (map late_text lines) (line_of dossier_words ∷ []) in
    let count = length-map lines late_text in
    subst (λ c. IsBetween (late_front lines) input [] reader left c) (sym is) (record {
      rest = b.rest;
      is = b.is;
      read = record {
        text = b.read.text ∙ ap (λ x. x ++ b.rest) (sym none);
        within = omega (arith, within, size);
        good = All-nil IsGood;
        each = All-nil IsLine;
        leads = refl;
      };
      handed = b.handed ∙ ap length (sym none);
      number = omega (arith, first, count);
      ended = ((λ e. absurd e.1), (λ some. absurd (some refl)));
    })
