-- what has been read of the text of sheets, and what makes it
use Rattle.std.proofs.Common.{◌≡◌, ◌++◌, [], ◌∷◌, ℕ, List, ap, sym, ◌∙◌, refl, arith, append-nil}
use Rattle.std.specs.Prelude.{map}
use Rattle.std.specs.List.{All, AllByRecursion, flat_map}
use Rattle.std.proofs.lemmas.List.{map-append}
use Rattle.std.proofs.lemmas.List.Concat.{flat_map-append}
use Rattle.std.proofs.lemmas.List.Elements.{recursion_from_All}
use Rattle.crew_terms.specs.Words.{words_of, line_of, with_feed, line_text, IsLine}
use Rattle.text_laws.specs.Texts.{AreLine, IsFront}
use Rattle.text_laws.proofs.Lists.{rec-append}
use Rattle.text_laws.proofs.Feeds.{IsOther, lines_last}
use Rattle.text_laws.proofs.Read.{words_back, lines_back, lines_whole, text_is}
use Rattle.sheet_terms.specs.Lines.{lines_of_sheet, text_of_sheet}
use Rattle.sheet_terms.specs.Sheet.{Sheet, IsGoodSheet}
use Rattle.sheet_texts.proofs.Lines.{all_good}

pub texts_are : (sheets : List Sheet) → flat_map text_of_sheet sheets ≡ flat_map line_text (flat_map lines_of_sheet sheets)
texts_are [] = refl
texts_are (s ∷ sheets) = ap (λ t. text_of_sheet s ++ t) (texts_are sheets) ∙ sym (flat_map-append line_text (lines_of_sheet s) (flat_map lines_of_sheet sheets))

many_good : (sheets : List Sheet) → AllByRecursion IsGoodSheet sheets → AllByRecursion AreLine (flat_map lines_of_sheet sheets)
many_good [] h = tt
many_good (s ∷ sheets) h = rec-append AreLine (lines_of_sheet s) (flat_map lines_of_sheet sheets) (all_good s h.0) (many_good sheets h.1)

pub lines_good_many : (sheets : List Sheet) → All IsGoodSheet sheets → AllByRecursion AreLine (flat_map lines_of_sheet sheets)
lines_good_many sheets h = many_good sheets (recursion_from_All IsGoodSheet sheets h)

pub front_many : (sheets : List Sheet) (lines : List (List ℕ)) (rest : List ℕ) → All IsGoodSheet sheets → All IsLine lines → flat_map text_of_sheet sheets ≡ flat_map with_feed lines ++ rest
    → IsFront (flat_map lines_of_sheet sheets) lines rest
front_many sheets lines rest h k e =
    let all = flat_map lines_of_sheet sheets in
    let good = lines_good_many sheets h in
    let none : All IsOther [] = λ i d l. absurd (omega arith) in
    let text : flat_map line_text all ≡ flat_map with_feed lines ++ rest = sym (texts_are sheets) ∙ e in
    let g = lines_last (map line_of all) lines [] rest (lines_whole all good) k none (append-nil (flat_map with_feed (map line_of all)) ∙ sym (text_is all) ∙ text) in
    record {
      more = g.more;
      spelled = g.lines;
      words = sym (words_back all good) ∙ ap (λ ls. map words_of ls) g.lines ∙ map-append words_of lines g.more;
      text = g.text ∙ append-nil (flat_map with_feed g.more);
    }

pub made_many : (sheets : List Sheet) (lines : List (List ℕ)) → flat_map lines_of_sheet sheets ≡ map words_of lines → flat_map text_of_sheet sheets ≡ flat_map with_feed lines
made_many sheets lines e =
    texts_are sheets ∙ text_is (flat_map lines_of_sheet sheets) ∙ ap (λ ws. flat_map with_feed (map line_of ws)) e ∙ ap (flat_map with_feed) (lines_back lines)
