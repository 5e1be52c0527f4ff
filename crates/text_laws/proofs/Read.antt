-- what has been read of a text, and what makes it
use Rattle.std.proofs.Common.{◌≡◌, ◌++◌, [], ◌∷◌, ℕ, List, ap, sym, ◌∙◌, refl, arith, append-nil}
use Rattle.std.specs.Prelude.{map}
use Rattle.std.specs.List.{All, AllByRecursion, flat_map}
use Rattle.std.proofs.lemmas.List.{map-append}
use Rattle.std.proofs.lemmas.List.Concat.{flat_map-append}
use Rattle.std.proofs.lemmas.List.Folds.{flat_map-map}
use Rattle.std.proofs.lemmas.List.Elements.{All-weaker, All-from_recursion, recursion_from_All}
use Rattle.crew_terms.specs.Words.{Words, words_of, line_of, with_feed, line_text, IsLine}
use Rattle.dossier_terms.specs.Dossier.{Dossier, IsGood}
use Rattle.dossier_terms.specs.Lines.{lines_of, text_of}
use Rattle.text_laws.specs.Texts.{IsWord, AreLine, IsFront}
use Rattle.text_laws.proofs.Lists.{rec-append, rec-map}
use Rattle.text_laws.proofs.Words.{HasNoSpace, words_of_line_of, line_of_words_of}
use Rattle.text_laws.proofs.Feeds.{IsOther, lines_last}
use Rattle.text_laws.proofs.Good.{all_good}

-- ---- words and lines

pub words_again : (words : Words) → AreLine words → words_of (line_of words) ≡ words
words_again words h = words_of_line_of words h.some (All-weaker IsWord HasNoSpace (λ w k. k.no_space) words h.each)

pub words_back : (all : List Words) → AllByRecursion AreLine all → map words_of (map line_of all) ≡ all
words_back [] h = refl
words_back (words ∷ all) h = let a = words_again words h.0 in let b = words_back all h.1 in cc

pub lines_back : (lines : List (List ℕ)) → map line_of (map words_of lines) ≡ lines
lines_back [] = refl
lines_back (line ∷ lines) = let a = line_of_words_of line in let b = lines_back lines in cc

pub lines_whole : (all : List Words) → AllByRecursion AreLine all → All IsLine (map line_of all)
lines_whole all h = All-from_recursion IsLine (map line_of all) (rec-map AreLine IsLine line_of (λ words k. k.line) all h)

pub text_is : (all : List Words) → flat_map line_text all ≡ flat_map with_feed (map line_of all)
text_is all = sym (flat_map-map with_feed line_of all)

-- ---- many dossiers

pub texts_are : (ds : List Dossier) → flat_map text_of ds ≡ flat_map line_text (flat_map lines_of ds)
texts_are [] = refl
texts_are (d ∷ ds) = ap (λ t. text_of d ++ t) (texts_are ds) ∙ sym (flat_map-append line_text (lines_of d) (flat_map lines_of ds))

many_good : (ds : List Dossier) → AllByRecursion IsGood ds → AllByRecursion AreLine (flat_map lines_of ds)
many_good [] h = tt
many_good (d ∷ ds) h = rec-append AreLine (lines_of d) (flat_map lines_of ds) (all_good d h.0) (many_good ds h.1)

pub lines_good_many : (ds : List Dossier) → All IsGood ds → AllByRecursion AreLine (flat_map lines_of ds)
lines_good_many ds h = many_good ds (recursion_from_All IsGood ds h)

-- ---- what has been read

front : (all : List Words) (lines : List (List ℕ)) (rest : List ℕ) → AllByRecursion AreLine all → All IsLine lines → flat_map line_text all ≡ flat_map with_feed lines ++ rest
    → IsFront all lines rest
front all lines rest h k e =
    let none : All IsOther [] = λ i d l. absurd (omega arith) in
    let g = lines_last (map line_of all) lines [] rest (lines_whole all h) k none (append-nil (flat_map with_feed (map line_of all)) ∙ sym (text_is all) ∙ e) in
    record {
      more = g.more;
      spelled = g.lines;
      words = sym (words_back all h) ∙ ap (λ ls. map words_of ls) g.lines ∙ map-append words_of lines g.more;
      text = g.text ∙ append-nil (flat_map with_feed g.more);
    }

pub front_one : (d : Dossier) (lines : List (List ℕ)) (rest : List ℕ) → IsGood d → All IsLine lines → text_of d ≡ flat_map with_feed lines ++ rest → IsFront (lines_of d) lines rest
front_one d lines rest h k e = front (lines_of d) lines rest (all_good d h) k e

pub front_many : (ds : List Dossier) (lines : List (List ℕ)) (rest : List ℕ) → All IsGood ds → All IsLine lines → flat_map text_of ds ≡ flat_map with_feed lines ++ rest
    → IsFront (flat_map lines_of ds) lines rest
front_many ds lines rest h k e = front (flat_map lines_of ds) lines rest (lines_good_many ds h) k (sym (texts_are ds) ∙ e)

-- ---- what makes a text

made : (all : List Words) (lines : List (List ℕ)) → all ≡ map words_of lines → flat_map line_text all ≡ flat_map with_feed lines
made all lines e = text_is all ∙ ap (λ ws. flat_map with_feed (map line_of ws)) e ∙ ap (flat_map with_feed) (lines_back lines)

pub made_one : (d : Dossier) (lines : List (List ℕ)) → lines_of d ≡ map words_of lines → text_of d ≡ flat_map with_feed lines
made_one d lines e = made (lines_of d) lines e

pub made_many : (ds : List Dossier) (lines : List (List ℕ)) → flat_map lines_of ds ≡ map words_of lines → flat_map text_of ds ≡ flat_map with_feed lines
made_many ds lines e = texts_are ds ∙ made (flat_map lines_of ds) lines e
