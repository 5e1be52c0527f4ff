-- a line before a dossier has one first fault, and a line that is read has none
use Rattle.std.proofs.Common.{◌≡◌, ◌≢◌, ◌≤◌, ◌++◌, ℕ, List, [], ◌∷◌, get_or, ap, subst, sym, refl, ◌∙◌}
use Rattle.std.specs.Prelude.{All}
use Rattle.std.specs.Fmt.{decimal}
use Rattle.crew_terms.specs.Name.{IsName}
use Rattle.crew_terms.specs.Words.{Words}
use Rattle.dossier_terms.specs.Ranges.{HasName}
use Rattle.dossier_terms.specs.Rules.{IsShape}
use Rattle.line_in.specs.declared.faults.LineFault.{LineFault}
use Rattle.late_lines.specs.declared.first_line.LateLine.{LateLine}
use Rattle.late_lines.specs.Lines.{IsLateLine, IsLineFault, Misshapen, BadWord, Repeated, IsWordFault, Misspelled, OutOfRange, MayFollow, dossier_words, late_word, late_words}

late_shape : (words : Words) (line : LateLine) → words ≡ late_words line → IsShape late_word 2 words
late_shape words line e = (line.name ∷ decimal line.end ∷ [], e, refl)

late_name : (words : Words) (line : LateLine) → IsLateLine line → words ≡ late_words line → HasName words
late_name words line is e = subst IsName (ap (λ (ws : Words). get_or ws 1 []) (sym e)) is.name

late_end : (words : Words) (line : LateLine) → words ≡ late_words line → get_or words 2 [] ≡ decimal line.end
late_end words line e = ap (λ (ws : Words). get_or ws 2 []) e

no_word_fault : (words : Words) (line : LateLine) (fault : LineFault) → IsLateLine line → words ≡ late_words line → IsWordFault words fault → ⊥
no_word_fault words line fault is e (Misspelled name f) = name (late_name words line is e)
no_word_fault words line fault is e (OutOfRange name end f) = end line.end is.end (late_end words line e)

pub follows_is_no_fault : (before : List LateLine) (line : LateLine) (words : Words) (fault : LineFault) → MayFollow before line → words ≡ late_words line → IsLineFault before words fault → ⊥
follows_is_no_fault before line words fault may e (Misshapen other shape f) = shape may.few (late_shape words line e)
follows_is_no_fault before line words fault may e (BadWord few shape how) = no_word_fault words line fault may.is e how
follows_is_no_fault before line words fault may e (Repeated few twin is f old g) =
    let same : late_words twin ≡ late_words line = sym f ∙ e in
    let name : twin.name ≡ line.name = ap (λ (ws : Words). get_or ws 1 []) same in
    old (subst (λ (n : List ℕ). All (λ (o : LateLine). o.name ≢ n) before) (sym name) may.new)

pub dossier_is_no_fault : (before : List LateLine) (words : Words) (fault : LineFault) → words ≡ dossier_words → IsLineFault before words fault → ⊥
dossier_is_no_fault before words fault e (Misshapen other shape f) = other e
dossier_is_no_fault before words fault e (BadWord few shape how) = let f : dossier_words ≡ late_word ∷ shape.0 = sym e ∙ shape.1 in let g : [] ≡ shape.0 = cc in let h = shape.2 in absurd (by shape.0 g h)
  where
    by : (rest : Words) → [] ≡ rest → Rattle.std.specs.Prelude.length rest ≡ 2 → ⊥
    by [] g h = absurd (cc)
    by (w ∷ rest) g h = absurd (cc)
dossier_is_no_fault before words fault e (Repeated few line is f old g) = let h : dossier_words ≡ late_words line = sym e ∙ f in absurd (cc)

one_word_fault : (words : Words) (f g : LineFault) → IsWordFault words f → IsWordFault words g → f ≡ g
one_word_fault words f g (Misspelled name a) (Misspelled other b) = a ∙ sym b
one_word_fault words f g (Misspelled name a) (OutOfRange other end b) = absurd (name other)
one_word_fault words f g (OutOfRange name end a) (Misspelled other b) = absurd (other name)
one_word_fault words f g (OutOfRange name end a) (OutOfRange other last b) = a ∙ sym b

pub one_fault : (before : List LateLine) (words : Words) (f g : LineFault) → IsLineFault before words f → IsLineFault before words g → f ≡ g
one_fault before words f g (Misshapen o s a) (Misshapen p t b) = a ∙ sym b
one_fault before words f g (Misshapen o s a) (BadWord few t b) = absurd (s few t)
one_fault before words f g (Misshapen o s a) (Repeated few line is e old b) = absurd (s few (late_shape words line e))
one_fault before words f g (BadWord few s a) (Misshapen p t b) = absurd (t few s)
one_fault before words f g (BadWord few s a) (BadWord more t b) = one_word_fault words f g a b
one_fault before words f g (BadWord few s a) (Repeated more line is e old b) = absurd (no_word_fault words line f is e a)
one_fault before words f g (Repeated few line is e old a) (Misshapen p t b) = absurd (t few (late_shape words line e))
one_fault before words f g (Repeated few line is e old a) (BadWord more t b) = absurd (no_word_fault words line g is e b)
one_fault before words f g (Repeated few line is e old a) (Repeated more other what d new b) = a ∙ sym b
