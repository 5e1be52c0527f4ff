-- the yes line, word by word
use Rattle.std.proofs.Common.{◌≡◌, ◌++◌, List, ℕ, [], ◌∷◌, ap, sym, ◌∙◌, append_assoc, append-nil}
use Rattle.std.specs.Prelude.{codes}
use Rattle.std.specs.Fmt.{decimal}
use Rattle.std.specs.List.{flat_map}
use Rattle.std.proofs.lemmas.List.Concat.{flat_map-append}
use Rattle.crew_terms.specs.Words.{Words, line_text}
use Rattle.line_out.specs.Lines.{line_parts}
use Rattle.line_out.specs.Parts.{next_word}
use Rattle.cert_checker.specs.declared.checker.Verdict.{Verdict}

-- the line that is written
abbrev pub written : Verdict → List ℕ
written v = line_text (codes "yes" ∷ codes "unassigned" ∷ decimal v.unassigned ∷ codes "bound" ∷ decimal v.bound
    ∷ codes "splits" ∷ decimal v.splits ∷ codes "closed" ∷ decimal v.closed ∷ codes "open" ∷ decimal v.left_open
    ∷ codes "unshown" ∷ decimal v.unshown ∷ [])

-- a word and a number more
pub count_more : (w : List ℕ) (ws : Words) (word number old new : List ℕ) → old ≡ w ++ flat_map next_word ws → new ≡ old ++ next_word word ++ next_word number
    → new ≡ w ++ flat_map next_word (ws ++ word ∷ number ∷ [])
count_more w ws word number old new before added =
    added ∙ ap (λ text. text ++ next_word word ++ next_word number) before ∙ append_assoc (w ++ flat_map next_word ws) (next_word word) (next_word number)
    ∙ append_assoc w (flat_map next_word ws) (next_word word ++ next_word number)
    ∙ ap (λ text. w ++ (flat_map next_word ws ++ (next_word word ++ text))) (sym (append-nil (next_word number)))
    ∙ ap (λ text. w ++ text) (sym (flat_map-append next_word ws (word ∷ number ∷ [])))

-- the LF behind them
pub line_of_words : (w : List ℕ) (ws : Words) (old : List ℕ) → old ≡ w ++ flat_map next_word ws → old ++ 10 ∷ [] ≡ line_text (w ∷ ws)
line_of_words w ws old before = ap (λ text. text ++ 10 ∷ []) before ∙ sym (line_parts w ws)
