-- the lines before a dossier are lines, which are cut into their words
use Rattle.std.proofs.Common.{◌≡◌, ◌≢◌, ◌≤◌, ◌<◌, ◌+◌, ◌++◌, ◌%◌, ℕ, List, [], ◌∷◌, length, ltb, true, map, ap, subst, refl, ◌∙◌, arith, length-append}
use Rattle.std.specs.List.{All, list_all}
use Rattle.std.specs.Fmt.{decimal}
use Rattle.std.proofs.lemmas.Bool.{ltb-true}
use Rattle.std.proofs.lemmas.Bool.Decides.{nat_tests}
use Rattle.std.proofs.lemmas.Fmt.{decimal_by_steps, length-decimal-le}
use Rattle.std.proofs.lemmas.List.Elements.{All-weaker, All-append, All-cons, All-nil, All-push}
use Rattle.std.proofs.lemmas.List.Sums.{AllPass-from_list_all}
use Rattle.crew_terms.specs.Name.{IsName, name_byte}
use Rattle.crew_terms.specs.Words.{Words, IsLine, words_of, line_of}
use Rattle.crew_terms.specs.declared.TheConstants.{LONGEST_LINE}
use Rattle.late_lines.specs.declared.first_line.LateLine.{LateLine}
use Rattle.late_lines.specs.Lines.{IsLateLine, dossier_words, late_text, late_word, late_words}

-- the byte is after the space
IsHigh : ℕ → Type 0
IsHigh b = 32 < b

no_space : (word : List ℕ) → All IsHigh word → All (λ b. b ≢ 32) word
unfolding IsHigh
no_space word h = All-weaker IsHigh (λ b. b ≢ 32) (λ b l. omega arith) word h

no_feed : (word : List ℕ) → All IsHigh word → All (λ b. b ≢ 10) word
unfolding IsHigh
no_feed word h = All-weaker IsHigh (λ b. b ≢ 10) (λ b l. omega arith) word h

written : (word : List ℕ) → list_all (ltb 32) word ≡ true → All IsHigh word
unfolding IsHigh
written word h = All-weaker (λ b. ltb 32 b ≡ true) IsHigh (λ b e. ltb-true 32 b e) word (AllPass-from_list_all (ltb 32) word h)

digits : (n : ℕ) → n < 10000 → All IsHigh (decimal n)
unfolding IsHigh
digits n l = decimal_by_steps (λ n ds. All IsHigh ds) (λ n l. All-cons IsHigh (48 + n) [] (omega arith) (All-nil IsHigh)) (λ n ds l h. All-push IsHigh ds (48 + n % 10) h (omega arith)) n (omega arith)

high_name : (b : ℕ) → name_byte b ≡ true → 32 < b
high_name b h = grind (arith, nat_tests)

name : (word : List ℕ) → IsName word → All IsHigh word
unfolding IsHigh
name word h = All-weaker (λ b. name_byte b ≡ true) IsHigh high_name word h.spelled

three_words : (u v w : List ℕ) → All IsHigh u → All IsHigh v → All IsHigh w → All (All (λ b. b ≢ 32)) (u ∷ v ∷ w ∷ [])
three_words u v w a b c =
    let P : List ℕ → Type 0 = λ x. All (λ b. b ≢ 32) x in
    All-cons P u (v ∷ w ∷ []) (no_space u a) (All-cons P v (w ∷ []) (no_space v b) (All-cons P w [] (no_space w c) (All-nil P)))

whole : (u v w : List ℕ) → All IsHigh u → All IsHigh v → All IsHigh w → All (λ b. b ≢ 10) (line_of (u ∷ v ∷ w ∷ []))
whole u v w a b c =
    let P : ℕ → Type 0 = λ b. b ≢ 10 in
    All-append P u (32 ∷ line_of (v ∷ w ∷ [])) (no_feed u a)
    (All-cons P 32 (line_of (v ∷ w ∷ [])) (omega arith) (All-append P v (32 ∷ w) (no_feed v b) (All-cons P 32 w (omega arith) (no_feed w c))))

pub late_is_line : (line : LateLine) → IsLateLine line → IsLine (late_text line)
late_is_line line is =
    let end = is.end in
    let short = is.name.short in
    let size = length-decimal-le 4 line.end (omega arith) (omega arith) (omega arith) in
    record {
      short = omega (arith, length-append late_word (32 ∷ line_of (line.name ∷ decimal line.end ∷ [])), length-append line.name (32 ∷ decimal line.end));
      whole = whole late_word line.name (decimal line.end) (written late_word refl) (name line.name is.name) (digits line.end (omega arith));
    }

pub dossier_is_line : IsLine (line_of dossier_words)
dossier_is_line = record { short = omega arith; whole = no_feed (line_of dossier_words) (written (line_of dossier_words) refl) }

-- the law of lines and their words
module _ (cut : (words : Words) → words ≢ [] → All (All (λ b. b ≢ 32)) words → words_of (line_of words) ≡ words) where
  pub words_of_late : (line : LateLine) → IsLateLine line → words_of (late_text line) ≡ late_words line
  words_of_late line is = let end = is.end in cut (late_words line) (λ e. absurd cc)
      (three_words late_word line.name (decimal line.end) (written late_word refl) (name line.name is.name) (digits line.end (omega arith)))

  pub words_of_dossier : words_of (line_of dossier_words) ≡ dossier_words
  words_of_dossier = let P : List ℕ → Type 0 = λ x. All (λ b. b ≢ 32) x in
      cut dossier_words (λ e. absurd cc) (All-cons P (line_of dossier_words) [] (no_space (line_of dossier_words) (written (line_of dossier_words) refl)) (All-nil P))
