-- the lines of a bundle between its dossiers
use Rattle.std.proofs.Common.{◌≡◌, ◌≢◌, ◌≤◌, ◌<◌, ◌+◌, ◌++◌, ◌%◌, ℕ, zero, suc, List, [], ◌∷◌, length, ltb, true, ap, refl, ◌∙◌, arith, length-append}
use Rattle.std.specs.Prelude.{codes}
use Rattle.std.specs.List.{All, list_all}
use Rattle.std.specs.Fmt.{decimal}
use Rattle.std.proofs.lemmas.Bool.{ltb-true}
use Rattle.std.proofs.lemmas.Fmt.{decimal_by_steps, length-decimal-le}
use Rattle.std.proofs.lemmas.List.Elements.{All-weaker, All-append, All-cons, All-nil, All-push}
use Rattle.std.proofs.lemmas.List.Sums.{AllPass-from_list_all}
use Rattle.crew_terms.specs.Words.{Words, IsLine, line_of}
use Rattle.crew_terms.specs.declared.TheConstants.{MOST_TASKS}
use Rattle.text_laws.specs.Texts.{AreLine, IsWord}
use Rattle.part_texts.specs.Lines.{count_words, first_words, parts_word}

-- the byte is after the space
IsHigh : ℕ → Type 0
IsHigh b = 32 < b

is_word : (word : List ℕ) → All IsHigh word → IsWord word
unfolding IsHigh
is_word word h = record {
  no_space = All-weaker IsHigh (λ b. b ≢ 32) (λ b l. omega arith) word h;
  no_feed = All-weaker IsHigh (λ b. b ≢ 10) (λ b l. omega arith) word h;
}

written : (word : List ℕ) → list_all (ltb 32) word ≡ true → All IsHigh word
unfolding IsHigh
written word h = All-weaker (λ b. ltb 32 b ≡ true) IsHigh (λ b e. ltb-true 32 b e) word (AllPass-from_list_all (ltb 32) word h)

digits : (n : ℕ) → n < 10000 → All IsHigh (decimal n)
unfolding IsHigh
digits n l = decimal_by_steps (λ n ds. All IsHigh ds) (λ n l. All-cons IsHigh (48 + n) [] (omega arith) (All-nil IsHigh)) (λ n ds l h. All-push IsHigh ds (48 + n % 10) h (omega arith)) n (omega arith)

spaced : (word : List ℕ) (rest : List ℕ) → IsWord word → All (λ b. b ≢ 10) rest → All (λ b. b ≢ 10) (word ++ 32 ∷ rest)
spaced word rest w r = let P : ℕ → Type 0 = λ b. b ≢ 10 in All-append P word (32 ∷ rest) w.no_feed (All-cons P 32 rest (omega arith) r)

pub first_is_line : AreLine first_words
first_is_line =
    let a = is_word (codes "crew") (written (codes "crew") refl) in
    let b = is_word (codes "parts") (written (codes "parts") refl) in
    let c = is_word (codes "1") (written (codes "1") refl) in
    record {
      some = λ e. absurd (cc);
      each = All-cons IsWord (codes "crew") (codes "parts" ∷ codes "1" ∷ []) a (All-cons IsWord (codes "parts") (codes "1" ∷ []) b (All-cons IsWord (codes "1") [] c (All-nil IsWord)));
      line = record { short = omega arith; whole = spaced (codes "crew") (codes "parts 1") a (spaced (codes "parts") (codes "1") b c.no_feed) };
    }

pub count_is_line : (k : ℕ) → k ≤ MOST_TASKS → AreLine (count_words k)
count_is_line k few =
    let a = is_word parts_word (written parts_word refl) in
    let b = is_word (decimal k) (digits k (omega arith)) in
    let size = length-decimal-le 4 k (omega arith) (omega arith) (omega arith) in
    record {
      some = λ e. absurd (cc);
      each = All-cons IsWord parts_word (decimal k ∷ []) a (All-cons IsWord (decimal k) [] b (All-nil IsWord));
      line = record { short = omega (arith, length-append parts_word (32 ∷ decimal k)); whole = spaced parts_word (decimal k) a b.no_feed };
    }
