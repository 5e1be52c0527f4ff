-- numbers that words spell, and lines that have a name and numbers after it
use Rattle.std.proofs.Common.{◌≡◌, ◌≤◌, ◌<◌, ◌+◌, ◌^◌, ◌++◌, [], ◌∷◌, ℕ, suc, pos, ◌≤ℤ◌, List, length, map, drop, drop-cons, get_or, ap, sym, ◌∙◌, arith}
use Rattle.std.specs.Fmt.{decimal}
use Rattle.crew_terms.specs.Words.{Words}
use Rattle.crew_terms.specs.declared.TheConstants.{LAST_MINUTE}
use Rattle.dossier_terms.specs.Rules.{IsShapeFrom}
use Rattle.field_table.specs.declared.fields.Field.{Field}
use Rattle.line_in.specs.Fields.{SpellsOne}
use Rattle.line_in.proofs.Accepted.{number_field}

abbrev pub minute_field : Field
minute_field = number_field 0 (pos LAST_MINUTE)

pub spells : (field : Field) (w : List ℕ) (n : ℕ) → field.low ≤ℤ pos n → pos n ≤ℤ field.high → n < 2 ^ 63 → w ≡ decimal n → SpellsOne field w
spells field w n low high small is = (pos n, record { fits = record { sfits = small }; low = low; high = high }, is)

-- the words from a place on begin with the decimals of these numbers
abbrev pub SpelledFrom : ℕ → List ℕ → Words → Type 0
SpelledFrom k [] ws = Unit {0}
SpelledFrom k (n ∷ ns) ws = (get_or ws k [] ≡ decimal n) × SpelledFrom (suc k) ns ws

spelled_from : (k : ℕ) (ns ss : List ℕ) (ws : Words) → k + length ns ≤ length ws → SpelledFrom k ns ws → drop (k + length ns) ws ≡ map decimal ss → drop k ws ≡ map decimal ns ++ map decimal ss
spelled_from k [] ss ws enough spelled rest = ap (λ m. drop m ws) (let e : k ≡ k + 0 = omega arith in e) ∙ rest
spelled_from k (n ∷ ns) ss ws enough spelled rest =
    let next : suc k + length ns ≡ k + suc (length ns) = omega arith in
    drop-cons ws k [] (omega arith) ∙ ap (λ w. w ∷ drop (suc k) ws) spelled.0
    ∙ ap (λ xs. decimal n ∷ xs) (spelled_from (suc k) ns ss ws (omega arith) spelled.1 (ap (λ m. drop m ws) next ∙ rest))

-- a line of one word, a name, these numbers and more of them
pub named_line : (w name : List ℕ) (ns ss : List ℕ) (ws : Words) → IsShapeFrom w (suc (length ns)) ws → get_or ws 1 [] ≡ name → SpelledFrom 2 ns ws → drop (2 + length ns) ws ≡ map decimal ss
    → ws ≡ w ∷ name ∷ (map decimal ns ++ map decimal ss)
named_line w name ns ss ws ([], is, few) named spelled rest = absurd (omega arith)
named_line w name ns ss ws (x ∷ xs, is, few) named spelled rest =
    let all : xs ≡ map decimal ns ++ map decimal ss = ap (drop 2) (sym is) ∙ spelled_from 2 ns ss ws (let l = ap length is in omega arith) spelled rest in
    is ∙ ap (λ v. w ∷ v ∷ xs) (ap (λ ys. get_or ys 1 []) (sym is) ∙ named) ∙ ap (λ ys. w ∷ name ∷ ys) all
