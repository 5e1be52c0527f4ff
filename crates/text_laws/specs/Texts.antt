-- what the text of a dossier is made of
use Rattle.std.specs.Prelude.{◌≡◌, ◌≢◌, ◌++◌, ℕ, List, [], map, All}
use Rattle.std.specs.List.{flat_map}
use Rattle.crew_terms.specs.Words.{Words, words_of, line_of, with_feed, IsLine}

-- no byte is a space or an LF
pub record IsWord (word : List ℕ) : Type 0 where
  pub no_space : All (λ b. b ≢ 32) word
  pub no_feed : All (λ b. b ≢ 10) word

-- some words, of which a line can be made
pub record AreLine (words : Words) : Type 0 where
  pub some : words ≢ []
  pub each : All IsWord words
  pub line : IsLine (line_of words)

-- xs has more lines after those of ys, and b is the text of these before a
pub record HasMore (xs ys : List (List ℕ)) (a b : List ℕ) : Type 0 where
  pub more : List (List ℕ)
  pub lines : xs ≡ ys ++ more
  pub text : b ≡ flat_map with_feed more ++ a

-- the lines are the first of those with these words, and the rest is the text of those after them
pub record IsFront (all : List Words) (lines : List (List ℕ)) (rest : List ℕ) : Type 0 where
  pub more : List (List ℕ)
  pub spelled : map line_of all ≡ lines ++ more
  pub words : all ≡ map words_of lines ++ map words_of more
  pub text : rest ≡ flat_map with_feed more
