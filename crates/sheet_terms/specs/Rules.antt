-- how the rules of a line are put together, whatever is answered: each says what may be said of the line
use Rattle.std.specs.Prelude.{◌≡◌, ◌≢◌, ◌<◌, ℕ}
use Rattle.crew_terms.specs.Words.{Words}

-- the fact holds and the rest of the rules speak, or the line is refused
pub data Must {A : Type 0} (P : Type 0) (refused : A) (rest : A → Type 0) (said : A) : Type 0 where
  Holds : (fact : P) (others : rest said) → Must P refused rest said
  Fails : (broken : P → ⊥) (told : said ≡ refused) → Must P refused rest said

-- the fact holds of each number below n, or the line is refused at the first at which it doesn't
pub data MustEach {A : Type 0} (n : ℕ) (P : ℕ → Type 0) (refused : ℕ → A) (rest : A → Type 0) (said : A) : Type 0 where
  HoldsOfAll : (fact : (j : ℕ) → j < n → P j) (others : rest said) → MustEach n P refused rest said
  FailsAt : (j : ℕ) (known : j < n) (first : (i : ℕ) → i < j → P i) (broken : P j → ⊥) (told : said ≡ refused j) → MustEach n P refused rest said

-- the words spell a value of the range, or the line is refused
pub data MustSpell {A V : Type 0} (spell : V → Words) (In : V → Type 0) (words : Words) (refused : A) (rest : V → A → Type 0) (said : A) : Type 0 where
  Spelled : (v : V) (fits : In v) (is : words ≡ spell v) (others : rest v said) → MustSpell spell In words refused rest said
  Unspelled : (broken : (v : V) → In v → words ≢ spell v) (told : said ≡ refused) → MustSpell spell In words refused rest said
