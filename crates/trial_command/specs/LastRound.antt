-- days with one round, which comes last
use Rattle.std.specs.Prelude.{◌≡◌, ◌≢◌, ◌++◌, ℕ, List, [], ◌∷◌, All}
use Rattle.day_terms.specs.declared.Entry.{Entry}
use Rattle.day_terms.specs.declared.Entry.TheVariants.{Plan}

-- the entry is not one of a plan
abbrev pub BeginsNoRound : Entry → Type 0
BeginsNoRound entry = (nodes : ℕ) → entry ≢ Plan nodes

-- the last entry begins a round, and no other one does
pub record EndsInRound (entries : List Entry) : Type 0 where
  pub front : List Entry
  pub nodes : ℕ
  pub are : entries ≡ front ++ Plan nodes ∷ []
  pub no_round : All BeginsNoRound front
