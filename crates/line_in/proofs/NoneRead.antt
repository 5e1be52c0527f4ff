-- words that no row accepts
use Rattle.std.proofs.Common.{◌≡◌, ◌++◌, ◌∷◌, ℕ, ℤ, pos, List, map, sym, subst}
use Rattle.std.specs.Fmt.{decimal}
use Rattle.crew_terms.specs.Words.{Words}
use Rattle.field_table.specs.Fields.{AreValues}
use Rattle.field_table.specs.declared.fields.Field.{Field}
use Rattle.line_in.proofs.Accepted.{AreIn, numbers_read}

-- no values are read of the words
abbrev pub NoneRead : List Field → Words → Type 0
NoneRead fs ws = (values : List ℤ) → AreValues fs ws values → ⊥

pub none_of : (fs : List Field) (ws : Words) (w : List ℕ) (ns : List ℕ) (rest : Words) → NoneRead fs ws → AreIn fs ns → ws ≡ w ∷ (map decimal ns ++ rest) → ⊥
none_of fs ws w ns rest none a is = none (map pos ns) (subst (λ (xs : Words). AreValues fs xs (map pos ns)) (sym is) (numbers_read fs w ns rest a))
