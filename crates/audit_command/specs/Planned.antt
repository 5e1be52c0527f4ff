-- a day with dossiers behind it
use Rattle.std.specs.Prelude.{◌++◌, ℕ, List}
use Rattle.audit_command.specs.Days.{front_of_day}

-- the text of a day, the line behind it, and the text of dossiers
abbrev pub with_dossiers : List ℕ → List ℕ → List ℕ
with_dossiers day dossiers = (front_of_day day).text ++ dossiers
