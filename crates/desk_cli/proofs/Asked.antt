-- the command that words ask for
use Rattle.std.proofs.Common.{◌≡◌, ◌∷◌, [], List, ℕ, get_or, ap, sym, refl, ◌∙◌, arith}
use Rattle.std.specs.Prelude.{codes, if◌then◌else◌}
use Rattle.std.specs.Str.{bytes_eq}
use Rattle.desk_cli.specs.Run.{AskFor, promises_of}
use Rattle.desk_cli.specs.declared.run.Command.{Command}
use Rattle.desk_cli.specs.declared.run.Command.TheVariants.{Changes, Picture, Explain}

-- the place of a command in their list
place : Command → ℕ
place Changes = 0
place Picture = 1
place Explain = 2

-- the place of the command whose word this is
place_of : List ℕ → ℕ
place_of word = if bytes_eq word (codes "changes") then 0 else (if bytes_eq word (codes "picture") then 1 else 2)

-- a command's word tells its place
placed : (c : Command) → place_of (promises_of c).word ≡ place c
unfolding place place_of
placed Changes = refl
placed Picture = refl
placed Explain = refl

-- there is one command at each place
at_place : (a b : Command) → place a ≡ place b → a ≡ b
unfolding place
at_place Changes Changes e = refl
at_place Picture Picture e = refl
at_place Explain Explain e = refl
at_place a b e = absurd (omega (arith, e))

-- words ask for one command
pub one_command : (words : List (List ℕ)) (a b : Command) → AskFor a words → AskFor b words → a ≡ b
one_command words a b p q = at_place a b (sym (placed a) ∙ ap (λ (ws : List (List ℕ)). place_of (get_or ws 0 [])) (sym p ∙ q) ∙ placed b)
