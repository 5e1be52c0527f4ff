-- the command that words ask for
use Rattle.std.proofs.Common.{◌≡◌, ◌∷◌, [], List, ℕ, get_or, ap, sym, refl, ◌∙◌, arith}
use Rattle.std.specs.Prelude.{codes, if◌then◌else◌}
use Rattle.std.specs.Str.{bytes_eq}
use Rattle.squeeze_command.specs.Asked.{one_squeeze}
use Rattle.squeeze_command.specs.Words.{AsksForSqueeze}
use Rattle.squeeze_command.specs.declared.words.Squeeze.{Squeeze as SqueezeWords}
use Rattle.trial_command.specs.Asked.{one_trial}
use Rattle.trial_command.specs.Trials.{AsksForTrial}
use Rattle.trial_command.specs.declared.words.Trial.{Trial as TrialWords}
use Rattle.crew_cli.specs.Run.{AskFor, promises_of}
use Rattle.crew_cli.specs.declared.run.Command.{Command}
use Rattle.crew_cli.specs.declared.run.Command.TheVariants.{Check, Rosters, Why, Delays, Squeeze, SqueezeCheck, Apply, Day, Audit, Trial}

-- the place of a command in their list
place : Command → ℕ
place Check = 0
place Rosters = 1
place Why = 2
place Delays = 3
place Apply = 4
place Day = 5
place Audit = 6
place (Squeeze s) = 7
place SqueezeCheck = 8
place (Trial t) = 9

-- the place of the command whose first word this is
place_of : List ℕ → ℕ
place_of word =
    if bytes_eq word (codes "check") then 0
    else if bytes_eq word (codes "rosters") then 1
    else if bytes_eq word (codes "why") then 2
    else if bytes_eq word (codes "delays") then 3
    else if bytes_eq word (codes "apply") then 4
    else if bytes_eq word (codes "day") then 5
    else if bytes_eq word (codes "audit") then 6
    else if bytes_eq word (codes "squeeze") then 7
    else if bytes_eq word (codes "squeeze-check") then 8
    else 9

-- a command's first word tells its place
placed : (c : Command) → place_of (get_or (promises_of c).words 0 []) ≡ place c
unfolding place place_of
placed Check = refl
placed Rosters = refl
placed Why = refl
placed Delays = refl
placed Apply = refl
placed Day = refl
placed Audit = refl
placed (Squeeze s) = refl
placed SqueezeCheck = refl
placed (Trial t) = refl

-- commands at one place whose words are the same are one
at_place : (words : List (List ℕ)) (a b : Command) → place a ≡ place b → AskFor a words → AskFor b words → a ≡ b
unfolding place
at_place words Check Check e p q = refl
at_place words Rosters Rosters e p q = refl
at_place words Why Why e p q = refl
at_place words Delays Delays e p q = refl
at_place words Apply Apply e p q = refl
at_place words Day Day e p q = refl
at_place words Audit Audit e p q = refl
at_place words SqueezeCheck SqueezeCheck e p q = refl
at_place words (Squeeze s) (Squeeze t) e p q = ap Squeeze (one_squeeze words s t p q)
at_place words (Trial t) (Trial u) e p q = ap Trial (one_trial words t u p q)
at_place words a b e p q = absurd (omega (arith, e))

-- words ask for one command
pub one_command : (words : List (List ℕ)) (a b : Command) → AskFor a words → AskFor b words → a ≡ b
one_command words a b p q =
    at_place words a b (sym (placed a) ∙ ap (λ (ws : List (List ℕ)). place_of (get_or ws 0 [])) (sym p.1 ∙ q.1) ∙ placed b) p q

-- words that are none of the forms ask for none
pub none_asked : (words : List (List ℕ)) → (words ≡ codes "check" ∷ [] → ⊥) → (words ≡ codes "rosters" ∷ [] → ⊥) → (words ≡ codes "why" ∷ [] → ⊥) → (words ≡ codes "delays" ∷ [] → ⊥) → (words ≡ codes "apply" ∷ [] → ⊥) → (words ≡ codes "day" ∷ [] → ⊥) → (words ≡ codes "audit" ∷ [] → ⊥)
    → (words ≡ codes "squeeze-check" ∷ [] → ⊥) → ((s : SqueezeWords) → AsksForSqueeze s words → ⊥) → ((t : TrialWords) → AsksForTrial t words → ⊥) → (command : Command) → AskFor command words → ⊥
none_asked words check rosters why delays apply day audit sheets squeeze trial Check asks = check asks.1
none_asked words check rosters why delays apply day audit sheets squeeze trial Rosters asks = rosters asks.1
none_asked words check rosters why delays apply day audit sheets squeeze trial Why asks = why asks.1
none_asked words check rosters why delays apply day audit sheets squeeze trial Delays asks = delays asks.1
none_asked words check rosters why delays apply day audit sheets squeeze trial Apply asks = apply asks.1
none_asked words check rosters why delays apply day audit sheets squeeze trial Day asks = day asks.1
none_asked words check rosters why delays apply day audit sheets squeeze trial Audit asks = audit asks.1
none_asked words check rosters why delays apply day audit sheets squeeze trial SqueezeCheck asks = sheets asks.1
none_asked words check rosters why delays apply day audit sheets squeeze trial (Squeeze s) asks = squeeze s asks
none_asked words check rosters why delays apply day audit sheets squeeze trial (Trial t) asks = trial t asks
