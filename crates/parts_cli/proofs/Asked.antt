-- the command that words ask for
use Rattle.std.proofs.Common.{◌≡◌, ◌∷◌, [], List, ℕ, get_or, ap, sym, refl, ◌∙◌, arith}
use Rattle.std.specs.Prelude.{codes, if◌then◌else◌}
use Rattle.std.specs.Fmt.{decimal}
use Rattle.std.specs.Str.{bytes_eq}
use Rattle.std.proofs.lemmas.Fmt.{decimal_injective}
use Rattle.parts_cli.specs.Run.{AskFor, promises_of}
use Rattle.parts_cli.specs.Words.{AsksForPart, AsksForParts, part_words, parts_words}
use Rattle.parts_cli.specs.declared.run.Command.{Command}
use Rattle.parts_cli.specs.declared.run.Command.TheVariants.{PartsCheck, PartsCut, Parts, Part}
use Rattle.parts_cli.specs.declared.words.OnePart.{OnePart}
use Rattle.parts_cli.specs.declared.words.Parts.{Parts as PartsWords}

-- words ask for one number of nodes
same_nodes : (p q : PartsWords) → parts_words p ≡ parts_words q → decimal p.nodes ≡ decimal q.nodes
same_nodes p q e = cc

one_number : (words : List (List ℕ)) (p q : PartsWords) → AsksForParts p words → AsksForParts q words → p ≡ q
one_number words p q a b =
    let e : parts_words p ≡ parts_words q = sym a.1 ∙ b.1 in
    let l = a.0 in
    let r = b.0 in
    ap (λ x. record p { nodes = x }) (decimal_injective p.nodes q.nodes (omega arith) (omega arith) (same_nodes p q e))

-- and for one part
part_nodes : (p q : OnePart) → part_words p ≡ part_words q → decimal p.nodes ≡ decimal q.nodes
part_nodes p q e = cc

part_number : (p q : OnePart) → part_words p ≡ part_words q → decimal p.number ≡ decimal q.number
part_number p q e = cc

one_part : (words : List (List ℕ)) (p q : OnePart) → AsksForPart p words → AsksForPart q words → p ≡ q
one_part words p q a b =
    let e : part_words p ≡ part_words q = sym a.1 ∙ b.1 in
    let l = a.0 in
    let r = b.0 in
    let lf = l.few in
    let rf = r.few in
    let lw = l.within in
    let rw2 = r.within in
    ap (λ x. record p { nodes = x }) (decimal_injective p.nodes q.nodes (omega arith) (omega arith) (part_nodes p q e))
    ∙ ap (λ x. record { nodes = q.nodes; number = x }) (decimal_injective p.number q.number (omega arith) (omega arith) (part_number p q e))

-- the place of a command in their list
place : Command → ℕ
place PartsCheck = 0
place PartsCut = 1
place (Parts p) = 2
place (Part p) = 3

-- the place of the command whose first word this is
place_of : List ℕ → ℕ
place_of word = if bytes_eq word (codes "parts-check") then 0 else (if bytes_eq word (codes "parts-cut") then 1 else (if bytes_eq word (codes "parts") then 2 else 3))

-- a command's first word tells its place
placed : (c : Command) → place_of (get_or (promises_of c).words 0 []) ≡ place c
unfolding place place_of
placed PartsCheck = refl
placed PartsCut = refl
placed (Parts p) = refl
placed (Part p) = refl

-- commands at one place whose words are the same are one
at_place : (words : List (List ℕ)) (a b : Command) → place a ≡ place b → AskFor a words → AskFor b words → a ≡ b
unfolding place
at_place words PartsCheck PartsCheck e p q = refl
at_place words PartsCut PartsCut e p q = refl
at_place words (Parts s) (Parts t) e p q = ap Parts (one_number words s t p q)
at_place words (Part s) (Part t) e p q = ap Part (one_part words s t p q)
at_place words a b e p q = absurd (omega (arith, e))

-- words ask for one command
pub one_command : (words : List (List ℕ)) (a b : Command) → AskFor a words → AskFor b words → a ≡ b
one_command words a b p q =
    at_place words a b (sym (placed a) ∙ ap (λ (ws : List (List ℕ)). place_of (get_or ws 0 [])) (sym p.1 ∙ q.1) ∙ placed b) p q

-- words that are none of the forms ask for none
pub none_asked : (words : List (List ℕ)) → (words ≡ codes "parts-check" ∷ [] → ⊥) → (words ≡ codes "parts-cut" ∷ [] → ⊥) → ((p : PartsWords) → AsksForParts p words → ⊥) → ((p : OnePart) → AsksForPart p words → ⊥)
    → (command : Command) → AskFor command words → ⊥
none_asked words check cut parts part PartsCheck asks = check asks.1
none_asked words check cut parts part PartsCut asks = cut asks.1
none_asked words check cut parts part (Parts p) asks = parts p asks
none_asked words check cut parts part (Part p) asks = part p asks
