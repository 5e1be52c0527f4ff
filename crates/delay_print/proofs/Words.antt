-- the words of lines
use Rattle.std.proofs.Common.{◌≡◌, ◌<◌, ◌≤◌, ◌-◌, ◌++◌, ◌∷◌, [], ℕ, zero, suc, List, Option, Some, None, length, map, is_some, cond, ap, sym, refl, ◌∙◌, append_assoc, append-nil, arith}
use Rattle.std.specs.Prelude.{codes}
use Rattle.std.specs.Fmt.{decimal}
use Rattle.std.specs.List.{filter, flat_map}
use Rattle.std.specs.Option.{option_map_or}
use Rattle.std.proofs.lemmas.List.{map-append}
use Rattle.crew_terms.specs.Words.{line_text}
use Rattle.crew_terms.specs.Instance.{Instance, task_of}
use Rattle.crew_terms.specs.Plan.{Plan}
use Rattle.crew_io.specs.Fronts.{IsFront}
use Rattle.line_out.specs.Parts.{part_word}
use Rattle.line_out.specs.declared.Part.{Part}
use Rattle.delay_wave.specs.declared.waits.Wait.{Wait}
use Rattle.delay_wave.specs.Waits.{chain_of, chain_within, holder_of}
use Rattle.delay_print.specs.Texts.{delay_line, delay_of, delay_words, delays_text, is_late, late_tasks, names_of, wave_line}

pub chain_held : (w : List (Option Wait)) (n j h : ℕ) → 0 < n → holder_of w j ≡ Some h → chain_within w n j ≡ chain_within w (n - 1) h ++ j ∷ []
chain_held w zero j h l e = absurd (omega arith)
chain_held w (suc n) j h l e =
    let m : n ≡ suc n - 1 = omega arith in
    ap (λ o. option_map_or (chain_within w n) o [] ++ j ∷ []) e ∙ ap (λ k. chain_within w k h ++ j ∷ []) m

pub chain_free : (w : List (Option Wait)) (n j : ℕ) → holder_of w j ≡ None → chain_within w n j ≡ [] ++ j ∷ []
chain_free w zero j e = refl
chain_free w (suc n) j e = ap (λ o. option_map_or (chain_within w n) o [] ++ j ∷ []) e

pub chain_short : (w : List (Option Wait)) (n j : ℕ) → n ≤ 0 → chain_within w n j ≡ [] ++ j ∷ []
chain_short w zero j l = refl
chain_short w (suc n) j l = absurd (omega arith)

-- one name more
pub named : (i : Instance) (old now new : List Part) (x : Part) (tasks : List ℕ) (j : ℕ) (all : List ℕ) → new ≡ now ++ x ∷ [] → part_word x ≡ (task_of i j).name
    → map part_word now ≡ map part_word old ++ names_of i tasks → all ≡ tasks ++ j ∷ [] → map part_word new ≡ map part_word old ++ names_of i all
named i old now new x tasks j all e f h is =
    ap (map part_word) e ∙ map-append part_word now (x ∷ []) ∙ ap (λ ws. ws ++ part_word x ∷ []) h
    ∙ append_assoc (map part_word old) (names_of i tasks) (part_word x ∷ [])
    ∙ ap (λ ws. map part_word old ++ ws)
    (ap (λ n. names_of i tasks ++ n ∷ []) f ∙ sym (map-append (λ j. (task_of i j).name) tasks (j ∷ [])))
    ∙ ap (λ ts. map part_word old ++ names_of i ts) (sym is)

-- the first four words of the line of a task, and its chain
pub delay_parts : (i : Instance) (w : List (Option Wait)) (j : ℕ) (starts : ℕ × ℕ) (n : ℕ) (name : List ℕ) (words : List (List ℕ)) → n ≡ length w → name ≡ (task_of i j).name
    → words ≡ (codes "delay" ∷ name ∷ decimal starts.0 ∷ decimal starts.1 ∷ []) ++ names_of i (chain_within w n j) → words ≡ delay_words i w j starts
unfolding chain_of
delay_parts i w j starts n name words e f is =
    is ∙ ap (λ k. (codes "delay" ∷ name ∷ decimal starts.0 ∷ decimal starts.1 ∷ []) ++ names_of i (chain_within w k j)) e
    ∙ ap (λ m. codes "delay" ∷ m ∷ decimal starts.0 ∷ decimal starts.1 ∷ names_of i (chain_within w (length w) j)) f

-- the line of a task that is late
pub late_one : (i : Instance) (p : Plan) (w : List (Option Wait)) (j : ℕ) (starts : ℕ × ℕ) → delay_of p w j ≡ Some starts
    → line_text (delay_words i w j starts) ≡ flat_map line_text (map (delay_line i p w) (filter (is_late p w) (j ∷ [])))
unfolding delay_line
late_one i p w j starts e =
    sym (
    ap (λ b. flat_map line_text (map (delay_line i p w) (cond b (j ∷ []) []))) (ap is_some e)
    ∙ append-nil (line_text (delay_line i p w j)) ∙ ap (λ o. line_text (option_map_or (delay_words i w j) o [])) e)

-- the parts of the text
pub text_parts : (i : Instance) (p : Plan) (w : List (Option Wait)) → delays_text i p w ≡ line_text (wave_line p w) ++ flat_map line_text (map (delay_line i p w) (late_tasks p w))
unfolding delays_text
text_parts i p w = refl

pub wave_front : (i : Instance) (p : Plan) (w : List (Option Wait)) → IsFront (line_text (wave_line p w)) (delays_text i p w)
wave_front i p w = record { rest = flat_map line_text (map (delay_line i p w) (late_tasks p w)); is = text_parts i p w }

-- parts that are pushed one after another
pub four_parts : (none a b c d : List Part) (u v x y : Part) → none ≡ [] → a ≡ none ++ u ∷ [] → b ≡ a ++ v ∷ [] → c ≡ b ++ x ∷ [] → d ≡ c ++ y ∷ []
    → map part_word d ≡ part_word u ∷ part_word v ∷ part_word x ∷ part_word y ∷ []
four_parts none a b c d u v x y h0 h1 h2 h3 h4 = rw (h4, h3, h2, h1, h0) refl
