-- words with a space between neighbours
use Rattle.std.proofs.Common.{◌≡◌, ◌<◌, ◌+◌, ◌++◌, ◌∷◌, [], ℕ, suc, List, length, take, drop, map, get_or, ap, sym, ◌∙◌, refl, arith, subst, append_assoc, append-nil}
use Rattle.std.specs.List.{join_with_byte}
use Rattle.std.proofs.lemmas.List.{take_more, map-append, take-append-drop}
use Rattle.crew_terms.specs.Words.{Words, line_text}
use Rattle.crew_io.specs.Fronts.{IsFront, front_within}

-- what stands before the next word
abbrev pub gap_after : Words → List ℕ
gap_after [] = []
gap_after (w ∷ ws) = 32 ∷ []

join_more : (w : List ℕ) (ws : Words) (x : List ℕ) → join_with_byte 32 ((w ∷ ws) ++ x ∷ []) ≡ join_with_byte 32 (w ∷ ws) ++ 32 ∷ x
join_more w [] x = refl
join_more w (v ∷ vs) x = ap (λ zs. w ++ 32 ∷ zs) (join_more v vs x) ∙ sym (append_assoc w (32 ∷ join_with_byte 32 (v ∷ vs)) (32 ∷ x))

pub join_next : (ws : Words) (x : List ℕ) → join_with_byte 32 (ws ++ x ∷ []) ≡ (join_with_byte 32 ws ++ gap_after ws) ++ x
join_next [] x = refl
join_next (w ∷ ws) x = join_more w ws x ∙ sym (append_assoc (join_with_byte 32 (w ∷ ws)) (32 ∷ []) x)

join_front : (ws vs : Words) → IsFront (join_with_byte 32 ws) (join_with_byte 32 (ws ++ vs))
join_front [] vs = record { rest = join_with_byte 32 vs; is = refl }
join_front (w ∷ []) [] = record { rest = []; is = sym (append-nil w) }
join_front (w ∷ []) (v ∷ vs) = record { rest = 32 ∷ join_with_byte 32 (v ∷ vs); is = refl }
join_front (w ∷ u ∷ us) vs = let f = join_front (u ∷ us) vs in
    record { rest = f.rest; is = ap (λ zs. w ++ 32 ∷ zs) f.is ∙ sym (append_assoc w (32 ∷ join_with_byte 32 (u ∷ us)) f.rest) }

line_front : (ws : Words) → IsFront (join_with_byte 32 ws) (line_text ws)
line_front ws = record { rest = 10 ∷ []; is = refl }

module _ {A : Type 0} (text : A → List ℕ) (parts : List A) (i : ℕ) (d : A) (below : i < length parts) where
  pub joined : join_with_byte 32 (map text (take (i + 1) parts)) ≡ (join_with_byte 32 (map text (take i parts)) ++ gap_after (map text (take i parts))) ++ text (get_or parts i d)
  joined =
      ap (λ ps. join_with_byte 32 (map text ps)) (take_more parts i d below) ∙ ap (join_with_byte 32) (map-append text (take i parts) (get_or parts i d ∷ []))
      ∙ join_next (map text (take i parts)) (text (get_or parts i d))

  pub part_front : IsFront ((join_with_byte 32 (map text (take i parts)) ++ gap_after (map text (take i parts))) ++ text (get_or parts i d)) (line_text (map text parts))
  part_front =
      let a = join_front (map text (take (i + 1) parts)) (map text (drop (i + 1) parts)) in
      let all : map text (take (i + 1) parts) ++ map text (drop (i + 1) parts) ≡ map text parts =
      sym (map-append text (take (i + 1) parts) (drop (i + 1) parts)) ∙ ap (map text) (take-append-drop (i + 1) parts) in
      let b : IsFront (join_with_byte 32 (map text (take (i + 1) parts))) (join_with_byte 32 (map text parts)) =
      subst (λ ws. IsFront (join_with_byte 32 (map text (take (i + 1) parts))) (join_with_byte 32 ws)) all a in
      subst (λ xs. IsFront xs (line_text (map text parts))) joined (front_within _ _ _ b (line_front (map text parts)))

  pub gap_front : IsFront (join_with_byte 32 (map text (take i parts)) ++ gap_after (map text (take i parts))) (line_text (map text parts))
  gap_front = front_within _ _ _ (record { rest = text (get_or parts i d); is = refl }) part_front

pub feed_front : (ws : Words) → IsFront (join_with_byte 32 ws ++ 10 ∷ []) (line_text ws)
feed_front ws = record { rest = []; is = sym (append-nil (line_text ws)) }

pub gap_later : {A : Type 0} (text : A → List ℕ) (parts : List A) (i : ℕ) → i < length parts → 32 ∷ [] ≡ gap_after (map text (take (i + 1) parts))
gap_later text [] i h = absurd (omega arith)
gap_later text (p ∷ ps) i h = ap (λ k. gap_after (map text (take k (p ∷ ps)))) (sym (let e : i + 1 ≡ suc i = omega arith in e))
