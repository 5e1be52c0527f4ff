-- the day of an input, and the line behind it, are found in one way
use Rattle.std.proofs.Common.{◌≡◌, ◌≢◌, ◌≤◌, ◌<◌, ◌+◌, ◌-◌, ◌++◌, ◌∷◌, ◌⊎◌, inl, inr, [], ℕ, zero, suc, List, length, take, ltb, true, ap, subst, sym, refl, ◌∙◌, arith, lit≤, length-append, append_assoc, append-nil}
use Rattle.std.proofs.lemmas.List.Concat.{flat_map-append}
use Rattle.std.proofs.lemmas.Bool.{ltb-true}
use Rattle.std.proofs.lemmas.List.Elements.{All-append, All-cons, All-nil, All-weaker}
use Rattle.std.proofs.lemmas.List.Sums.{AllPass-from_list_all}
use Rattle.std.specs.Prelude.{All}
use Rattle.std.specs.List.{flat_map}
use Rattle.crew_terms.specs.Words.{IsLine, with_feed}
use Rattle.crew_terms.specs.declared.TheConstants.{LONGEST_INPUT, LONGEST_LINE}
use Rattle.crew_io.specs.Lines.{NoFeed}
use Rattle.cert_checker.specs.declared.checker.Stop.{Stop}
use Rattle.cert_checker.specs.declared.checker.Stop.TheVariants as stops
use Rattle.dossier_commands.specs.Input.{text_of_lines}
use Rattle.text_laws.specs.Texts.{HasMore}
use Rattle.audit_command.specs.Days.{HasDay, HasNoDay, Lacks, dossiers_line}

-- `dossiers` is a line
pub mark_is_line : IsLine dossiers_line
mark_is_line = record { short = lit≤ tt; whole = no_feed }
  where
    no_feed : All (λ b. b ≢ 10) dossiers_line
    no_feed = All-weaker (λ b. ltb 32 b ≡ true) (λ b. b ≢ 10) (λ b e. let l = ltb-true 32 b e in omega (arith, l)) dossiers_line (AllPass-from_list_all (ltb 32) dossiers_line refl)

-- an LF stands after a line
feed_at : (m x : List ℕ) (n : ℕ) → length m < n → NoFeed (take n (with_feed m ++ x)) → ⊥
feed_at m x zero l h = absurd (omega arith)
feed_at [] x (suc n) l h = h 0 0 (omega arith) refl
feed_at (c ∷ m) x (suc n) l h = feed_at m x n (omega arith) (λ k z b. h (suc k) z (omega arith))

feed_in : (m x : List ℕ) → NoFeed (with_feed m ++ x) → ⊥
feed_in [] x h = h 0 0 (omega arith) refl
feed_in (c ∷ m) x h = feed_in m x (λ k z b. h (suc k) z (omega arith))

-- where a line comes whole within the room, none is lacking
not_lacking : (room : ℕ) (rest line after : List ℕ) (why : Stop) → Lacks room rest why → IsLine line → length line < room → rest ≡ with_feed line ++ after → ⊥
not_lacking room rest line after (stops.End partial) lacks plain fits is = feed_in line after (subst NoFeed is lacks.plain.whole)
not_lacking room rest line after stops.TooLong lacks plain fits is =
    feed_at line after (LONGEST_LINE + 1) (let a = plain.short in omega arith) (subst (λ x. NoFeed (take (LONGEST_LINE + 1) x)) is lacks.whole)
not_lacking room rest line after stops.TooMuch lacks plain fits is = feed_at line after room fits (subst (λ x. NoFeed (take room x)) is lacks.whole)

-- and it is lacking for one reason
one_lack : (room : ℕ) (rest : List ℕ) (a b : Stop) → Lacks room rest a → Lacks room rest b → a ≡ b
one_lack room rest (stops.End p) (stops.End q) a b = ap stops.End (a.count ∙ sym b.count)
one_lack room rest (stops.End p) stops.TooLong a b = absurd (let s = a.plain.short in let m = b.more in omega arith)
one_lack room rest (stops.End p) stops.TooMuch a b = absurd (let s = a.fits in let m = b.more in omega arith)
one_lack room rest stops.TooLong (stops.End q) a b = absurd (let s = b.plain.short in let m = a.more in omega arith)
one_lack room rest stops.TooLong stops.TooLong a b = refl
one_lack room rest stops.TooLong stops.TooMuch a b = absurd (let s = a.large in let m = b.small in omega arith)
one_lack room rest stops.TooMuch (stops.End q) a b = absurd (let s = b.fits in let m = a.more in omega arith)
one_lack room rest stops.TooMuch stops.TooLong a b = absurd (let s = b.large in let m = a.small in omega arith)
one_lack room rest stops.TooMuch stops.TooMuch a b = refl

-- the lines before the first of its kind are one list
one_front : (mark : List ℕ) (xs ys a b : List (List ℕ)) → All (λ line. line ≢ mark) xs → All (λ line. line ≢ mark) ys → xs ++ mark ∷ a ≡ ys ++ mark ∷ b → xs ≡ ys
one_front mark [] [] a b p q e = refl
one_front mark [] (y ∷ ys) a b p q e = absurd (q 0 [] (omega arith) (let f : y ≡ mark = cc in f))
one_front mark (x ∷ xs) [] a b p q e = absurd (p 0 [] (omega arith) (let f : x ≡ mark = cc in f))
one_front mark (x ∷ xs) (y ∷ ys) a b p q e =
    let f : x ≡ y = cc in
    let g : xs ++ mark ∷ a ≡ ys ++ mark ∷ b = cc in
    ap (λ z. z ∷ xs) f ∙ ap (λ z. y ∷ z) (one_front mark xs ys a b (λ k z l. p (suc k) z (omega arith)) (λ k z l. q (suc k) z (omega arith)) g)

-- it does not stand among others
not_among : (mark : List ℕ) (xs ys more : List (List ℕ)) → All (λ line. line ≢ mark) xs → xs ≡ (ys ++ mark ∷ []) ++ more → ⊥
not_among mark xs ys more all e =
    let f : xs ≡ ys ++ mark ∷ more = e ∙ append_assoc ys (mark ∷ []) more in
    among mark ys more (subst (All (λ line. line ≢ mark)) f all)
  where
    among : (mark : List ℕ) (ys more : List (List ℕ)) → All (λ line. line ≢ mark) (ys ++ mark ∷ more) → ⊥
    among mark [] more h = h 0 [] (omega arith) refl
    among mark (y ∷ ys) more h = among mark ys more (λ k z l. h (suc k) z (omega arith))

-- the text of one line more
pub text_more : (lines : List (List ℕ)) (line : List ℕ) → text_of_lines (lines ++ line ∷ []) ≡ text_of_lines lines ++ with_feed line
text_more lines line = flat_map-append with_feed lines (line ∷ []) ∙ ap (λ x. text_of_lines lines ++ x) (append-nil (with_feed line))

-- the lines of a day, and the one behind it
abbrev marked : List (List ℕ) → List (List ℕ)
marked lines = lines ++ dossiers_line ∷ []

are_marked : (lines : List (List ℕ)) → All IsLine lines → All IsLine (marked lines)
are_marked lines each = All-append IsLine lines (dossiers_line ∷ []) each (All-cons IsLine dossiers_line [] mark_is_line (All-nil IsLine))

marked_text : (input text behind : List ℕ) (h : HasDay input text behind) → input ≡ text_of_lines (marked h.lines) ++ behind
marked_text input text behind h = h.parts ∙ ap (λ x. x ++ behind) (ap (λ x. x ++ with_feed dossiers_line) h.text_is ∙ sym (text_more h.lines dossiers_line))

module _ (either : (xs ys : List (List ℕ)) (a b : List ℕ) → All IsLine xs → All IsLine ys → flat_map with_feed xs ++ a ≡ flat_map with_feed ys ++ b
    → HasMore xs ys a b ⊎ HasMore ys xs b a) where
  pub one_day : (input text other behind rest : List ℕ) → HasDay input text behind → HasDay input other rest → text ≡ other
  one_day input text other behind rest a b = elim (either (marked a.lines) (marked b.lines) behind rest (are_marked a.lines a.are.each) (are_marked b.lines b.are.each)
      (sym (marked_text input text behind a) ∙ marked_text input other rest b)) [
        | inl m ↦ same (one_front dossiers_line a.lines b.lines [] m.more a.are.others b.are.others (m.lines ∙ append_assoc b.lines (dossiers_line ∷ []) m.more))
        | inr m ↦ same (sym (one_front dossiers_line b.lines a.lines [] m.more b.are.others a.are.others (m.lines ∙ append_assoc a.lines (dossiers_line ∷ []) m.more)))
      ]
    where
      same : a.lines ≡ b.lines → text ≡ other
      same e = a.text_is ∙ ap text_of_lines e ∙ sym b.text_is

  -- the line after these is within the room behind them
  fits_room : (lines xs : List (List ℕ)) (x : List ℕ) (all : List (List ℕ)) → length (text_of_lines all) ≤ LONGEST_INPUT → all ≡ lines ++ x ∷ xs
      → length x < LONGEST_INPUT - length (text_of_lines lines)
  fits_room lines xs x all within e =
      let f = ap (λ ls. length (text_of_lines ls)) e in
      let g = ap length (flat_map-append with_feed lines (x ∷ xs)) in
      let h = length-append (text_of_lines lines) (text_of_lines (x ∷ xs)) in
      let i = length-append (with_feed x) (text_of_lines xs) in
      let j = length-append x (10 ∷ []) in
      omega (arith, f, g, h, i, j, within)

  -- behind lines, none of which is the one behind a day, lines that were read go on
  not_on : (input : List ℕ) (why : Stop) (h : HasNoDay input why) (all more : List (List ℕ)) (behind : List ℕ) → All IsLine all → length (text_of_lines all) ≤ LONGEST_INPUT
      → all ≡ h.lines ++ more → h.rest ≡ flat_map with_feed more ++ behind → (more ≡ [] → ⊥) → ⊥
  not_on input why h all [] behind each within e f some = some refl
  not_on input why h all (x ∷ xs) behind each within e f some =
      not_lacking (LONGEST_INPUT - length (text_of_lines h.lines)) h.rest x (flat_map with_feed xs ++ behind) why h.lacks
      (line_in h.lines xs x (subst (All IsLine) e each)) (fits_room h.lines xs x all within e) (f ∙ append_assoc (with_feed x) (flat_map with_feed xs) behind)
    where
      line_in : (ls xs : List (List ℕ)) (x : List ℕ) → All IsLine (ls ++ x ∷ xs) → IsLine x
      line_in [] xs x h = h 0 [] (omega arith)
      line_in (l ∷ ls) xs x h = line_in ls xs x (λ k z b. h (suc k) z (omega arith))

  pub day_or_none : (input text behind : List ℕ) (why : Stop) → HasDay input text behind → HasNoDay input why → ⊥
  day_or_none input text behind why d n = elim (either (marked d.lines) n.lines behind n.rest (are_marked d.lines d.are.each) n.begins.are.each
      (sym (marked_text input text behind d) ∙ n.begins.parts)) [
        | inl m ↦ not_on input why n (marked d.lines) m.more behind (are_marked d.lines d.are.each)
            (let w = d.within in let t = ap (λ x. length (x ++ with_feed dossiers_line)) d.text_is in let l = ap length (text_more d.lines dossiers_line) in omega (arith, w, t, l))
            m.lines m.text (λ none. not_among dossiers_line n.lines d.lines [] n.begins.are.others
            (sym (append-nil n.lines) ∙ ap (λ x. n.lines ++ x) (sym none) ∙ sym m.lines ∙ sym (append-nil (marked d.lines))))
        | inr m ↦ not_among dossiers_line n.lines d.lines m.more n.begins.are.others m.lines
      ]

  pub one_none : (input : List ℕ) (a b : Stop) → HasNoDay input a → HasNoDay input b → a ≡ b
  one_none input a b p q = elim (either p.lines q.lines p.rest q.rest p.begins.are.each q.begins.are.each (sym p.begins.parts ∙ q.begins.parts)) [
    | inl m ↦ sym (at b a q p m.more m.lines m.text)
    | inr m ↦ at a b p q m.more m.lines m.text
  ]
    where
      at : (a b : Stop) (p : HasNoDay input a) (q : HasNoDay input b) (more : List (List ℕ)) → q.lines ≡ p.lines ++ more → p.rest ≡ flat_map with_feed more ++ q.rest → a ≡ b
      at a b p q (x ∷ xs) e f = absurd (not_on input a p q.lines (x ∷ xs) q.rest q.begins.are.each q.begins.within e f (λ g. cc))
      at a b p q [] e f =
          let lines : q.lines ≡ p.lines = e ∙ append-nil p.lines in
          one_lack (LONGEST_INPUT - length (text_of_lines q.lines)) q.rest a b
          (subst (λ r. Lacks (LONGEST_INPUT - length (text_of_lines q.lines)) r a) f (subst (λ ls. Lacks (LONGEST_INPUT - length (text_of_lines ls)) p.rest a) (sym lines) p.lacks)) q.lacks
