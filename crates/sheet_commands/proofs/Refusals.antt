-- an input with a line that is refused is accepted as no sheets
use Rattle.std.proofs.Common.{◌≡◌, ◌≢◌, ◌≤◌, ◌<◌, ◌+◌, ◌++◌, ℕ, zero, suc, List, [], ◌∷◌, length, map, take, sym, subst, ap, refl, ◌∙◌, arith, ◌⊎◌, inl, inr, length-append, append_assoc, append-nil}
use Rattle.std.proofs.lemmas.List.{append_cancel_left, get_or-append-add, map-append}
use Rattle.std.proofs.lemmas.List.Concat.{flat_map-append}
use Rattle.std.proofs.lemmas.List.Elements.{All-append, All-map}
use Rattle.std.specs.Prelude.{All}
use Rattle.std.specs.List.{flat_map}
use Rattle.crew_terms.specs.Words.{Words, IsLine, words_of, line_of, with_feed}
use Rattle.crew_terms.specs.declared.TheConstants.{LONGEST_INPUT, LONGEST_LINE}
use Rattle.crew_io.specs.Lines.{NoFeed}
use Rattle.dossier_terms.specs.declared.Reason.{Reason}
use Rattle.text_laws.specs.Texts.{IsFront, AreLine, HasMore}
use Rattle.dossier_commands.specs.Input.{IsStop, Stops, LineTooLong, InputTooLong, text_of_lines}
use Rattle.sheet_terms.specs.Lines.{lines_of_sheet, text_of_sheet}
use Rattle.sheet_terms.specs.Reading.{SheetReading, SheetAnswer, First, More, Whole, No}
use Rattle.sheet_terms.specs.Sheet.{Sheet, IsGoodSheet}
use Rattle.sheet_terms.specs.Table.{SaysOfSheet, ReachesInSheet, EndsSheet}
use Rattle.sheet_texts.specs.Accepted.{AreAcceptedSheets}
use Rattle.sheet_reads.proofs.Reaches.{reaches_more}
use Rattle.sheet_commands.specs.Input.{IsRefusal, BadLine, NoLine, HasRead, IsEnd, text_before, lines_before, room_after}

-- the first line before an LF is one
same_line : (a b x y : List ℕ) → All (λ c. c ≢ 10) a → All (λ c. c ≢ 10) b → with_feed a ++ x ≡ with_feed b ++ y → a ≡ b
same_line [] [] x y p q e = refl
same_line [] (c ∷ b) x y p q e = absurd (q 0 0 (omega arith) (let f : c ≡ 10 = cc in f))
same_line (c ∷ a) [] x y p q e = absurd (p 0 0 (omega arith) (let f : c ≡ 10 = cc in f))
same_line (c ∷ a) (d ∷ b) x y p q e =
    let f : c ≡ d = cc in
    let g : with_feed a ++ x ≡ with_feed b ++ y = cc in
    ap (λ z. z ∷ a) f ∙ ap (λ z. d ∷ z) (same_line a b x y (λ k z l. p (suc k) z (omega arith)) (λ k z l. q (suc k) z (omega arith)) g)

-- an LF stands after a line
feed_at : (m x : List ℕ) (n : ℕ) → length m < n → NoFeed (take n (with_feed m ++ x)) → ⊥
feed_at m x zero l h = absurd (omega arith)
feed_at [] x (suc n) l h = h 0 0 (omega arith) refl
feed_at (c ∷ m) x (suc n) l h = feed_at m x n (omega arith) (λ k z b. h (suc k) z (omega arith))

feed_in : (m x : List ℕ) → NoFeed (with_feed m ++ x) → ⊥
feed_in [] x h = h 0 0 (omega arith) refl
feed_in (c ∷ m) x h = feed_in m x (λ k z b. h (suc k) z (omega arith))

-- of two lists that go on to one list, one goes on to the other
front_of : (xs ys a b : List Words) → xs ++ a ≡ ys ++ b → ((m : List Words) × (xs ≡ ys ++ m)) ⊎ ((m : List Words) × (ys ≡ xs ++ m))
front_of [] ys a b e = inr (ys, refl)
front_of (x ∷ xs) [] a b e = inl (x ∷ xs, refl)
front_of (x ∷ xs) (y ∷ ys) a b e =
    let f : x ≡ y = cc in
    let g : xs ++ a ≡ ys ++ b = cc in
    elim (front_of xs ys a b g) [
      | inl m ↦ inl (m.0, ap (λ z. z ∷ xs) f ∙ ap (λ z. y ∷ z) m.1)
      | inr m ↦ inr (m.0, ap (λ z. z ∷ ys) (sym f) ∙ ap (λ z. x ∷ z) m.1)
    ]

-- what holds of all holds of those behind the first ones
all_behind : {X : Type 0} (P : X → Type 0) (xs ys : List X) → All P (xs ++ ys) → All P ys
all_behind P xs ys h = λ k x l.
    let a : length xs + k < length (xs ++ ys) = (let n = length-append xs ys in omega arith) in
    subst P (get_or-append-add xs ys k x) (h (length xs + k) x a)

-- where a line comes whole within the room, nothing stops
whole_line : (room : ℕ) (rest : List ℕ) (reason : Reason) (line after : List ℕ) → IsStop room rest reason
    → IsLine line → length line < room → rest ≡ with_feed line ++ after → ⊥
whole_line room rest reason line after (Stops partial part why) plain fits is = feed_in line after (subst NoFeed is part.plain.whole)
whole_line room rest reason line after (LineTooLong long why) plain fits is =
    feed_at line after (LONGEST_LINE + 1) (let a = plain.short in omega arith) (subst (λ x. NoFeed (take (LONGEST_LINE + 1) x)) is long.whole)
whole_line room rest reason line after (InputTooLong long why) plain fits is =
    feed_at line after room fits (subst (λ x. NoFeed (take room x)) is long.whole)

-- a reading stops for one reason
one_stop : (room : ℕ) (rest : List ℕ) (reason why : Reason) → IsStop room rest reason → IsStop room rest why → reason ≡ why
one_stop room rest reason why (Stops p a e) (Stops q b f) = e ∙ sym f
one_stop room rest reason why (Stops p a e) (LineTooLong b f) = absurd (let s = a.plain.short in let m = b.more in omega arith)
one_stop room rest reason why (Stops p a e) (InputTooLong b f) = absurd (let s = a.fits in let m = b.more in omega arith)
one_stop room rest reason why (LineTooLong a e) (Stops q b f) = absurd (let s = b.plain.short in let m = a.more in omega arith)
one_stop room rest reason why (LineTooLong a e) (LineTooLong b f) = e ∙ sym f
one_stop room rest reason why (LineTooLong a e) (InputTooLong b f) = absurd (let s = a.large in let m = b.small in omega arith)
one_stop room rest reason why (InputTooLong a e) (Stops q b f) = absurd (let s = b.fits in let m = a.more in omega arith)
one_stop room rest reason why (InputTooLong a e) (LineTooLong b f) = absurd (let s = b.large in let m = a.small in omega arith)
one_stop room rest reason why (InputTooLong a e) (InputTooLong b f) = e ∙ sym f

-- what is refused behind these lines: the next one, or that none comes whole
data Stands (done : List Sheet) (lines : List (List ℕ)) (rest : List ℕ) (due : SheetReading) (reason : Reason) : Type 0 where
  AtLine : (line after : List ℕ) (parts : rest ≡ with_feed line ++ after) (plain : IsLine line) (fits : length line < room_after done lines)
      (answer : SaysOfSheet due (words_of line) (No reason)) → Stands done lines rest due reason
  AtStop : (stop : IsStop (room_after done lines) rest reason) (more : IsEnd done lines rest → ⊥) → Stands done lines rest due reason

-- where an input is refused
record IsPlace (input : List ℕ) (done : List Sheet) (number : ℕ) (reason : Reason) : Type 0 where
  lines : List (List ℕ)
  rest : List ℕ
  due : SheetReading
  read : HasRead input done lines rest due
  stands : Stands done lines rest due reason
  is : number ≡ suc (lines_before done lines)

place_of : (input : List ℕ) (done : List Sheet) (number : ℕ) (reason : Reason) → IsRefusal input done number reason → IsPlace input done number reason
place_of input done number reason (BadLine lines line after due read plain fits answer is) =
    record { lines = lines; rest = with_feed line ++ after; due = due; read = read; stands = AtLine line after refl plain fits answer; is = is }
place_of input done number reason (NoLine lines rest due read stop more is) =
    record { lines = lines; rest = rest; due = due; read = read; stands = AtStop stop more; is = is }

-- a reading that goes on where another stands does so within the same sheet, or beyond it
data GoesOn (done others : List Sheet) (ws vs m : List Words) : Type 0 where
  Within : (same : done ≡ others) (words : vs ≡ ws ++ m) → GoesOn done others ws vs m
  Beyond : (d : Sheet) (good : IsGoodSheet d) (tail : List Words) (words : ws ++ m ≡ lines_of_sheet d ++ tail) → GoesOn done others ws vs m

extend : (d x : Sheet) (done others : List Sheet) (ws vs m : List Words) → d ≡ x → GoesOn done others ws vs m → GoesOn (d ∷ done) (x ∷ others) ws vs m
extend d x done others ws vs m same (Within s w) = Within (ap (λ y. d ∷ y) s ∙ ap (λ y. y ∷ others) same) w
extend d x done others ws vs m same (Beyond e g t w) = Beyond e g t w

no_text : (d : Sheet) (xs : List Words) → [] ≡ lines_of_sheet d ++ xs → ⊥
no_text d xs e = cc

no_words : (xs : List (List ℕ)) → map words_of xs ≡ [] → xs ≡ []
no_words [] e = refl
no_words (x ∷ xs) e = absurd (cc)

both_none : (xs ys : List Words) → xs ++ ys ≡ [] → (xs ≡ []) × (ys ≡ [])
both_none [] ys e = (refl, e)
both_none (x ∷ xs) ys e = absurd (cc)

-- the lines that were read of an input
abbrev lines_read : List Sheet → List (List ℕ) → List (List ℕ)
lines_read done lines = map line_of (flat_map lines_of_sheet done) ++ lines

-- the laws of the table and of texts
module _
    (one : (lines : List Words) (s : SheetReading) (ws : Words) (a b : SheetAnswer) → ReachesInSheet First lines s → SaysOfSheet s ws a → SaysOfSheet s ws b → a ≡ b)
    (is_read : (d : Sheet) → IsGoodSheet d → EndsSheet First (lines_of_sheet d) d)
    (read_front : (ds : List Sheet) (lines : List (List ℕ)) (rest : List ℕ) → All IsGoodSheet ds → All IsLine lines
    → flat_map text_of_sheet ds ≡ flat_map with_feed lines ++ rest → IsFront (flat_map lines_of_sheet ds) lines rest)
    (good : (d : Sheet) → IsGoodSheet d → All AreLine (lines_of_sheet d))
    (cut : (words : Words) → words ≢ [] → All (All (λ b. b ≢ 32)) words → words_of (line_of words) ≡ words)
    (texts : (ds : List Sheet) (lines : List (List ℕ)) → flat_map lines_of_sheet ds ≡ map words_of lines → flat_map text_of_sheet ds ≡ flat_map with_feed lines)
    (first : (d e : Sheet) (more : List Words) → IsGoodSheet d → IsGoodSheet e → lines_of_sheet e ≡ lines_of_sheet d ++ more → (more ≡ []) × (d ≡ e)) where
  -- what is is_read after lines that lead on is is_read from where they lead
  ended_from : (before : List Words) (s : SheetReading) (lines more : List Words) (t : SheetReading) (d : Sheet)
      → ReachesInSheet First before s → ReachesInSheet s lines t → EndsSheet s (lines ++ more) d → EndsSheet t more d
  ended_from before s [] more t d r h a = subst (λ x. EndsSheet x more d) h a
  ended_from before s (ws ∷ lines) more t d r h (inl w) =
      let e : More h.0 ≡ Whole d = one before s ws (More h.0) (Whole d) r h.1 w.0 in absurd (cc)
  ended_from before s (ws ∷ lines) more t d r h (inr n) =
      let e : More h.0 ≡ More n.0 = one before s ws (More h.0) (More n.0) r h.1 n.1 in
      let f : h.0 ≡ n.0 = cc in
      ended_from (before ++ ws ∷ []) h.0 lines more t d (reaches_more First before s ws h.0 r h.1) h.2
      (subst (λ x. EndsSheet x (lines ++ more) d) (sym f) n.2)

  -- no lines lead past the end of a sheet
  leads_not_past : (before : List Words) (s : SheetReading) (lines more : List Words) (t : SheetReading) (d : Sheet)
      → ReachesInSheet First before s → EndsSheet s lines d → ReachesInSheet s (lines ++ more) t → ⊥
  leads_not_past before s [] more t d r a h = a
  leads_not_past before s (ws ∷ lines) more t d r (inl w) h =
      let e : More h.0 ≡ Whole d = one before s ws (More h.0) (Whole d) r h.1 w.0 in cc
  leads_not_past before s (ws ∷ lines) more t d r (inr n) h =
      let e : More h.0 ≡ More n.0 = one before s ws (More h.0) (More n.0) r h.1 n.1 in
      let f : h.0 ≡ n.0 = cc in
      leads_not_past (before ++ ws ∷ []) n.0 lines more t d (reaches_more First before s ws n.0 r n.1) n.2
      (subst (λ x. ReachesInSheet x (lines ++ more) t) f h.2)

  -- two good sheets whose lines begin one text are one
  same_first : (d x : Sheet) (a b : List Words) → IsGoodSheet d → IsGoodSheet x → lines_of_sheet x ++ a ≡ lines_of_sheet d ++ b → d ≡ x
  same_first d x a b gd gx f = elim (front_of (lines_of_sheet x) (lines_of_sheet d) a b f) [
    | inl m ↦ (first d x m.0 gd gx m.1).1
    | inr m ↦ sym (first x d m.0 gx gd m.1).1
  ]

  -- good sheets whose lines begin with those of others begin with these
  split_off : (done es : List Sheet) (xs : List Words) → All IsGoodSheet done → All IsGoodSheet es → flat_map lines_of_sheet es ≡ flat_map lines_of_sheet done ++ xs
      → (rest : List Sheet) × (es ≡ done ++ rest) × (xs ≡ flat_map lines_of_sheet rest)
  split_off [] es xs gd ge e = (es, refl, sym e)
  split_off (d ∷ done) [] xs gd ge e = absurd (no_text d (flat_map lines_of_sheet done ++ xs) (e ∙ append_assoc (lines_of_sheet d) (flat_map lines_of_sheet done) xs))
  split_off (d ∷ done) (x ∷ es) xs gd ge e =
      let f : lines_of_sheet x ++ flat_map lines_of_sheet es ≡ lines_of_sheet d ++ (flat_map lines_of_sheet done ++ xs) = e ∙ append_assoc (lines_of_sheet d) (flat_map lines_of_sheet done) xs in
      let same : d ≡ x = same_first d x (flat_map lines_of_sheet es) (flat_map lines_of_sheet done ++ xs) (gd 0 d (omega arith)) (ge 0 d (omega arith)) f in
      let g : flat_map lines_of_sheet es ≡ flat_map lines_of_sheet done ++ xs = append_cancel_left (lines_of_sheet d) (flat_map lines_of_sheet es) (flat_map lines_of_sheet done ++ xs)
      (ap (λ y. lines_of_sheet y ++ flat_map lines_of_sheet es) same ∙ f) in
      let r = split_off done es xs (λ k y l. gd (suc k) y (omega arith)) (λ k y l. ge (suc k) y (omega arith)) g in
      (r.0, ap (λ y. y ∷ es) (sym same) ∙ ap (λ y. d ∷ y) r.1, r.2)

  good_all : (ds : List Sheet) → All IsGoodSheet ds → All AreLine (flat_map lines_of_sheet ds)
  good_all [] g = λ k d l. absurd (omega arith)
  good_all (d ∷ ds) g = All-append AreLine (lines_of_sheet d) (flat_map lines_of_sheet ds) (good d (g 0 d (omega arith))) (good_all ds (λ k x l. g (suc k) x (omega arith)))

  cut_all : (ls : List Words) → All AreLine ls → map words_of (map line_of ls) ≡ ls
  cut_all [] h = refl
  cut_all (ws ∷ ls) h =
      let w = h 0 ws (omega arith) in
      let e : words_of (line_of ws) ≡ ws = cut ws w.some (λ k x l. (w.each k x l).no_space) in
      ap (λ x. x ∷ map words_of (map line_of ls)) e ∙ ap (λ x. ws ∷ x) (cut_all ls (λ k x l. h (suc k) x (omega arith)))

  -- the lines that were read are lines, with these bytes and words
  are_lines : (done : List Sheet) (lines : List (List ℕ)) → All IsGoodSheet done → All IsLine lines → All IsLine (lines_read done lines)
  are_lines done lines g each = All-append IsLine (map line_of (flat_map lines_of_sheet done)) lines
      (All-map IsLine line_of (flat_map lines_of_sheet done) (λ i y b. (good_all done g i y b).line)) each

  text_read : (done : List Sheet) (lines : List (List ℕ)) → All IsGoodSheet done → text_before done lines ≡ flat_map with_feed (lines_read done lines)
  text_read done lines g = let bytes = map line_of (flat_map lines_of_sheet done) in
      ap (λ x. x ++ text_of_lines lines) (texts done bytes (sym (cut_all (flat_map lines_of_sheet done) (good_all done g)))) ∙ sym (flat_map-append with_feed bytes lines)

  words_read : (done : List Sheet) (lines : List (List ℕ)) → All IsGoodSheet done → map words_of (lines_read done lines) ≡ flat_map lines_of_sheet done ++ map words_of lines
  words_read done lines g = map-append words_of (map line_of (flat_map lines_of_sheet done)) lines
      ∙ ap (λ x. x ++ map words_of lines) (cut_all (flat_map lines_of_sheet done) (good_all done g))

  -- the rest of accepted bytes behind whole sheets and lines of the next one
  record IsTail (done es : List Sheet) (lines : List (List ℕ)) (rest : List ℕ) : Type 0 where
    more : List (List ℕ)
    each : All IsLine more
    text : rest ≡ flat_map with_feed more
    others : List Sheet
    all : es ≡ done ++ others
    words : map words_of lines ++ map words_of more ≡ flat_map lines_of_sheet others

  front_each : (all : List Words) (lines more : List (List ℕ)) → All AreLine all → map line_of all ≡ lines ++ more → All IsLine more
  front_each all lines more h e = all_behind IsLine lines more (subst (All IsLine) e (All-map IsLine line_of all (λ i y b. (h i y b).line)))

  tail_of : (done es : List Sheet) (lines : List (List ℕ)) (rest : List ℕ) → All IsGoodSheet done → All IsGoodSheet es → All IsLine lines
      → flat_map text_of_sheet es ≡ text_before done lines ++ rest → IsTail done es lines rest
  tail_of done es lines rest gd ge each text =
      let read = lines_read done lines in
      let f = read_front es read rest ge (are_lines done lines gd each) (text ∙ ap (λ x. x ++ rest) (text_read done lines gd)) in
      let words : flat_map lines_of_sheet es ≡ flat_map lines_of_sheet done ++ (map words_of lines ++ map words_of f.more) =
      f.words ∙ ap (λ x. x ++ map words_of f.more) (words_read done lines gd) ∙ append_assoc (flat_map lines_of_sheet done) (map words_of lines) (map words_of f.more) in
      let s = split_off done es (map words_of lines ++ map words_of f.more) gd ge words in
      record {
        more = f.more;
        each = front_each (flat_map lines_of_sheet es) read f.more (good_all es ge) f.spelled;
        text = f.text;
        others = s.0;
        all = s.1;
        words = s.2;
      }

  those_behind : (done others es : List Sheet) (P : Sheet → Type 0) → es ≡ done ++ others → All P es → All P others
  those_behind done others es P e h = all_behind P done others (subst (All P) e h)

  -- lines that lead on lead on from where the first of them lead
  leads_after : (before : List Words) (s : SheetReading) (lines more : List Words) (t u : SheetReading)
      → ReachesInSheet First before s → ReachesInSheet s lines t → ReachesInSheet s (lines ++ more) u → ReachesInSheet t more u
  leads_after before s [] more t u r h a = subst (λ x. ReachesInSheet x more u) h a
  leads_after before s (ws ∷ lines) more t u r h n =
      let e : More h.0 ≡ More n.0 = one before s ws (More h.0) (More n.0) r h.1 n.1 in
      let f : h.0 ≡ n.0 = cc in
      leads_after (before ++ ws ∷ []) h.0 lines more t u (reaches_more First before s ws h.0 r h.1) h.2
      (subst (λ x. ReachesInSheet x (lines ++ more) u) (sym f) n.2)

  goes_on : (done others : List Sheet) (ws vs m : List Words) (due : SheetReading) → All IsGoodSheet done → All IsGoodSheet others
      → ReachesInSheet First vs due → flat_map lines_of_sheet others ++ vs ≡ (flat_map lines_of_sheet done ++ ws) ++ m → GoesOn done others ws vs m
  goes_on [] [] ws vs m due gd go leads e = Within refl e
  goes_on [] (d ∷ ds) ws vs m due gd go leads e = Beyond d (go 0 d (omega arith)) (flat_map lines_of_sheet ds ++ vs)
      (sym e ∙ append_assoc (lines_of_sheet d) (flat_map lines_of_sheet ds) vs)
  goes_on (d ∷ done) [] ws vs m due gd go leads e =
      let f : vs ≡ lines_of_sheet d ++ ((flat_map lines_of_sheet done ++ ws) ++ m) = e ∙ ap (λ x. x ++ m) (append_assoc (lines_of_sheet d) (flat_map lines_of_sheet done) ws)
      ∙ append_assoc (lines_of_sheet d) (flat_map lines_of_sheet done ++ ws) m in
      absurd (leads_not_past [] First (lines_of_sheet d) ((flat_map lines_of_sheet done ++ ws) ++ m) due d refl (is_read d (gd 0 d (omega arith)))
      (subst (λ x. ReachesInSheet First x due) f leads))
  goes_on (d ∷ done) (x ∷ others) ws vs m due gd go leads e =
      let a = flat_map lines_of_sheet others ++ vs in
      let b = (flat_map lines_of_sheet done ++ ws) ++ m in
      let f : lines_of_sheet x ++ a ≡ lines_of_sheet d ++ b = sym (append_assoc (lines_of_sheet x) (flat_map lines_of_sheet others) vs) ∙ e
      ∙ ap (λ y. y ++ m) (append_assoc (lines_of_sheet d) (flat_map lines_of_sheet done) ws) ∙ append_assoc (lines_of_sheet d) (flat_map lines_of_sheet done ++ ws) m in
      let same : d ≡ x = same_first d x a b (gd 0 d (omega arith)) (go 0 x (omega arith)) f in
      let g : a ≡ b = append_cancel_left (lines_of_sheet d) a b (ap (λ y. lines_of_sheet y ++ a) same ∙ f) in
      extend d x done others ws vs m same (goes_on done others ws vs m due
      (λ k y l. gd (suc k) y (omega arith)) (λ k y l. go (suc k) y (omega arith)) leads g)

  -- an answer that takes a line
  record IsTaken (due : SheetReading) (words : Words) : Type 0 where
    said : SheetAnswer
    answer : SaysOfSheet due words said
    taken : (reason : Reason) → said ≢ No reason

  -- the next line of a sheet
  taken_in : (ws : List Words) (w : Words) (ms : List Words) (due : SheetReading) (d : Sheet) (tail : List Words) → IsGoodSheet d
      → ReachesInSheet First ws due → ws ++ w ∷ ms ≡ lines_of_sheet d ++ tail → IsTaken due w
  taken_in ws w ms due d tail g leads words = elim (front_of ws (lines_of_sheet d) (w ∷ ms) tail words) [
    | inl k ↦ absurd (leads_not_past [] First (lines_of_sheet d) k.0 due d refl (is_read d g) (subst (λ x. ReachesInSheet First x due) k.1 leads))
    | inr k ↦ at k.0 (ended_from [] First ws k.0 due d refl leads (subst (λ x. EndsSheet First x d) k.1 (is_read d g)))
        (append_cancel_left ws (w ∷ ms) (k.0 ++ tail) (words ∙ ap (λ x. x ++ tail) k.1 ∙ append_assoc ws k.0 tail))
  ]
    where
      at : (k : List Words) → EndsSheet due k d → w ∷ ms ≡ k ++ tail → IsTaken due w
      at [] a f = absurd a
      at (y ∷ k) (inl z) f = record { said = Whole d; answer = subst (λ x. SaysOfSheet due x (Whole d)) (let h : y ≡ w = cc in h) z.0; taken = λ reason x. cc }
      at (y ∷ k) (inr n) f = record { said = More n.0; answer = subst (λ x. SaysOfSheet due x (More n.0)) (let h : y ≡ w = cc in h) n.1; taken = λ reason x. cc }

  next_taken : (done others : List Sheet) (ws vs : List Words) (w : Words) (ms : List Words) (due later : SheetReading)
      → ReachesInSheet First ws due → ReachesInSheet First vs later → GoesOn done others ws vs (w ∷ ms) → IsTaken due w
  next_taken done others ws vs w ms due later leads on (Within same words) =
      let l = leads_after [] First ws (w ∷ ms) due later refl leads (subst (λ y. ReachesInSheet First y later) words on) in
      record { said = More l.0; answer = l.1; taken = λ reason e. cc }
  next_taken done others ws vs w ms due later leads on (Beyond d g tail words) = taken_in ws w ms due d tail g leads words

  -- a line that is taken is not where an input is refused
  not_taken : (done : List Sheet) (lines : List (List ℕ)) (rest : List ℕ) (due : SheetReading) (reason : Reason) (line after : List ℕ) → ReachesInSheet First (map words_of lines) due
      → Stands done lines rest due reason → rest ≡ with_feed line ++ after → IsLine line → length line < room_after done lines → IsTaken due (words_of line) → ⊥
  not_taken done lines rest due reason line after leads (AtLine bad behind parts plain fits answer) text whole room t =
      let is : bad ≡ line = same_line bad line behind after plain.whole whole.whole (sym parts ∙ text) in
      t.taken reason (one (map words_of lines) due (words_of line) t.said (No reason) leads t.answer
      (subst (λ x. SaysOfSheet due (words_of x) (No reason)) is answer))
  not_taken done lines rest due reason line after leads (AtStop stop more) text whole room t = whole_line (room_after done lines) rest reason line after stop whole room text

  one_stand : (done : List Sheet) (lines : List (List ℕ)) (rest : List ℕ) (due : SheetReading) (reason why : Reason) → ReachesInSheet First (map words_of lines) due
      → Stands done lines rest due reason → Stands done lines rest due why → reason ≡ why
  one_stand done lines rest due reason why leads (AtLine a x e p f n) (AtLine b y g q h m) =
      let is : a ≡ b = same_line a b x y p.whole q.whole (sym e ∙ g) in
      let both : No reason ≡ No why = one (map words_of lines) due (words_of b) (No reason) (No why) leads
      (subst (λ z. SaysOfSheet due (words_of z) (No reason)) is n) m in
      cc
  one_stand done lines rest due reason why leads (AtLine a x e p f n) (AtStop stop more) = absurd (whole_line (room_after done lines) rest why a x stop p f e)
  one_stand done lines rest due reason why leads (AtStop stop more) (AtLine a x e p f n) = absurd (whole_line (room_after done lines) rest reason a x stop p f e)
  one_stand done lines rest due reason why leads (AtStop a c) (AtStop b d) = one_stop (room_after done lines) rest reason why a b

  -- a line that is read behind others fits into the room behind these
  fits_behind : (done others : List Sheet) (lines more : List (List ℕ)) (x : List ℕ) (xs : List (List ℕ)) → All IsGoodSheet done → All IsGoodSheet others
      → length (text_before others more) ≤ LONGEST_INPUT → lines_read others more ≡ lines_read done lines ++ x ∷ xs → length x < room_after done lines
  fits_behind done others lines more x xs gd go within e =
      let f = ap length (text_read others more go ∙ ap (flat_map with_feed) e ∙ flat_map-append with_feed (lines_read done lines) (x ∷ xs)) in
      let g = length-append (flat_map with_feed (lines_read done lines)) (flat_map with_feed (x ∷ xs)) in
      let h = length-append (with_feed x) (flat_map with_feed xs) in
      let i = length-append x (10 ∷ []) in
      let j = ap length (text_read done lines gd) in
      omega arith

  -- of two refusals the one that has read no less stands at the same place
  not_ahead : (input : List ℕ) (done others : List Sheet) (number other : ℕ) (reason why : Reason) (a : IsPlace input done number reason) (b : IsPlace input others other why)
      (more : List (List ℕ)) → lines_read others b.lines ≡ lines_read done a.lines ++ more → a.rest ≡ flat_map with_feed more ++ b.rest
      → (done ≡ others) × (number ≡ other) × (reason ≡ why)
  not_ahead input done others number other reason why a b more e text = at more e text (goes_on done others (map words_of a.lines) (map words_of b.lines) (map words_of more) b.due
      a.read.good b.read.good b.read.leads words)
    where
      words : flat_map lines_of_sheet others ++ map words_of b.lines ≡ (flat_map lines_of_sheet done ++ map words_of a.lines) ++ map words_of more
      words = sym (words_read others b.lines b.read.good) ∙ ap (map words_of) e ∙ map-append words_of (lines_read done a.lines) more
          ∙ ap (λ y. y ++ map words_of more) (words_read done a.lines a.read.good)

      same : done ≡ others → a.lines ≡ b.lines → a.rest ≡ b.rest → a.due ≡ b.due → (done ≡ others) × (number ≡ other) × (reason ≡ why)
      same p q r s =
          let stands : Stands done a.lines a.rest a.due why = subst (λ z. Stands done a.lines a.rest z why) (sym s)
          (subst (λ z. Stands done a.lines z b.due why) (sym r) (subst (λ z. Stands done z b.rest b.due why) (sym q) (subst (λ z. Stands z b.lines b.rest b.due why) (sym p) b.stands))) in (
            p,
            a.is ∙ ap (λ z. suc (lines_before z a.lines)) p ∙ ap (λ z. suc (lines_before others z)) q ∙ sym b.is,
            one_stand done a.lines a.rest a.due reason why a.read.leads a.stands stands,
          )

      at : (more : List (List ℕ)) → lines_read others b.lines ≡ lines_read done a.lines ++ more → a.rest ≡ flat_map with_feed more ++ b.rest
          → GoesOn done others (map words_of a.lines) (map words_of b.lines) (map words_of more) → (done ≡ others) × (number ≡ other) × (reason ≡ why)
      at (x ∷ xs) e text on =
          absurd (not_taken done a.lines a.rest a.due reason x (flat_map with_feed xs ++ b.rest) a.read.leads a.stands (text ∙ append_assoc (with_feed x) (flat_map with_feed xs) b.rest)
          (all_behind IsLine (lines_read done a.lines) (x ∷ xs) (subst (All IsLine) e (are_lines others b.lines b.read.good b.read.each)) 0 x (omega arith)) (fits_behind done others a.lines b.lines x xs a.read.good b.read.good b.read.within e)
          (next_taken done others (map words_of a.lines) (map words_of b.lines) (words_of x) (map words_of xs) a.due b.due a.read.leads b.read.leads on))
      at [] e text (Within p w) =
          let bytes : map line_of (flat_map lines_of_sheet done) ++ b.lines ≡ map line_of (flat_map lines_of_sheet done) ++ a.lines =
          ap (λ z. map line_of (flat_map lines_of_sheet z) ++ b.lines) p ∙ e ∙ append-nil (lines_read done a.lines) in
          same p (sym (append_cancel_left (map line_of (flat_map lines_of_sheet done)) b.lines a.lines bytes)) text
          (leads_after [] First (map words_of a.lines) [] a.due b.due refl a.read.leads (subst (λ y. ReachesInSheet First y b.due) w b.read.leads))
      at [] e text (Beyond d g tail w) =
          absurd (leads_not_past [] First (lines_of_sheet d) tail a.due d refl (is_read d g) (subst (λ y. ReachesInSheet First y a.due) (sym (append-nil (map words_of a.lines)) ∙ w) a.read.leads))

  pub one_refusal : ((xs ys : List (List ℕ)) (a b : List ℕ) → All IsLine xs → All IsLine ys → flat_map with_feed xs ++ a ≡ flat_map with_feed ys ++ b
      → HasMore xs ys a b ⊎ HasMore ys xs b a)
      → (input : List ℕ) (done others : List Sheet) (number other : ℕ) (reason why : Reason)
      → IsRefusal input done number reason → IsRefusal input others other why → (done ≡ others) × (number ≡ other) × (reason ≡ why)
  one_refusal either input done others number other reason why r s =
      let a = place_of input done number reason r in
      let b = place_of input others other why s in
      let same : text_before done a.lines ++ a.rest ≡ text_before others b.lines ++ b.rest = sym a.read.text ∙ b.read.text in
      let text : flat_map with_feed (lines_read done a.lines) ++ a.rest ≡ flat_map with_feed (lines_read others b.lines) ++ b.rest =
      ap (λ z. z ++ a.rest) (sym (text_read done a.lines a.read.good)) ∙ same ∙ ap (λ z. z ++ b.rest) (text_read others b.lines b.read.good) in
      elim (either (lines_read done a.lines) (lines_read others b.lines) a.rest b.rest
      (are_lines done a.lines a.read.good a.read.each) (are_lines others b.lines b.read.good b.read.each) text) [
        | inl m ↦ (let t = not_ahead input others done other number why reason b a m.more m.lines m.text in (sym t.0, sym t.1, sym t.2))
        | inr m ↦ not_ahead input done others number other reason why a b m.more m.lines m.text
      ]

  pub refused_is_not_accepted : (input : List ℕ) (done : List Sheet) (number : ℕ) (reason : Reason) (es : List Sheet)
      → IsRefusal input done number reason → AreAcceptedSheets input es → ⊥
  refused_is_not_accepted input done number reason es refusal h = at t.others refl
    where
      a : IsPlace input done number reason
      a = place_of input done number reason refusal

      t : IsTail done es a.lines a.rest
      t = tail_of done es a.lines a.rest a.read.good h.good a.read.each (sym h.text ∙ a.read.text)

      nothing : Stands done a.lines a.rest a.due reason → t.others ≡ [] → ⊥
      nothing (AtLine line after parts plain fits answer) e =
          let none = both_none (map words_of a.lines) (map words_of t.more) (t.words ∙ ap (flat_map lines_of_sheet) e) in
          let empty : with_feed line ++ after ≡ [] = sym parts ∙ t.text ∙ ap (flat_map with_feed) (no_words t.more none.1) in
          let n = ap length empty in let m = length-append (with_feed line) after in let k = length-append line (10 ∷ []) in absurd (omega arith)
      nothing (AtStop stop more) e =
          let none = both_none (map words_of a.lines) (map words_of t.more) (t.words ∙ ap (flat_map lines_of_sheet) e) in
          more (record {
            some = λ x. h.some (t.all ∙ ap (λ y. done ++ y) e ∙ append-nil done ∙ x);
            between = no_words a.lines none.0;
            none = t.text ∙ ap (flat_map with_feed) (no_words t.more none.1);
          })

      room : (x : List ℕ) (xs : List (List ℕ)) → a.rest ≡ flat_map with_feed (x ∷ xs) → length x < room_after done a.lines
      room x xs is =
          let e = h.size in
          let f = ap length a.read.text in
          let g = length-append (text_before done a.lines) a.rest in
          let i = ap length is in
          let j = length-append (with_feed x) (flat_map with_feed xs) in
          let k = length-append x (10 ∷ []) in
          omega arith

      something : (d : Sheet) (ds : List Sheet) → t.others ≡ d ∷ ds → IsGoodSheet d → (more : List (List ℕ)) → t.more ≡ more → ⊥
      something d ds e good [] f =
          let words : map words_of a.lines ≡ lines_of_sheet d ++ flat_map lines_of_sheet ds = sym (append-nil (map words_of a.lines))
          ∙ ap (λ m. map words_of a.lines ++ map words_of m) (sym f) ∙ t.words ∙ ap (flat_map lines_of_sheet) e in
          leads_not_past [] First (lines_of_sheet d) (flat_map lines_of_sheet ds) a.due d refl (is_read d good) (subst (λ y. ReachesInSheet First y a.due) words a.read.leads)
      something d ds e good (x ∷ xs) f =
          let words : map words_of a.lines ++ map words_of (x ∷ xs) ≡ lines_of_sheet d ++ flat_map lines_of_sheet ds =
          ap (λ m. map words_of a.lines ++ map words_of m) (sym f) ∙ t.words ∙ ap (flat_map lines_of_sheet) e in
          let is : a.rest ≡ flat_map with_feed (x ∷ xs) = t.text ∙ ap (flat_map with_feed) f in
          not_taken done a.lines a.rest a.due reason x (flat_map with_feed xs) a.read.leads a.stands is (subst (All IsLine) f t.each 0 x (omega arith)) (room x xs is)
          (taken_in (map words_of a.lines) (words_of x) (map words_of xs) a.due d (flat_map lines_of_sheet ds) good a.read.leads words)

      at : (others : List Sheet) → t.others ≡ others → ⊥
      at [] e = nothing a.stands e
      at (d ∷ ds) e =
          let all = t.all ∙ ap (λ x. done ++ x) e in
          something d ds e (those_behind done (d ∷ ds) es IsGoodSheet all h.good 0 d (omega arith)) t.more refl
