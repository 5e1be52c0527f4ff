-- one line of an input is refused
use Rattle.std.proofs.Common.{◌≡◌, ◌≢◌, ◌≤◌, ◌<◌, ◌+◌, ◌++◌, ◌⊎◌, inl, inr, ⊎_elim, ℕ, suc, List, [], ◌∷◌, get_or, length, map, ap, subst, sym, refl, ◌∙◌, arith, length-append, append_assoc, append-nil}
use Rattle.std.specs.Prelude.{All}
use Rattle.std.specs.List.{flat_map}
use Rattle.std.proofs.lemmas.Bool.{cases_order}
use Rattle.std.proofs.lemmas.List.{append_cancel_left, get_or_append_left, get_or_at, map-append}
use Rattle.std.proofs.lemmas.List.Concat.{flat_map-append}
use Rattle.std.proofs.lemmas.List.Elements.{All-map, All-push}
use Rattle.crew_terms.specs.Instance.{Instance}
use Rattle.crew_terms.specs.Plan.{Plan}
use Rattle.crew_terms.specs.Words.{Words, IsLine, line_of, words_of, with_feed}
use Rattle.crew_terms.specs.declared.TheConstants.{LONGEST_INPUT}
use Rattle.dossier_terms.specs.declared.Reason.{Reason}
use Rattle.dossier_terms.specs.Dossier.{Dossier, IsGood}
use Rattle.dossier_terms.specs.Lines.{lines_of, text_of}
use Rattle.dossier_terms.specs.Reading.{Reading, Form, No as Refuses}
use Rattle.dossier_terms.specs.Table.{Says, Reaches}
use Rattle.text_laws.specs.Texts.{AreLine, HasMore}
use Rattle.dossier_commands.specs.Input.{BadLine, Front, HasRead, IsRefusal, IsStop, NoLine, room_after, text_before, text_of_lines}
use Rattle.late_lines.specs.declared.first_line.LateLine.{LateLine}
use Rattle.delay_command.specs.Tasks.{IsDone, IsFirstUndone}

-- the first lines of some that lead on lead on
leads_so_far : (s : Reading) (xs ys : List Words) (t : Reading) → Reaches s (xs ++ ys) t → (u : Reading) × Reaches s xs u
leads_so_far s [] ys t r = (s, refl)
leads_so_far s (x ∷ xs) ys t r = let u = leads_so_far r.0 xs ys t r.2 in (u.0, (r.0, r.1, u.1))

-- where one line more goes past others, the lines before it go as far
but_the_last : {X : Type 0} (xs : List X) (x : X) (ys : List X) (y : X) (more : List X) → xs ++ x ∷ [] ≡ ys ++ y ∷ more → (rest : List X) × (xs ≡ ys ++ rest)
but_the_last xs x [] y more e = (xs, refl)
but_the_last [] x (z ∷ ys) y more e = absurd (let n = ap length e in let m = length-append ys (y ∷ more) in omega (arith, n, m))
but_the_last (w ∷ xs) x (z ∷ ys) y more e =
    let f : w ≡ z = cc in
    let r = but_the_last xs x ys y more (cc) in
    (r.0, ap (λ v. v ∷ xs) f ∙ ap (λ l. z ∷ l) r.1)

-- the laws of texts, and of the table of lines
module _
    (cut : (words : Words) → words ≢ [] → All (All (λ b. b ≢ 32)) words → words_of (line_of words) ≡ words)
    (either : (xs ys : List (List ℕ)) (a b : List ℕ) → All IsLine xs → All IsLine ys → flat_map with_feed xs ++ a ≡ flat_map with_feed ys ++ b → HasMore xs ys a b ⊎ HasMore ys xs b a)
    (good_lines : (d : Dossier) → IsGood d → All AreLine (lines_of d))
    (text : (d : Dossier) (lines : List (List ℕ)) → lines_of d ≡ map words_of lines → text_of d ≡ flat_map with_feed lines)
    (refused : (lines more : List Words) (s : Reading) (ws : Words) (reason : Reason) (d : Dossier) → Reaches Form lines s → Says s ws (Refuses reason) → IsGood d → lines_of d ≡ lines ++ ws ∷ more → ⊥)
    (unended : (lines : List Words) (s : Reading) (d : Dossier) → Reaches Form lines s → IsGood d → lines_of d ≡ lines → ⊥)
    (first : (d e : Dossier) (more : List Words) → IsGood d → IsGood e → lines_of e ≡ lines_of d ++ more → (more ≡ []) × (d ≡ e))
    (no_stop : (room : ℕ) (rest line after : List ℕ) (reason : Reason) → IsStop room rest reason → IsLine line → length line < room → rest ≡ with_feed line ++ after → ⊥) where
  cut_all : (ls : List Words) → All AreLine ls → map words_of (map line_of ls) ≡ ls
  cut_all [] h = refl
  cut_all (ws ∷ ls) h =
      let w = h 0 ws (omega arith) in
      ap (λ x. x ∷ map words_of (map line_of ls)) (cut ws w.some (λ k x l. (w.each k x l).no_space)) ∙ ap (λ x. ws ∷ x) (cut_all ls (λ k x l. h (suc k) x (omega arith)))

  -- the lines of a good dossier
  module _ (d : Dossier) (good : IsGood d) where
    own_words : lines_of d ≡ map words_of (map line_of (lines_of d))
    own_words = sym (cut_all (lines_of d) (good_lines d good))

    own_lines : All IsLine (map line_of (lines_of d))
    own_lines = All-map IsLine line_of (lines_of d) (λ k x l. (good_lines d good k x l).line)

    own_text : text_of d ≡ flat_map with_feed (map line_of (lines_of d))
    own_text = text d (map line_of (lines_of d)) own_words

    -- lines that lead on do not go past the dossier's end
    not_past : (lines more : List (List ℕ)) (due : Reading) → Reaches Form (map words_of lines) due → lines ≡ map line_of (lines_of d) ++ more → ⊥
    not_past lines more due leads e =
        let ys = map line_of (lines_of d) in
        let words : map words_of lines ≡ map words_of ys ++ map words_of more = ap (map words_of) e ∙ map-append words_of ys more in
        let u = leads_so_far Form (map words_of ys) (map words_of more) due (subst (λ ws. Reaches Form ws due) words leads) in
        unended (map words_of ys) u.0 d u.1 good own_words

    -- what is read of the dossier's text is not refused
    pub not_refused : (front : Front) (input more : List ℕ) (number : ℕ) (reason : Reason) → input ≡ front.text ++ (text_of d ++ more) → length (front.text ++ text_of d) ≤ LONGEST_INPUT
        → IsRefusal front input [] number reason → ⊥
    not_refused front input more number reason is within (BadLine lines line after due read plain fits answer at) =
        let ys = map line_of (lines_of d) in
        let bytes : text_of_lines lines ++ (with_feed line ++ after) ≡ text_of d ++ more =
        append_cancel_left front.text (text_of_lines lines ++ (with_feed line ++ after)) (text_of d ++ more) (sym (append_assoc front.text (text_of_lines lines) (with_feed line ++ after)) ∙ sym read.text ∙ is) in
        let both : flat_map with_feed (lines ++ line ∷ []) ++ after ≡ flat_map with_feed ys ++ more =
        ap (λ x. x ++ after) (flat_map-append with_feed lines (line ∷ []) ∙ ap (λ x. text_of_lines lines ++ x) (append-nil (with_feed line))) ∙ append_assoc (text_of_lines lines) (with_feed line) after
        ∙ bytes ∙ ap (λ x. x ++ more) own_text in
        ⊎_elim (λ m. past m.more m.lines) (λ m. bad m.more m.lines)
        (either (lines ++ line ∷ []) ys after more (All-push IsLine lines line read.each plain) own_lines both)
      where
        bad : (rest : List (List ℕ)) → map line_of (lines_of d) ≡ (lines ++ line ∷ []) ++ rest → ⊥
        bad rest e = refused (map words_of lines) (map words_of rest) due (words_of line) reason d read.leads answer good
            (own_words ∙ ap (map words_of) (e ∙ append_assoc lines (line ∷ []) rest) ∙ map-append words_of lines (line ∷ rest))

        past : (rest : List (List ℕ)) → lines ++ line ∷ [] ≡ map line_of (lines_of d) ++ rest → ⊥
        past [] e = bad [] (sym (append-nil (map line_of (lines_of d))) ∙ sym e ∙ sym (append-nil (lines ++ line ∷ [])))
        past (r ∷ rest) e = let m = but_the_last lines line (map line_of (lines_of d)) r rest e in not_past lines m.0 due read.leads m.1
    not_refused front input more number reason is within (NoLine lines rest due read stop no_end at) =
        let ys = map line_of (lines_of d) in
        let bytes : text_of_lines lines ++ rest ≡ text_of d ++ more =
        append_cancel_left front.text (text_of_lines lines ++ rest) (text_of d ++ more) (sym (append_assoc front.text (text_of_lines lines) rest) ∙ sym read.text ∙ is) in
        ⊎_elim (λ m. not_past lines m.more due read.leads m.lines) (λ m. short m.more m.lines m.text)
        (either lines ys rest more read.each own_lines (bytes ∙ ap (λ x. x ++ more) own_text))
      where
        short : (behind : List (List ℕ)) → map line_of (lines_of d) ≡ lines ++ behind → rest ≡ flat_map with_feed behind ++ more → ⊥
        short [] e f = not_past lines [] due read.leads (sym (append-nil lines) ∙ sym e ∙ sym (append-nil (map line_of (lines_of d))))
        short (line ∷ behind) e f =
            let all : All IsLine (lines ++ line ∷ behind) = subst (All IsLine) e own_lines in
            let below : length lines < length (lines ++ line ∷ behind) = (let n = length-append lines (line ∷ behind) in omega (arith, n)) in
            let plain = subst IsLine (get_or_at lines line behind line (length lines) refl) (all (length lines) line below) in
            let size = ap length (own_text ∙ ap (flat_map with_feed) e ∙ flat_map-append with_feed lines (line ∷ behind)) in
            let first = length-append (text_of_lines lines) (with_feed line ++ flat_map with_feed behind) in
            let second = length-append (with_feed line) (flat_map with_feed behind) in
            let feed = length-append line (10 ∷ []) in
            let whole = length-append front.text (text_of d) in
            let begun = length-append front.text (text_of_lines lines) in
            no_stop (room_after front [] lines) rest line (flat_map with_feed behind ++ more) reason stop plain (omega (arith, size, first, second, feed, whole, begun, within))
            (f ∙ append_assoc (with_feed line) (flat_map with_feed behind) more)

  -- texts that begin with those of two dossiers begin with one
  pub same_first : (d e : Dossier) (a b : List ℕ) → IsGood d → IsGood e → text_of d ++ a ≡ text_of e ++ b → d ≡ e
  same_first d e a b gd ge is =
      ⊎_elim (λ m. sym (first e d (map words_of m.more) ge gd (goes_on d e gd ge m.more m.lines)).1) (λ m. (first d e (map words_of m.more) gd ge (goes_on e d ge gd m.more m.lines)).1)
      (either (map line_of (lines_of d)) (map line_of (lines_of e)) a b (own_lines d gd) (own_lines e ge) (ap (λ x. x ++ a) (sym (own_text d gd)) ∙ is ∙ ap (λ x. x ++ b) (own_text e ge)))
    where
      goes_on : (d e : Dossier) → IsGood d → IsGood e → (more : List (List ℕ)) → map line_of (lines_of d) ≡ map line_of (lines_of e) ++ more → lines_of d ≡ lines_of e ++ map words_of more
      goes_on d e gd ge more f = own_words d gd ∙ ap (map words_of) f ∙ map-append words_of (map line_of (lines_of e)) more ∙ ap (λ x. x ++ map words_of more) (sym (own_words e ge))

-- one line is the first whose task is not done
pub one_undone : (i : Instance) (p : Plan) (lines : List LateLine) (number other : ℕ) (reason second : Reason) → IsFirstUndone i p lines number reason → IsFirstUndone i p lines other second
    → (number ≡ other) × (reason ≡ second)
one_undone i p lines number other reason second a b = elim (cases_order (length a.before) (length b.before)) [
  | inl e ↦ (a.is ∙ ap suc e ∙ sym b.is, a.why ∙ sym b.why)
  | inr o ↦ elim o [
    | inl l ↦ absurd (a.undone (done_at a.before a.line a.after b.before b.line b.after (sym a.parts ∙ b.parts) b.done l))
    | inr l ↦ absurd (b.undone (done_at b.before b.line b.after a.before a.line a.after (sym b.parts ∙ a.parts) a.done l))
  ]
]
  where
    done_at : (before : List LateLine) (line : LateLine) (after long : List LateLine) (other : LateLine) (rest : List LateLine) → before ++ line ∷ after ≡ long ++ other ∷ rest
        → All (IsDone i p) long → length before < length long → IsDone i p line
    done_at before line after long other rest e done l =
        subst (IsDone i p) (sym (get_or_append_left long (other ∷ rest) line (length before) l) ∙ ap (λ (xs : List LateLine). get_or xs (length before) line) (sym e) ∙ get_or_at before line after line (length before) refl)
        (done (length before) line l)
