-- the lines before a dossier are read in one way
use Rattle.std.proofs.Common.{◌≡◌, ◌≢◌, ◌<◌, ◌+◌, ◌++◌, ◌⊎◌, inl, inr, ⊎_elim, ℕ, suc, List, [], ◌∷◌, get_or, length, map, ap, subst, sym, refl, ◌∙◌, arith, length-append, append_assoc, append-nil}
use Rattle.std.specs.Prelude.{All, AllPairs}
use Rattle.std.specs.List.{flat_map}
use Rattle.std.specs.Fmt.{decimal}
use Rattle.std.proofs.lemmas.Fmt.{decimal_injective}
use Rattle.std.proofs.lemmas.List.{get_or_append_left, get_or_at, map-append}
use Rattle.std.proofs.lemmas.List.Concat.{flat_map-append}
use Rattle.std.proofs.lemmas.List.Elements.{All-head, All-map, All-tail}
use Rattle.crew_terms.specs.Words.{Words, IsLine, line_of, words_of, with_feed}
use Rattle.crew_terms.specs.declared.TheConstants.{LONGEST_INPUT}
use Rattle.dossier_terms.specs.declared.Reason.{Reason}
use Rattle.line_in.specs.declared.faults.LineFault.{LineFault}
use Rattle.line_in.specs.Faults.{reason_for}
use Rattle.text_laws.specs.Texts.{HasMore}
use Rattle.dossier_commands.specs.Input.{IsStop, text_of_lines}
use Rattle.late_lines.specs.declared.first_line.LateLine.{LateLine}
use Rattle.late_lines.specs.Lines.{AreLateLines, IsLateLine, IsLineFault, MayFollow, dossier_words, first_lines, late_text, late_words}
use Rattle.late_lines.specs.First.{BadLine, BeginsWith, IsFirstRefusal, NoLine, room_past}
use Rattle.late_lines.proofs.Faults.{dossier_is_no_fault, follows_is_no_fault, one_fault}
use Rattle.late_lines.proofs.Short.{dossier_is_line, late_is_line, words_of_dossier, words_of_late}
use Rattle.late_lines.proofs.Stops.{one_stop, same_line, whole_line}

-- how the lines before a dossier end: at a line that is refused, or at the line `dossier`
data Told : Type 0 where
  Refused : (number : ℕ) (reason : Reason) → Told
  Front : (lates : List LateLine) (rest : List ℕ) → Told

-- what stands behind these lines
data Stands (lates : List LateLine) (rest : List ℕ) (told : Told) : Type 0 where
  AtBad : (line after : List ℕ) (parts : rest ≡ with_feed line ++ after) (plain : IsLine line) (fits : length line < room_past (map late_text lates))
      (fault : LineFault) (how : IsLineFault lates (words_of line) fault) (is : told ≡ Refused (suc (length lates)) (reason_for fault)) → Stands lates rest told
  AtStop : (reason : Reason) (stop : IsStop (room_past (map late_text lates)) rest reason) (is : told ≡ Refused (suc (length lates)) reason) → Stands lates rest told
  AtDossier : (after : List ℕ) (parts : rest ≡ with_feed (line_of dossier_words) ++ after) (fits : length (line_of dossier_words) < room_past (map late_text lates))
      (is : told ≡ Front lates after) → Stands lates rest told

record IsPlace (input : List ℕ) (told : Told) : Type 0 where
  lates : List LateLine
  are : AreLateLines lates
  rest : List ℕ
  read : BeginsWith (map late_text lates) input rest
  stands : Stands lates rest told

place_of : (input : List ℕ) (number : ℕ) (reason : Reason) → IsFirstRefusal input number reason → IsPlace input (Refused number reason)
place_of input number reason (BadLine lates are line after read plain fits fault how is why) = record {
  lates = lates;
  are = are;
  rest = with_feed line ++ after;
  read = read;
  stands = AtBad line after refl plain fits fault how (ap (λ n. Refused n reason) is ∙ ap (λ r. Refused (suc (length lates)) r) why);
}
place_of input number reason (NoLine lates are rest read stop is) =
    record { lates = lates; are = are; rest = rest; read = read; stands = AtStop reason stop (ap (λ n. Refused n reason) is) }

place_of_front : (input rest : List ℕ) (lates : List LateLine) → AreLateLines lates → BeginsWith (first_lines lates) input rest → IsPlace input (Front lates rest)
place_of_front input rest lates are b =
    let lines = map late_text lates in
    let last = line_of dossier_words in
    let text : text_of_lines (first_lines lates) ≡ text_of_lines lines ++ with_feed last = flat_map-append with_feed lines (last ∷ []) ∙ ap (λ x. text_of_lines lines ++ x) (append-nil (with_feed last)) in
    let size = ap length text in
    let sum = length-append (text_of_lines lines) (with_feed last) in
    let feed = length-append last (10 ∷ []) in
    let within = b.within in
    record {
      lates = lates;
      are = are;
      rest = with_feed last ++ rest;
      read = record {
        text = b.text ∙ ap (λ x. x ++ rest) text ∙ append_assoc (text_of_lines lines) (with_feed last) rest;
        within = omega (arith, size, sum, within);
      };
      stands = AtDossier rest refl (omega (arith, size, sum, feed, within)) refl;
    }

-- the first of these lines, and one that follows them
first_are : (lates : List LateLine) (line : LateLine) (more : List LateLine) → AreLateLines (lates ++ line ∷ more) → MayFollow lates line
first_are lates line more are =
    let n = length-append lates (line ∷ more) in
    let below : length lates < length (lates ++ line ∷ more) = omega (arith, n) in
    record {
      few = let f = are.few in omega (arith, f, n);
      is = subst IsLateLine (get_or_at lates line more line (length lates) refl) (are.each (length lates) line below);
      new = λ k d l. subst (λ (x : LateLine). (get_or lates k d).name ≢ x.name) (get_or_at lates line more d (length lates) refl)
          (subst (λ (x : LateLine). x.name ≢ (get_or (lates ++ line ∷ more) (length lates) d).name) (get_or_append_left lates (line ∷ more) d k l) (are.differ k (length lates) d l below));
    }

both_same : {X : Type 0} (x y : X) (xs ys : List X) → x ∷ xs ≡ y ∷ ys → (x ≡ y) × (xs ≡ ys)
both_same x y xs ys e = (cc, cc)

lines_of_lates : (lates : List LateLine) → AreLateLines lates → All IsLine (map late_text lates)
lines_of_lates lates are = All-map IsLine late_text lates (λ k d l. late_is_line (get_or lates k d) (are.each k d l))

-- the laws of lines and their words
module _ (cut : (words : Words) → words ≢ [] → All (All (λ b. b ≢ 32)) words → words_of (line_of words) ≡ words)
    (either : (xs ys : List (List ℕ)) (a b : List ℕ) → All IsLine xs → All IsLine ys → flat_map with_feed xs ++ a ≡ flat_map with_feed ys ++ b → HasMore xs ys a b ⊎ HasMore ys xs b a) where
  -- a line tells one late task
  same_late : (l o : LateLine) → IsLateLine l → IsLateLine o → late_text l ≡ late_text o → l ≡ o
  same_late l o h k e =
      let words : late_words l ≡ late_words o = sym (words_of_late cut l h) ∙ ap words_of e ∙ words_of_late cut o k in
      let name : l.name ≡ o.name = ap (λ (ws : Words). get_or ws 1 []) words in
      let digits : decimal l.end ≡ decimal o.end = ap (λ (ws : Words). get_or ws 2 []) words in
      let low = h.end in
      let high = k.end in
      let end = decimal_injective l.end o.end (omega (arith, low)) (omega (arith, high)) digits in
      ap (λ (n : List ℕ). let r : LateLine = record { name = n; end = l.end } in r) name ∙ ap (λ (n : ℕ). let r : LateLine = record { name = o.name; end = n } in r) end

  -- lines that go on from others tell more late tasks
  more_late : (lates others : List LateLine) (more : List (List ℕ)) → All IsLateLine lates → All IsLateLine others → map late_text others ≡ map late_text lates ++ more
      → (rest : List LateLine) × (others ≡ lates ++ rest) × (more ≡ map late_text rest)
  more_late [] others more h k e = (others, refl, sym e)
  more_late (l ∷ lates) [] more h k e = absurd (cc)
  more_late (l ∷ lates) (o ∷ others) more h k e =
      let f = both_same (late_text o) (late_text l) (map late_text others) (map late_text lates ++ more) e in
      let same = same_late o l (All-head IsLateLine o others k) (All-head IsLateLine l lates h) f.0 in
      let r = more_late lates others more (All-tail IsLateLine l lates h) (All-tail IsLateLine o others k) f.1 in
      (r.0, ap (λ x. x ∷ others) same ∙ ap (λ xs. l ∷ xs) r.1, r.2)

  dossier_is_not_late : (line : LateLine) → IsLateLine line → line_of dossier_words ≡ late_text line → ⊥
  dossier_is_not_late line is e = let words : dossier_words ≡ late_words line = sym (words_of_dossier cut) ∙ ap words_of e ∙ words_of_late cut line is in absurd (cc)

  -- where a line of a late task may follow, nothing else stands
  not_late : (lates : List LateLine) (rest : List ℕ) (told : Told) (line : LateLine) (after : List ℕ) → Stands lates rest told → MayFollow lates line
      → length (late_text line) < room_past (map late_text lates) → rest ≡ with_feed (late_text line) ++ after → ⊥
  not_late lates rest told line after (AtBad bad behind parts plain room fault how is) may fits text =
      let same = same_line bad (late_text line) behind after plain.whole (late_is_line line may.is).whole (sym parts ∙ text) in
      follows_is_no_fault lates line (words_of bad) fault may (ap words_of same.0 ∙ words_of_late cut line may.is) how
  not_late lates rest told line after (AtStop reason stop is) may fits text =
      whole_line (room_past (map late_text lates)) rest reason (late_text line) after stop (late_is_line line may.is) fits text
  not_late lates rest told line after (AtDossier behind parts room is) may fits text =
      let same = same_line (line_of dossier_words) (late_text line) behind after dossier_is_line.whole (late_is_line line may.is).whole (sym parts ∙ text) in
      dossier_is_not_late line may.is same.0

  bad_is_not_dossier : (lates : List LateLine) (line after other : List ℕ) (fault : LineFault) → IsLine line → IsLineFault lates (words_of line) fault
      → with_feed line ++ after ≡ with_feed (line_of dossier_words) ++ other → ⊥
  bad_is_not_dossier lates line after other fault plain how e =
      let same = same_line line (line_of dossier_words) after other plain.whole dossier_is_line.whole e in
      dossier_is_no_fault lates (words_of line) fault (ap words_of same.0 ∙ words_of_dossier cut) how

  -- at one place one thing stands
  one_stand : (lates : List LateLine) (rest : List ℕ) (t u : Told) → Stands lates rest t → Stands lates rest u → t ≡ u
  one_stand lates rest t u (AtBad line after parts plain fits fault how is) (AtBad other behind those whole room cause what so) =
      let same = same_line line other after behind plain.whole whole.whole (sym parts ∙ those) in
      is ∙ ap (λ f. Refused (suc (length lates)) (reason_for f)) (one_fault lates (words_of other) fault cause (subst (λ x. IsLineFault lates (words_of x) fault) same.0 how) what) ∙ sym so
  one_stand lates rest t u (AtBad line after parts plain fits fault how is) (AtStop reason stop so) = absurd (whole_line (room_past (map late_text lates)) rest reason line after stop plain fits parts)
  one_stand lates rest t u (AtBad line after parts plain fits fault how is) (AtDossier behind those room so) = absurd (bad_is_not_dossier lates line after behind fault plain how (sym parts ∙ those))
  one_stand lates rest t u (AtStop reason stop is) (AtBad line after parts plain fits fault how so) = absurd (whole_line (room_past (map late_text lates)) rest reason line after stop plain fits parts)
  one_stand lates rest t u (AtStop reason stop is) (AtStop cause other so) =
      is ∙ ap (λ r. Refused (suc (length lates)) r) (one_stop (room_past (map late_text lates)) rest reason cause stop other) ∙ sym so
  one_stand lates rest t u (AtStop reason stop is) (AtDossier behind those room so) =
      absurd (whole_line (room_past (map late_text lates)) rest reason (line_of dossier_words) behind stop dossier_is_line room those)
  one_stand lates rest t u (AtDossier behind those room is) (AtBad line after parts plain fits fault how so) = absurd (bad_is_not_dossier lates line after behind fault plain how (sym parts ∙ those))
  one_stand lates rest t u (AtDossier behind those room is) (AtStop reason stop so) =
      absurd (whole_line (room_past (map late_text lates)) rest reason (line_of dossier_words) behind stop dossier_is_line room those)
  one_stand lates rest t u (AtDossier behind those room is) (AtDossier after parts fits so) =
      let same = same_line (line_of dossier_words) (line_of dossier_words) behind after dossier_is_line.whole dossier_is_line.whole (sym those ∙ parts) in
      is ∙ ap (λ x. Front lates x) same.1 ∙ sym so

  -- of two places the one that has read no less is the other
  not_ahead : (input : List ℕ) (t u : Told) (a : IsPlace input t) (b : IsPlace input u) (more : List LateLine) → b.lates ≡ a.lates ++ more
      → a.rest ≡ text_of_lines (map late_text more) ++ b.rest → t ≡ u
  not_ahead input t u a b [] e text =
      let lates : b.lates ≡ a.lates = e ∙ append-nil a.lates in
      one_stand a.lates a.rest t u a.stands (subst (λ x. Stands x a.rest u) lates (subst (λ y. Stands b.lates y u) (sym text) b.stands))
  not_ahead input t u a b (line ∷ more) e text =
      let lines = map late_text a.lates in
      let behind = text_of_lines (map late_text more) in
      let bytes : text_of_lines (map late_text b.lates) ≡ text_of_lines lines ++ (with_feed (late_text line) ++ behind) =
      ap (λ ls. text_of_lines (map late_text ls)) e ∙ ap text_of_lines (map-append late_text a.lates (line ∷ more)) ∙ flat_map-append with_feed lines (map late_text (line ∷ more)) in
      let size = ap length bytes in
      let first = length-append (text_of_lines lines) (with_feed (late_text line) ++ behind) in
      let second = length-append (with_feed (late_text line)) behind in
      let feed = length-append (late_text line) (10 ∷ []) in
      let within = b.read.within in
      absurd (not_late a.lates a.rest t line (behind ++ b.rest) a.stands (first_are a.lates line more (subst AreLateLines e b.are))
      (omega (arith, size, first, second, feed, within)) (text ∙ append_assoc (with_feed (late_text line)) behind b.rest))

  ahead : (input : List ℕ) (t u : Told) (a : IsPlace input t) (b : IsPlace input u) → HasMore (map late_text b.lates) (map late_text a.lates) b.rest a.rest → t ≡ u
  ahead input t u a b m =
      let r = more_late a.lates b.lates m.more a.are.each b.are.each m.lines in
      not_ahead input t u a b r.0 r.1 (m.text ∙ ap (λ ls. text_of_lines ls ++ b.rest) r.2)

  one_place : (input : List ℕ) (t u : Told) → IsPlace input t → IsPlace input u → t ≡ u
  one_place input t u a b =
      ⊎_elim (λ m. sym (ahead input u t b a m)) (λ m. ahead input t u a b m)
      (either (map late_text a.lates) (map late_text b.lates) a.rest b.rest (lines_of_lates a.lates a.are) (lines_of_lates b.lates b.are) (sym a.read.text ∙ b.read.text))

  pub front_once : (input rest other : List ℕ) (lates others : List LateLine) → AreLateLines lates → AreLateLines others
      → BeginsWith (first_lines lates) input rest → BeginsWith (first_lines others) input other → (lates ≡ others) × (rest ≡ other)
  front_once input rest other lates others are those a b =
      let e = one_place input (Front lates rest) (Front others other) (place_of_front input rest lates are a) (place_of_front input other others those b) in (cc, cc)

  pub no_front : (input rest : List ℕ) (lates : List LateLine) (number : ℕ) (reason : Reason) → IsFirstRefusal input number reason → AreLateLines lates
      → BeginsWith (first_lines lates) input rest → ⊥
  no_front input rest lates number reason refusal are b =
      let e = one_place input (Refused number reason) (Front lates rest) (place_of input number reason refusal) (place_of_front input rest lates are b) in cc

  pub refused_once : (input : List ℕ) (number other : ℕ) (reason cause : Reason) → IsFirstRefusal input number reason → IsFirstRefusal input other cause
      → (number ≡ other) × (reason ≡ cause)
  refused_once input number other reason cause a b =
      let e = one_place input (Refused number reason) (Refused other cause) (place_of input number reason a) (place_of input other cause b) in (cc, cc)
