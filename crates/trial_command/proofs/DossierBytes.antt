-- what is found of the bytes of a dossier
use Rattle.std.proofs.Common.{◌≡◌, ◌≢◌, ◌≤◌, ◌<◌, ◌+◌, ◌++◌, ℕ, suc, get_or, List, [], ◌∷◌, length, map, ap, subst, sym, refl, ◌∙◌, arith, length-append, append_assoc, append-nil}
use Rattle.std.specs.Prelude.{All}
use Rattle.std.specs.List.{flat_map}
use Rattle.std.proofs.lemmas.List.{get_or-append-add, map-append}
use Rattle.std.proofs.lemmas.List.Concat.{flat_map-append}
use Rattle.std.proofs.lemmas.List.Elements.{All-nil, All-push, All-append, All-map}
use Rattle.crew_terms.specs.Words.{Words, IsLine, words_of, line_of, with_feed}
use Rattle.crew_terms.specs.declared.TheConstants.{LONGEST_LINE}
use Rattle.crew_io.specs.Lines.{NoFeed}
use Rattle.dossier_terms.specs.declared.Reason.{Reason}
use Rattle.dossier_terms.specs.Dossier.{Dossier, IsGood}
use Rattle.dossier_terms.specs.Lines.{lines_of, text_of}
use Rattle.dossier_terms.specs.Reading.{Reading, Answer, Form, More as Goes, Whole as Ends, No as Refuses}
use Rattle.dossier_terms.specs.Table.{Says, Reaches, Ended}
use Rattle.dossier_laws.specs.Law.{IsRead, IsWhole}
use Rattle.text_laws.specs.Texts.{AreLine, IsFront}
use Rattle.cert_checker.specs.Checked.{Checked, IsJudged, StandsAfter, said_of, verdict_of}
use Rattle.cert_checker.specs.declared.checker.Said.{Said}
use Rattle.cert_checker.specs.declared.checker.Verdict.{Verdict}
use Rattle.trial_command.specs.Findings.{AreDossier, AreLines, BeginNone, Holds, finding_of}
use Rattle.trial_command.specs.declared.feed.Finding.{Finding}
use Rattle.trial_command.specs.declared.feed.Finding.TheVariants.{Lines, Whole, Refused}

-- ---- lists of bytes

-- one line more
text_more : (lines : List (List ℕ)) (line : List ℕ) → flat_map with_feed (lines ++ line ∷ []) ≡ flat_map with_feed lines ++ with_feed line
text_more lines line = flat_map-append with_feed lines (line ∷ []) ∙ ap (λ x. flat_map with_feed lines ++ x) (append-nil (with_feed line))

words_more : (lines : List (List ℕ)) (line : List ℕ) → map words_of (lines ++ line ∷ []) ≡ map words_of lines ++ words_of line ∷ []
words_more lines line = map-append words_of lines (line ∷ [])

-- lines and the front of one more, with its LF
line_ended : (bytes front : List ℕ) (lines : List (List ℕ)) → bytes ≡ flat_map with_feed lines ++ front → bytes ++ 10 ∷ [] ≡ flat_map with_feed (lines ++ front ∷ [])
line_ended bytes front lines is = ap (λ x. x ++ 10 ∷ []) is ∙ append_assoc (flat_map with_feed lines) front (10 ∷ []) ∙ sym (text_more lines front)

-- an LF stands behind a line
feed_in : (line rest xs : List ℕ) → NoFeed xs → xs ≡ with_feed line ++ rest → ⊥
feed_in [] rest xs plain is = plain 0 0 (let n = ap length is in omega arith) (subst (λ (ys : List ℕ). get_or ys 0 0 ≡ 10) (sym is) refl)
feed_in (c ∷ line) rest [] plain is = absurd (let n = ap length is in omega arith)
feed_in (c ∷ line) rest (x ∷ xs) plain is = feed_in line rest xs (λ k d below. plain (suc k) d (omega arith)) (cc)

-- no lines are bytes without an LF
no_lines : (lines : List (List ℕ)) (xs : List ℕ) → NoFeed xs → xs ≡ flat_map with_feed lines → lines ≡ []
no_lines [] xs plain is = refl
no_lines (line ∷ lines) xs plain is = absurd (feed_in line (flat_map with_feed lines) xs plain is)

-- more bytes without an LF than a line may have do not begin a line
feed_at : (line rest xs more : List ℕ) → NoFeed xs → length line < length xs → with_feed line ++ rest ≡ xs ++ more → ⊥
feed_at line rest [] more plain long is = absurd (omega arith)
feed_at [] rest (x ∷ xs) more plain long is = plain 0 0 (omega arith) (cc)
feed_at (c ∷ line) rest (x ∷ xs) more plain long is = feed_at line rest xs more (λ k d below. plain (suc k) d (omega arith)) (omega arith) (cc)

too_long : (lines : List (List ℕ)) (xs more : List ℕ) → All IsLine lines → NoFeed xs → LONGEST_LINE < length xs → xs ++ more ≡ flat_map with_feed lines → ⊥
too_long [] xs more each plain long is = absurd (let n = ap length is in let m = length-append xs more in omega arith)
too_long (line ∷ lines) xs more each plain long is =
    let short = (each 0 line (omega arith)).short in
    feed_at line (flat_map with_feed lines) xs more plain (omega arith) (sym is)

-- what holds of all holds of those behind the first ones
pub all_behind : {X : Type 0} (P : X → Type 0) (xs ys : List X) → All P (xs ++ ys) → All P ys
all_behind P xs ys h = λ k x l.
    let a : length xs + k < length (xs ++ ys) = (let n = length-append xs ys in omega arith) in
    subst P (get_or-append-add xs ys k x) (h (length xs + k) x a)

-- ---- a line is judged behind lines of a dossier

module _
    (goes_on : (s : Reading) (lines : List Words) (m : Reading) (ws : Words) (next : Reading) → Reaches s lines m → Says m ws (Goes next) → Reaches s (lines ++ ws ∷ []) next)
    (ends : (s : Reading) (lines : List Words) (m : Reading) (ws : Words) (d : Dossier) → Reaches s lines m → Says m ws (Ends d) → Ended s (lines ++ ws ∷ []) d)
    (read_is_good : (lines : List Words) (d : Dossier) → IsRead lines d → IsWhole lines d)
    (refused : (lines more : List Words) (s : Reading) (ws : Words) (reason : Reason) (d : Dossier) → Reaches Form lines s → Says s ws (Refuses reason) → IsGood d → lines_of d ≡ lines ++ ws ∷ more → ⊥)
    (texts : (d : Dossier) (lines : List (List ℕ)) → lines_of d ≡ map words_of lines → text_of d ≡ flat_map with_feed lines)
    (front_is_read : (d : Dossier) (lines : List (List ℕ)) (rest : List ℕ) → IsGood d → All IsLine lines → text_of d ≡ flat_map with_feed lines ++ rest → IsFront (lines_of d) lines rest)
    (bytes front : List ℕ) (old new : Checked) (are : AreLines bytes front old) where
  abbrev lines : List (List ℕ)
  lines = are.lines ++ front ∷ []

  each : All IsLine lines
  each = All-push IsLine are.lines front are.each are.begun

  by_answer : (number : ℕ) (answer : Answer) → Says are.due (words_of front) answer → StandsAfter number answer new.at → Holds (finding_of (said_of number answer)) (bytes ++ 10 ∷ []) [] new
  by_answer number (Goes next) is stands = record {
    lines = lines;
    due = next;
    text = line_ended bytes front are.lines are.text ∙ sym (append-nil (flat_map with_feed lines));
    each = each;
    begun = record { short = omega arith; whole = All-nil _ };
    leads = subst (λ ws. Reaches Form ws next) (sym (words_more are.lines front)) (goes_on Form (map words_of are.lines) are.due (words_of front) next are.leads is);
    stands = stands;
  }
  by_answer number (Ends d) is stands =
      let whole = read_is_good (map words_of are.lines ++ words_of front ∷ []) d (ends Form (map words_of are.lines) are.due (words_of front) d are.leads is) in
      record {
        dossier = d;
        good = whole.good;
        text = line_ended bytes front are.lines are.text ∙ sym (texts d lines (sym whole.spelled ∙ sym (words_more are.lines front)));
        says = refl;
      }
  by_answer number (Refuses reason) is stands = λ d more good begins.
      let f = front_is_read d lines more good each (begins ∙ ap (λ x. x ++ more) (line_ended bytes front are.lines are.text)) in
      let later = map words_of f.more in
      refused (map words_of are.lines) later are.due (words_of front) reason d are.leads is good
      (f.words ∙ ap (λ x. x ++ later) (words_more are.lines front) ∙ append_assoc (map words_of are.lines) (words_of front ∷ []) later)

  pub line_is_judged : (said : Said) → IsJudged old.lines are.due (words_of front) said new → Holds (finding_of said) (bytes ++ 10 ∷ []) [] new
  line_is_judged said j = subst (λ x. Holds (finding_of x) (bytes ++ 10 ∷ []) [] new) (sym j.says) (by_answer (old.lines + 1) j.answer j.is j.stands)

-- ---- more bytes without an LF

pub front_grows : (bytes front : List ℕ) (checker : Checked) (more : List ℕ) → AreLines bytes front checker → NoFeed more → length front + length more ≤ LONGEST_LINE → AreLines (bytes ++ more) (front ++ more) checker
front_grows bytes front checker more are plain fits = record {
  lines = are.lines;
  due = are.due;
  text = ap (λ x. x ++ more) are.text ∙ append_assoc (flat_map with_feed are.lines) front more;
  each = are.each;
  begun = record { short = (let n = length-append front more in omega arith); whole = All-append (λ b. b ≢ 10) front more are.begun.whole plain };
  leads = are.leads;
  stands = are.stands;
}

module _
    (good_lines : (d : Dossier) → IsGood d → All AreLine (lines_of d))
    (front_is_read : (d : Dossier) (lines : List (List ℕ)) (rest : List ℕ) → IsGood d → All IsLine lines → text_of d ≡ flat_map with_feed lines ++ rest → IsFront (lines_of d) lines rest) where
  pub long_begins_none : (bytes front : List ℕ) (checker : Checked) (more : List ℕ) → AreLines bytes front checker → NoFeed more → LONGEST_LINE < length front + length more → BeginNone (bytes ++ more)
  long_begins_none bytes front checker more are plain long = λ d later good begins.
      let lines = flat_map with_feed are.lines in
      let text : text_of d ≡ lines ++ ((front ++ more) ++ later) =
      begins ∙ ap (λ x. x ++ later) (ap (λ x. x ++ more) are.text ∙ append_assoc lines front more) ∙ append_assoc lines (front ++ more) later in
      let f = front_is_read d are.lines ((front ++ more) ++ later) good are.each text in
      let each : All IsLine (map line_of (lines_of d)) = All-map IsLine line_of (lines_of d) (λ k x l. (good_lines d good k x l).line) in
      too_long f.more (front ++ more) later (all_behind IsLine are.lines f.more (subst (All IsLine) f.spelled each)) (All-append (λ b. b ≢ 10) front more are.begun.whole plain)
      (let n = length-append front more in omega arith) f.text

-- ---- good dossiers

module _ (one_text : (d e : Dossier) (more : List ℕ) → IsGood d → IsGood e → text_of e ≡ text_of d ++ more → (more ≡ []) × (d ≡ e)) where
  pub behind_whole : (bytes : List ℕ) (verdict : Verdict) (more : List ℕ) → AreDossier bytes verdict → 0 < length more → BeginNone (bytes ++ more)
  behind_whole bytes verdict more are some = λ d later good begins.
      let one = one_text are.dossier d (more ++ later) are.good good (begins ∙ append_assoc bytes more later ∙ ap (λ x. x ++ (more ++ later)) are.text) in
      absurd (let n = ap length one.0 in let m = length-append more later in omega arith)

  -- the dossier is the one that was found
  same_whole : (bytes : List ℕ) (verdict : Verdict) (d : Dossier) → AreDossier bytes verdict → IsGood d → bytes ≡ text_of d → Whole verdict ≡ Whole (verdict_of d)
  same_whole bytes verdict d are good is =
      let one = one_text are.dossier d [] are.good good (sym is ∙ are.text ∙ sym (append-nil (text_of are.dossier))) in
      ap Whole (are.says ∙ ap verdict_of one.1)

  module _
      (front_is_read : (d : Dossier) (lines : List (List ℕ)) (rest : List ℕ) → IsGood d → All IsLine lines → text_of d ≡ flat_map with_feed lines ++ rest → IsFront (lines_of d) lines rest)
      (unended : (lines : List Words) (s : Reading) (d : Dossier) → Reaches Form lines s → IsGood d → lines_of d ≡ lines → ⊥) where
    lines_are_not_whole : (bytes front : List ℕ) (checker : Checked) (d : Dossier) → AreLines bytes front checker → IsGood d → bytes ≡ text_of d → ⊥
    lines_are_not_whole bytes front checker d are good is =
        let f = front_is_read d are.lines front good are.each (sym is ∙ are.text) in
        let none : map words_of f.more ≡ [] = ap (map words_of) (no_lines f.more front are.begun.whole f.text) in
        unended (map words_of are.lines) are.due d are.leads good (f.words ∙ ap (λ x. map words_of are.lines ++ x) none ∙ append-nil (map words_of are.lines))

    pub good_is_found : (finding : Finding) (bytes front : List ℕ) (checker : Checked) (d : Dossier) → Holds finding bytes front checker → IsGood d → bytes ≡ text_of d → finding ≡ Whole (verdict_of d)
    good_is_found Lines bytes front checker d holds good is = absurd (lines_are_not_whole bytes front checker d holds good is)
    good_is_found (Whole verdict) bytes front checker d holds good is = same_whole bytes verdict d holds good is
    good_is_found Refused bytes front checker d holds good is = absurd (holds d [] good (sym is ∙ sym (append-nil bytes)))

pub still_none : (bytes more : List ℕ) → BeginNone bytes → BeginNone (bytes ++ more)
still_none bytes more none = λ d later good begins. none d (more ++ later) good (begins ∙ append_assoc bytes more later)
