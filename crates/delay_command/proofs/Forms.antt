-- inputs of the form, and inputs of which a line is refused
use Rattle.std.proofs.Common.{◌≡◌, ◌≢◌, ◌≤◌, ◌<◌, ◌+◌, ◌++◌, ℕ, List, [], ◌∷◌, length, map, ap, subst, sym, refl, ◌∙◌, arith, length-append, append_assoc, append-nil}
use Rattle.std.specs.Prelude.{All}
use Rattle.std.specs.List.{flat_map}
use Rattle.std.proofs.lemmas.List.{append_cancel_left, get_or_at}
use Rattle.crew_terms.specs.Instance.{Instance}
use Rattle.crew_terms.specs.Legal.{IsLegal}
use Rattle.crew_terms.specs.Plan.{Plan}
use Rattle.crew_terms.specs.Words.{with_feed}
use Rattle.delay_print.specs.Texts.{delays_text}
use Rattle.delay_wave.specs.Waits.{AreWaits}
use Rattle.delay_wave.specs.declared.lates.Late.{Late}
use Rattle.delay_wave.specs.declared.waits.Wait.{Wait}
use Rattle.std.specs.Prelude.{Option}
use Rattle.dossier_terms.specs.declared.Reason.{Reason}
use Rattle.dossier_terms.specs.Dossier.{Dossier, IsGood}
use Rattle.dossier_terms.specs.Lines.{text_of}
use Rattle.dossier_terms.specs.Reading.{Reading}
use Rattle.dossier_commands.specs.Input.{BadLine, Front, HasRead, IsAcceptedBehind, IsRefusal, NoLine, text_before, text_of_lines}
use Rattle.late_lines.specs.declared.first_line.LateLine.{LateLine}
use Rattle.late_lines.specs.Lines.{AreLateLines, first_lines}
use Rattle.late_lines.specs.First.{BeginsWith, IsFirstRefusal}
use Rattle.delay_command.specs.Alone.{AfterDossier, InDossier, IsRefusedBehind}
use Rattle.delay_command.specs.Delays.{BeforeDossier, FromDossier, IsDelays, IsDelaysRefusal, IsDelaysText, NotDone, late_front}
use Rattle.delay_command.specs.Tasks.{IsDone, IsFirstUndone, lates_in}

-- what is accepted behind late lines begins with them
pub begins_accepted : (input : List ℕ) (lines : List LateLine) (done : List Dossier) → (a : IsAcceptedBehind (late_front lines) input done) → BeginsWith (first_lines lines) input a.behind
begins_accepted input lines done a = record {
  text = a.text;
  within = let w = a.within in let e = ap length a.text in let n = length-append (text_of_lines (first_lines lines)) a.behind in omega (arith, w, e, n);
}

-- so does what was read behind them
pub begins_read : (input : List ℕ) (lines : List LateLine) (done : List Dossier) (more : List (List ℕ)) (rest : List ℕ) (due : Reading) → HasRead (late_front lines) input done more rest due
    → BeginsWith (first_lines lines) input ((flat_map text_of done ++ text_of_lines more) ++ rest)
begins_read input lines done more rest due read =
    let front = text_of_lines (first_lines lines) in
    let behind = flat_map text_of done ++ text_of_lines more in
    record {
      text = read.text ∙ append_assoc front behind rest;
      within = let w = read.within in let n = length-append front behind in omega (arith, w, n);
    }

-- a refused input begins with the front
pub record IsBegun (input : List ℕ) (lines : List LateLine) : Type 0 where
  pub rest : List ℕ
  pub begins : BeginsWith (first_lines lines) input rest

pub begins_refused : (input : List ℕ) (lines : List LateLine) (number : ℕ) (reason : Reason) → IsRefusal (late_front lines) input [] number reason → IsBegun input lines
begins_refused input lines number reason (BadLine more line after due read plain fits answer is) = record {
  rest = (flat_map text_of [] ++ text_of_lines more) ++ (with_feed line ++ after);
  begins = begins_read input lines [] more (with_feed line ++ after) due read;
}
begins_refused input lines number reason (NoLine more rest due read stop no_end is) = record {
  rest = (flat_map text_of [] ++ text_of_lines more) ++ rest;
  begins = begins_read input lines [] more rest due read;
}

pub begins_behind : (input : List ℕ) (lines : List LateLine) (number : ℕ) (reason : Reason) → IsRefusedBehind (late_front lines) input number reason → IsBegun input lines
begins_behind input lines number reason (InDossier refusal) = begins_refused input lines number reason refusal
begins_behind input lines number reason (AfterDossier d more read some is why) =
    record { rest = (flat_map text_of (d ∷ []) ++ text_of_lines []) ++ more; begins = begins_read input lines (d ∷ []) [] more _ read }

-- a task that all lines' tasks are done with is no first one that is not
not_undone : (i : Instance) (p : Plan) (lines : List LateLine) (number : ℕ) (reason : Reason) → All (IsDone i p) lines → IsFirstUndone i p lines number reason → ⊥
not_undone i p lines number reason done u =
    let at : All (IsDone i p) (u.before ++ u.line ∷ u.after) = subst (All (IsDone i p)) u.parts done in
    let below : length u.before < length (u.before ++ u.line ∷ u.after) = (let n = length-append u.before (u.line ∷ u.after) in omega (arith, n)) in
    u.undone (subst (IsDone i p) (get_or_at u.before u.line u.after u.line (length u.before) refl) (at (length u.before) u.line below))

module _
    (one_front : (input rest other : List ℕ) (lates others : List LateLine) → AreLateLines lates → AreLateLines others → BeginsWith (first_lines lates) input rest
    → BeginsWith (first_lines others) input other → (lates ≡ others) × (rest ≡ other))
    (one_text : (d e : Dossier) (more : List ℕ) → IsGood d → IsGood e → text_of e ≡ text_of d ++ more → (more ≡ []) × (d ≡ e)) where
  first_good : (d : Dossier) → All IsGood (d ∷ []) → IsGood d
  first_good d good = good 0 d (omega arith)

  -- one dossier behind one front
  pub same_form : (input : List ℕ) (lines others : List LateLine) (d e : Dossier) → AreLateLines lines → AreLateLines others → IsAcceptedBehind (late_front lines) input (d ∷ [])
      → IsAcceptedBehind (late_front others) input (e ∷ []) → (lines ≡ others) × (d ≡ e)
  same_form input lines others d e are those a b =
      let same = one_front input a.behind b.behind lines others are those (begins_accepted input lines (d ∷ []) a) (begins_accepted input others (e ∷ []) b) in
      let text : text_of e ≡ text_of d ++ [] = sym (append-nil (text_of e)) ∙ sym b.accepted.text ∙ sym same.1 ∙ a.accepted.text in
      (same.0, (one_text d e [] (first_good d a.accepted.good) (first_good e b.accepted.good) text).1)

  pub form_once : (input : List ℕ) (lines others : List LateLine) (d e : Dossier) → IsDelays input lines d → IsDelays input others e → (lines ≡ others) × (d ≡ e)
  form_once input lines others d e a b = same_form input lines others d e a.are b.are a.accepted b.accepted

  module _
      (refused_is_no_front : (input rest : List ℕ) (lates : List LateLine) (number : ℕ) (reason : Reason) → IsFirstRefusal input number reason → AreLateLines lates
      → BeginsWith (first_lines lates) input rest → ⊥)
      (refused_is_not_accepted : (front : Front) (input : List ℕ) (done : List Dossier) (number : ℕ) (reason : Reason) (dossiers : List Dossier)
      → IsRefusal front input done number reason → IsAcceptedBehind front input dossiers → ⊥) where
    -- a refusal behind the same lines
    pub refused_behind : (input : List ℕ) (lines : List LateLine) (number : ℕ) (reason : Reason) (d : Dossier) → IsRefusedBehind (late_front lines) input number reason
        → AreLateLines lines → IsAcceptedBehind (late_front lines) input (d ∷ []) → ⊥
    refused_behind input lines number reason d (InDossier refusal) are a = refused_is_not_accepted (late_front lines) input [] number reason (d ∷ []) refusal a
    refused_behind input lines number reason d (AfterDossier e more read some is why) are a =
        let same = one_front input a.behind ((flat_map text_of (e ∷ []) ++ text_of_lines []) ++ more) lines lines are are (begins_accepted input lines (d ∷ []) a) (begins_read input lines (e ∷ []) [] more _ read) in
        let text : text_of d ≡ text_of e ++ more = sym (append-nil (text_of d)) ∙ sym a.accepted.text ∙ same.1 ∙ ap (λ x. x ++ more) (append-nil (flat_map text_of (e ∷ [])) ∙ append-nil (text_of e)) in
        some (one_text e d more (first_good e read.good) (first_good d a.accepted.good) text).0

    pub same_lines : (input : List ℕ) (lines others : List LateLine) (number : ℕ) (reason : Reason) (d : Dossier) → AreLateLines lines → AreLateLines others
        → IsRefusedBehind (late_front others) input number reason → IsAcceptedBehind (late_front lines) input (d ∷ []) → others ≡ lines
    same_lines input lines others number reason d are those refusal a =
        let b = begins_behind input others number reason refusal in
        (one_front input b.rest a.behind others lines those are b.begins (begins_accepted input lines (d ∷ []) a)).0

    pub no_form : (input : List ℕ) (number : ℕ) (reason : Reason) (lines : List LateLine) (d : Dossier) → IsDelaysRefusal input number reason → IsDelays input lines d → ⊥
    no_form input number reason lines d (BeforeDossier refusal) form =
        refused_is_no_front input form.accepted.behind lines number reason refusal form.are (begins_accepted input lines (d ∷ []) form.accepted)
    no_form input number reason lines d (FromDossier others those refusal) form =
        let same = same_lines input lines others number reason d form.are those refusal form.accepted in
        refused_behind input lines number reason d (subst (λ (x : List LateLine). IsRefusedBehind (late_front x) input number reason) same refusal) form.are form.accepted
    no_form input number reason lines d (NotDone others those e accepted undone) form =
        let same = same_form input others lines e d those form.are accepted form.accepted in
        not_undone d.instance d.plan lines number reason form.done
        (subst (λ (x : Dossier). IsFirstUndone x.instance x.plan lines number reason) same.1 (subst (λ (x : List LateLine). IsFirstUndone e.instance e.plan x number reason) same.0 undone))

-- there is one text
pub text_once : ((i : Instance) (p : Plan) (lates : List Late) (w v : List (Option Wait)) → IsLegal i p → AreWaits i p lates w → AreWaits i p lates v → w ≡ v)
    → (input : List ℕ) (lines : List LateLine) (d : Dossier) (text other : List ℕ) → IsDelays input lines d → IsDelaysText lines d text → IsDelaysText lines d other → text ≡ other
text_once law input lines d text other form a b =
    let legal = (form.accepted.accepted.good 0 d (omega arith)).plan in
    a.is ∙ ap (delays_text d.instance d.plan) (law d.instance d.plan (lates_in d.instance lines) a.waits b.waits legal a.are b.are) ∙ sym b.is
