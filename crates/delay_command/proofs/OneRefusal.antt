-- an input is refused at one line, for one reason
use Rattle.std.proofs.Common.{◌≡◌, ◌≢◌, ◌≤◌, ◌<◌, ◌++◌, ◌⊎◌, ℕ, suc, List, [], ◌∷◌, length, map, ap, subst, sym, refl, ◌∙◌, arith, append_assoc, append-nil}
use Rattle.std.specs.List.{flat_map}
use Rattle.std.proofs.lemmas.List.{append_cancel_left}
use Rattle.crew_terms.specs.declared.TheConstants.{LONGEST_INPUT}
use Rattle.dossier_terms.specs.declared.Reason.{Reason}
use Rattle.dossier_terms.specs.Dossier.{Dossier, IsGood}
use Rattle.dossier_terms.specs.Lines.{text_of}
use Rattle.dossier_terms.specs.Reading.{Form}
use Rattle.dossier_commands.specs.Input.{Front, HasRead, IsAcceptedBehind, IsRefusal, lines_before}
use Rattle.late_lines.specs.declared.first_line.LateLine.{LateLine}
use Rattle.late_lines.specs.Lines.{AreLateLines, first_lines}
use Rattle.late_lines.specs.First.{BeginsWith, IsFirstRefusal}
use Rattle.delay_command.specs.Alone.{AfterDossier, InDossier, IsRefusedBehind}
use Rattle.delay_command.specs.Delays.{BeforeDossier, FromDossier, IsDelaysRefusal, NotDone, late_front}
use Rattle.delay_command.specs.Tasks.{IsFirstUndone}
use Rattle.delay_command.proofs.Forms.{begins_accepted, begins_behind, refused_behind, same_form, same_lines}
use Rattle.delay_command.proofs.Once.{one_undone}

module _
    (one_front : (input rest other : List ℕ) (lates others : List LateLine) → AreLateLines lates → AreLateLines others → BeginsWith (first_lines lates) input rest
    → BeginsWith (first_lines others) input other → (lates ≡ others) × (rest ≡ other))
    (one_text : (d e : Dossier) (more : List ℕ) → IsGood d → IsGood e → text_of e ≡ text_of d ++ more → (more ≡ []) × (d ≡ e))
    (refused_is_no_front : (input rest : List ℕ) (lates : List LateLine) (number : ℕ) (reason : Reason) → IsFirstRefusal input number reason → AreLateLines lates
    → BeginsWith (first_lines lates) input rest → ⊥)
    (refused_is_not_accepted : (front : Front) (input : List ℕ) (done : List Dossier) (number : ℕ) (reason : Reason) (dossiers : List Dossier)
    → IsRefusal front input done number reason → IsAcceptedBehind front input dossiers → ⊥)
    (one_first : (input : List ℕ) (number other : ℕ) (reason second : Reason) → IsFirstRefusal input number reason → IsFirstRefusal input other second → (number ≡ other) × (reason ≡ second))
    (one_in_dossier : (front : Front) (input : List ℕ) (done others : List Dossier) (number other : ℕ) (reason second : Reason) → IsRefusal front input done number reason
    → IsRefusal front input others other second → (done ≡ others) × (number ≡ other) × (reason ≡ second))
    (not_refused : (d : Dossier) → IsGood d → (front : Front) (input more : List ℕ) (number : ℕ) (reason : Reason) → input ≡ front.text ++ (text_of d ++ more)
    → length (front.text ++ text_of d) ≤ LONGEST_INPUT → IsRefusal front input [] number reason → ⊥)
    (same_first : (d e : Dossier) (a b : List ℕ) → IsGood d → IsGood e → text_of d ++ a ≡ text_of e ++ b → d ≡ e) where
  -- the text of one dossier behind a front
  behind : (front : Front) (input : List ℕ) (d : Dossier) (more : List ℕ) → HasRead front input (d ∷ []) [] more Form → input ≡ front.text ++ (text_of d ++ more)
  behind front input d more read = read.text ∙ append_assoc front.text (flat_map text_of (d ∷ []) ++ []) more
      ∙ ap (λ x. front.text ++ (x ++ more)) (append-nil (flat_map text_of (d ∷ [])) ∙ append-nil (text_of d))

  not_in_dossier : (front : Front) (input : List ℕ) (d : Dossier) (more : List ℕ) (number : ℕ) (reason : Reason) → HasRead front input (d ∷ []) [] more Form
      → IsRefusal front input [] number reason → ⊥
  not_in_dossier front input d more number reason read refusal =
      let size = ap (λ x. length (front.text ++ x)) (append-nil (flat_map text_of (d ∷ [])) ∙ append-nil (text_of d)) in
      let within = read.within in
      not_refused d (read.good 0 d (omega arith)) front input more number reason (behind front input d more read) (omega (arith, size, within)) refusal

  behind_once : (front : Front) (input : List ℕ) (number other : ℕ) (reason second : Reason) → IsRefusedBehind front input number reason → IsRefusedBehind front input other second
      → (number ≡ other) × (reason ≡ second)
  behind_once front input number other reason second (InDossier a) (InDossier b) = let r = one_in_dossier front input [] [] number other reason second a b in (r.1, r.2)
  behind_once front input number other reason second (InDossier a) (AfterDossier d more read some is why) = absurd (not_in_dossier front input d more number reason read a)
  behind_once front input number other reason second (AfterDossier d more read some is why) (InDossier b) = absurd (not_in_dossier front input d more other second read b)
  behind_once front input number other reason second (AfterDossier d more read some is why) (AfterDossier e rest those none at how) =
      let texts = append_cancel_left front.text (text_of d ++ more) (text_of e ++ rest) (sym (behind front input d more read) ∙ behind front input e rest those) in
      let same = same_first d e more rest (read.good 0 d (omega arith)) (those.good 0 e (omega arith)) texts in
      (is ∙ ap (λ x. suc (lines_before front (x ∷ []) [])) same ∙ sym at, why ∙ sym how)

  before_all : (input : List ℕ) (number other : ℕ) (reason second : Reason) → IsFirstRefusal input number reason → IsDelaysRefusal input other second → (number ≡ other) × (reason ≡ second)
  before_all input number other reason second a (BeforeDossier b) = one_first input number other reason second a b
  before_all input number other reason second a (FromDossier lines are b) =
      let begun = begins_behind input lines other second b in absurd (refused_is_no_front input begun.rest lines number reason a are begun.begins)
  before_all input number other reason second a (NotDone lines are d accepted undone) =
      absurd (refused_is_no_front input accepted.behind lines number reason a are (begins_accepted input lines (d ∷ []) accepted))

  from_and_not_done : (input : List ℕ) (lines others : List LateLine) (number : ℕ) (reason : Reason) (d : Dossier) → AreLateLines lines → AreLateLines others
      → IsRefusedBehind (late_front others) input number reason → IsAcceptedBehind (late_front lines) input (d ∷ []) → ⊥
  from_and_not_done input lines others number reason d are those refusal accepted =
      let same = same_lines one_front one_text refused_is_no_front refused_is_not_accepted input lines others number reason d are those refusal accepted in
      refused_behind one_front one_text refused_is_no_front refused_is_not_accepted input lines number reason d
      (subst (λ (x : List LateLine). IsRefusedBehind (late_front x) input number reason) same refusal) are accepted

  pub refusal_once : (input : List ℕ) (number other : ℕ) (reason second : Reason) → IsDelaysRefusal input number reason → IsDelaysRefusal input other second → (number ≡ other) × (reason ≡ second)
  refusal_once input number other reason second (BeforeDossier a) b = before_all input number other reason second a b
  refusal_once input number other reason second a (BeforeDossier b) = let r = before_all input other number second reason b a in (sym r.0, sym r.1)
  refusal_once input number other reason second (FromDossier lines are a) (FromDossier others those b) =
      let x = begins_behind input lines number reason a in
      let y = begins_behind input others other second b in
      let same = (one_front input x.rest y.rest lines others are those x.begins y.begins).0 in
      behind_once (late_front others) input number other reason second (subst (λ (l : List LateLine). IsRefusedBehind (late_front l) input number reason) same a) b
  refusal_once input number other reason second (FromDossier lines are a) (NotDone others those d accepted undone) = absurd (from_and_not_done input others lines number reason d those are a accepted)
  refusal_once input number other reason second (NotDone lines are d accepted undone) (FromDossier others those b) = absurd (from_and_not_done input lines others other second d are those b accepted)
  refusal_once input number other reason second (NotDone lines are d accepted undone) (NotDone others those e taken open_) =
      let same = same_form one_front one_text input lines others d e are those accepted taken in
      one_undone e.instance e.plan others number other reason second
      (subst (λ (x : Dossier). IsFirstUndone x.instance x.plan others number reason) same.1 (subst (λ (x : List LateLine). IsFirstUndone d.instance d.plan x number reason) same.0 undone)) open_
