-- what a reader finds that stands where a dossier is due
use Rattle.std.proofs.Common.{◌≡◌, ◌≤◌, ◌+◌, ◌++◌, ℕ, List, [], ◌∷◌, length, Option, ap, subst, sym, refl, ◌∙◌, arith, length-append, append_assoc, append-nil}
use Rattle.std.specs.Prelude.{flat_map}
use Rattle.std.proofs.lemmas.List.Elements.{All-nil}
use Rattle.crew_terms.specs.Words.{IsLine, line_text}
use Rattle.crew_terms.specs.declared.TheConstants.{LONGEST_INPUT}
use Rattle.crew_io.specs.Lines.{Reader}
use Rattle.cert_checker.specs.Checked.{Checked, opened_at}
use Rattle.cert_checker.specs.declared.checker.Verdict.{Verdict}
use Rattle.dossier_terms.specs.declared.Reason.{Reason}
use Rattle.dossier_terms.specs.Dossier.{Dossier, IsGood}
use Rattle.dossier_terms.specs.Lines.{lines_of, text_of}
use Rattle.dossier_commands.specs.Input.{IsBetween as IsAtFirst, IsInterrupted as IsCut, IsNextDossier, IsRefusal as IsDossierRefusal, text_before}
use Rattle.part_texts.specs.Bundle.{Bundle}
use Rattle.part_texts.specs.Lines.{count_words, first_words, text_of_bundle}
use Rattle.parts_reader.specs.Input.{AmidDossier, Begun, InDay, InDossier, InParts, IsBegun, IsDossierDue, IsInterrupted, IsPlace, IsRefusal, PastDay, front_at, lines_begun, text_begun, text_up_to}
use Rattle.parts_reader.specs.Stages.{IsDossierRead}
use Rattle.parts_reader.specs.declared.dossier.WholeDossier.{WholeDossier}
use Rattle.parts_reader.specs.declared.reason.BundleReason.TheVariants.{Line}
use Rattle.parts_reader.proofs.Places.{unseen_of}

-- the line `parts` behind the day's dossier
pub count_behind : (day : Dossier) (k : ℕ) → (text_begun (InParts day k []) ≡ text_begun (PastDay day) ++ line_text (count_words k)) × (lines_begun (InParts day k []) ≡ lines_begun (PastDay day) + 1)
count_behind day k =
    let first = line_text first_words in
    let line = line_text (count_words k) in (
      ap (λ x. first ++ (text_of day ++ x)) (append-nil line) ∙ sym (append_assoc first (text_of day) line),
      omega arith,
    )

module _ (input : List ℕ) (done : List Bundle) (begun : Begun) (old : Reader) (left : Option (List ℕ)) (lines : ℕ) (p : IsPlace input done begun old left lines) where
  -- a checker of its own stands there
  pub stands : (c : Checked) → c ≡ opened_at lines → IsAtFirst (front_at done begun) input [] old left c
  stands c is =
      let before = text_up_to done begun in
      subst (IsAtFirst (front_at done begun) input [] old left) (sym is) (record {
        rest = p.rest;
        is = p.is;
        read = record {
          text = p.read.text ∙ ap (λ x. x ++ p.rest) (sym (append-nil before));
          within = subst (λ x. length x ≤ LONGEST_INPUT) (sym (append-nil before)) p.read.within;
          good = All-nil IsGood;
          each = All-nil IsLine;
          leads = refl;
        };
        handed = p.handed ∙ ap length (sym (append-nil before));
        number = (let n = p.number in omega (arith, n));
        ended = ((λ e. absurd e.1), (λ some. absurd (some refl)));
      })

  -- a line of it is refused
  pub refused : IsDossierDue begun → (number : ℕ) (cause : Reason) → IsDossierRefusal (front_at done begun) input [] number cause → IsRefusal input done number (Line cause)
  refused due number cause r = InDossier begun p.rest p.read due cause r refl

  -- a read failed amid it
  pub cut : IsDossierDue begun → (new : Reader) (later : Option (List ℕ)) → IsCut (front_at done begun) input [] new later → IsInterrupted input done later
  cut due new later i =
      let u = unseen_of new later i.rest i.is in
      record {
        part = new.held;
        unseen = u.0;
        rest = u.1;
        read = AmidDossier begun p.rest p.read due i.lines i.due (record {
          text = i.read.text ∙ ap (λ x. text_before (front_at done begun) [] i.lines ++ x) u.2;
          within = i.read.within;
          good = i.read.good;
          each = i.read.each;
          leads = i.read.leads;
        }) i.part;
      }

  -- it is whole
  pub read : (verdict : Verdict) (new : Reader) (later : Option (List ℕ)) (c : Checked) → IsNextDossier (front_at done begun) input [] verdict new later c
      → IsDossierRead input done begun new later (record { checker = c; verdict = verdict })
  read verdict new later c n =
      let d = n.dossier in
      let b = n.between in
      let before = text_up_to done begun in
      let text : text_before (front_at done begun) (d ∷ []) [] ≡ before ++ text_of d = ap (λ x. before ++ x) (append-nil (flat_map text_of (d ∷ [])) ∙ append-nil (text_of d)) in
      let size = ap length text in
      let sum = length-append before (text_of d) in
      record {
        dossier = d;
        good = n.true_yes.good;
        has = n.whole;
        says = n.says;
        rest = b.rest;
        is = b.is;
        text = b.read.text ∙ ap (λ x. x ++ b.rest) text ∙ append_assoc before (text_of d) b.rest;
        within = (let w = b.read.within in omega (arith, w, size, sum));
        handed = b.handed ∙ size ∙ sum;
        number = (let m = b.number in let e = ap length (append-nil (lines_of d)) in omega (arith, m, e));
      }

  -- it leads on
  pub leads_on : (next : Begun) (new : Reader) (later : Option (List ℕ)) (whole : WholeDossier) → (r : IsDossierRead input done begun new later whole)
      → text_up_to done begun ++ text_of r.dossier ≡ text_up_to done next → lines_begun begun + length (lines_of r.dossier) ≡ lines_begun next → IsBegun next
      → IsPlace input done next new later whole.checker.lines
  leads_on next new later whole r text count ok =
      let before = text_up_to done begun in
      let size = ap length text in
      let sum = length-append before (text_of r.dossier) in
      record {
        rest = r.rest;
        is = r.is;
        read = record {
          text = r.text ∙ sym (append_assoc before (text_of r.dossier) r.rest) ∙ ap (λ x. x ++ r.rest) text;
          within = (let w = r.within in omega (arith, w, size, sum));
          good = p.read.good;
          begins = ok;
        };
        handed = r.handed ∙ sym sum ∙ size;
        number = (let n = r.number in omega (arith, n, count));
      }

-- the day's dossier leads to the line `parts`
pub past_day : (input : List ℕ) (done : List Bundle) (old new : Reader) (left later : Option (List ℕ)) (lines : ℕ) (whole : WholeDossier) → IsPlace input done InDay old left lines
    → (r : IsDossierRead input done InDay new later whole) → IsPlace input done (PastDay r.dossier) new later whole.checker.lines
past_day input done old new left later lines whole p r =
    leads_on input done InDay old left lines p (PastDay r.dossier) new later whole r
    (append_assoc (flat_map text_of_bundle done) (line_text first_words) (text_of r.dossier)) (omega arith) r.good
