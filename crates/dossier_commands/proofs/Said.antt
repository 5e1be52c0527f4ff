-- what is written for the dossiers of an input, one after another
use Rattle.std.proofs.Common.{◌≡◌, ◌++◌, ℕ, List, [], ◌∷◌, take, Option, None, Some, Result, Ok, ap, subst, sym, refl, ◌∙◌, arith, append-nil}
use Rattle.std.specs.Prelude.{All, IfSome}
use Rattle.std.specs.List.{flat_map}
use Rattle.std.proofs.lemmas.List.Concat.{flat_map-append}
use Rattle.std.proofs.lemmas.List.Elements.{All-nil, All-push}
use Rattle.crew_terms.specs.declared.TheConstants.{LONGEST_INPUT}
use Rattle.crew_io.specs.Fronts.{all_is_part}
use Rattle.crew_io.specs.Io.{Appended, AppendedPart}
use Rattle.crew_io.specs.Bytes.{OfBytes, piece_front}
use Rattle.crew_io.specs.Lines.{Reader, fresh_reader, rest_of}
use Rattle.crew_io.specs.Appends.{appended_none, appended_both}
use Rattle.dossier_terms.specs.declared.Reason.{Reason}
use Rattle.dossier_terms.specs.Dossier.{Dossier}
use Rattle.dossier_terms.specs.Reading.{Form}
use Rattle.dossier_terms.specs.Texts.{no_line}
use Rattle.dossier_terms.specs.Accepted.{IsAccepted}
use Rattle.cert_checker.specs.Checked.{Checked, IsTrueYes, IsWholeAt, fresh_checker, verdict_of}
use Rattle.cert_checker.specs.declared.checker.Verdict.{Verdict}
use Rattle.dossier_commands.specs.Input.{Front, no_front, IsAcceptedBehind, Fresh, IsBetween, IsNextDossier, CanGoOn, IsRefusal, IsInterrupted, HasRead}
use Rattle.dossier_commands.specs.declared.input.Outcome.{Outcome}
use Rattle.dossier_commands.specs.declared.input.Outcome.TheVariants.{Yes, ReadFault}
use Rattle.dossier_commands.specs.Says.{SaysYes, SaysNo, SaysFront, SaysReadFault, SaysTexts, Nothing, GoodFront, NoFront}

-- these dossiers are read, and their texts are written
pub record HasSaid (text : Dossier → List ℕ) (input : List ℕ) (before : Option (List ℕ)) (reader : Reader) (left got : Option (List ℕ)) (at : Checked) : Type 0 where
  pub done : List Dossier
  pub between : IsBetween no_front input done reader left at
  pub written : Appended before got (flat_map text done)
  pub each : All IsTrueYes done

-- where the source tells its bytes
abbrev pub HasSaidOf : (Dossier → List ℕ) → Option (List ℕ) → Option (List ℕ) → Reader → Option (List ℕ) → Option (List ℕ) → Checked → Type 0
HasSaidOf text left0 got0 reader left got at = IfSome left0 (λ input. HasSaid text input got0 reader left got at)

pub opens : (reader : Reader) (checker : Checked) → reader ≡ fresh_reader LONGEST_INPUT → checker ≡ fresh_checker → CanGoOn reader checker
opens reader checker e f = subst (λ r. CanGoOn r checker) (sym e) (subst (CanGoOn (fresh_reader LONGEST_INPUT)) (sym f) (record {
  going = record { going = refl; limit = refl; within = omega arith; few = omega arith };
  first = Fresh refl;
}))

-- nothing is read yet of an input
none_read : (input : List ℕ) → HasRead no_front input [] [] input Form
none_read input = record { text = refl; within = omega arith; good = All-nil _; each = All-nil _; leads = refl }

pub yes_is_no_fault : {E : Type 0} (outcome : Outcome) (verdict : Verdict) → outcome ≡ Yes verdict → ◌≡◌ {A = Result Outcome E} (Ok outcome) (Ok ReadFault) → ⊥
yes_is_no_fault outcome verdict is e = cc

-- behind no front
accepted_of : (input : List ℕ) (done : List Dossier) → IsAcceptedBehind no_front input done → IsAccepted input done
accepted_of input done behind = subst (λ bytes. IsAccepted bytes done) (sym behind.text) behind.accepted

-- what is held, and what the source has left
unseen_of : (reader : Reader) (left : Option (List ℕ)) (rest : List ℕ) → rest_of reader left ≡ Some rest → (unseen : List ℕ) × (left ≡ Some unseen) × (rest ≡ reader.held ++ unseen)
unseen_of reader None rest e = absurd (cc)
unseen_of reader (Some unseen) rest e = (unseen, refl, cc)

-- the text of each good dossier
module _ (text : Dossier → List ℕ) where
  pub begins : (left got : Option (List ℕ)) (reader : Reader) (checker : Checked) → reader ≡ fresh_reader LONGEST_INPUT → checker ≡ fresh_checker → HasSaidOf text left got reader left got checker
  begins None got reader checker e f = tt
  begins (Some input) got reader checker e f = subst (λ c. HasSaid text input got reader (Some input) got c) (sym f) (subst (λ r. HasSaid text input got r (Some input) got fresh_checker) (sym e) (record {
    done = [];
    between = record { rest = input; is = refl; read = none_read input; handed = refl; number = refl; ended = ((λ ended. absurd ended.1), (λ some. absurd (some refl))) };
    written = appended_none got;
    each = All-nil IsTrueYes;
  }))

  pub texts_none : (left got : Option (List ℕ)) → OfBytes left got got (SaysTexts text)
  texts_none None got = tt
  texts_none (Some input) got = (
    [],
    appended_none got,
    record { dossiers = []; rest = input; read = none_read input; texts = refl; each = All-nil IsTrueYes },
  )

  pub front_none : (left got : Option (List ℕ)) → OfBytes left got got (SaysFront text)
  front_none None got = tt
  front_none (Some input) got = (
    [],
    appended_none got,
    record { dossiers = []; rest = input; read = none_read input; each = All-nil IsTrueYes; part = []; texts = refl; next = Nothing refl },
  )

-- behind the dossiers whose texts are written
module _ (text : Dossier → List ℕ) (left0 got0 : Option (List ℕ)) (old : Reader) (left got : Option (List ℕ)) (at : Checked) (so : HasSaidOf text left0 got0 old left got at) where
  -- one dossier more, and its text
  pub says_one_more : (new : Reader) (later added : Option (List ℕ)) (next : Checked) (verdict : Verdict)
      → ((front : Front) (input : List ℕ) (done : List Dossier) → IsBetween front input done old left at → IsNextDossier front input done verdict new later next)
      → ((d : Dossier) → IsWholeAt next.at d → verdict ≡ verdict_of d → Appended got added (text d)) → HasSaidOf text left0 got0 new later added next
  says_one_more new later added next verdict is_next wrote = by left0 so
    where
      by : (l : Option (List ℕ)) → HasSaidOf text l got0 old left got at → HasSaidOf text l got0 new later added next
      by None so = tt
      by (Some input) so =
          let n = is_next no_front input so.done so.between in
          let d = n.dossier in
          let texts : flat_map text so.done ++ text d ≡ flat_map text (so.done ++ d ∷ []) =
          ap (λ x. flat_map text so.done ++ x) (sym (append-nil (text d))) ∙ sym (flat_map-append text so.done (d ∷ [])) in
          record {
            done = so.done ++ d ∷ [];
            between = n.between;
            written = subst (λ bytes. Appended got0 added bytes) texts (appended_both got0 got added (flat_map text so.done) (text d) so.written (wrote d n.whole n.says));
            each = All-push IsTrueYes so.done d so.each n.true_yes;
          }

  -- the input has ended behind a dossier
  pub says_yes : ((front : Front) (input : List ℕ) (done : List Dossier) → IsBetween front input done old left at → IsAcceptedBehind front input done) → OfBytes left0 got0 got (SaysYes text)
  says_yes whole = by left0 so
    where
      by : (l : Option (List ℕ)) → HasSaidOf text l got0 old left got at → OfBytes l got0 got (SaysYes text)
      by None so = tt
      by (Some input) so = (flat_map text so.done, so.written, record { dossiers = so.done; accepted = accepted_of input so.done (whole no_front input so.done so.between); texts = refl; each = so.each })

  -- a line is refused behind these dossiers
  pub says_no : (added : Option (List ℕ)) (number : ℕ) (reason : Reason)
      → ((front : Front) (input : List ℕ) (done : List Dossier) (number : ℕ) (reason : Reason) (dossiers : List Dossier) → IsRefusal front input done number reason → IsAcceptedBehind front input dossiers → ⊥)
      → ((front : Front) (input : List ℕ) (done : List Dossier) → IsBetween front input done old left at → IsRefusal front input done number reason)
      → Appended got added (no_line number reason) → OfBytes left0 got0 added (SaysNo text)
  says_no added number reason law refused wrote = by left0 so
    where
      by : (l : Option (List ℕ)) → HasSaidOf text l got0 old left got at → OfBytes l got0 added (SaysNo text)
      by None so = tt
      by (Some input) so =
          let refusal = refused no_front input so.done so.between in (
            flat_map text so.done ++ no_line number reason,
            appended_both got0 got added (flat_map text so.done) (no_line number reason) so.written wrote,
            record {
              not_accepted = λ dossiers yes. law no_front input so.done number reason dossiers refusal (record { behind = input; text = refl; within = yes.size; accepted = yes });
              before = so.done;
              number = number;
              reason = reason;
              refusal = refusal;
              texts = refl;
              each = so.each;
            },
          )

  -- no more was written
  pub front_so_far : OfBytes left0 got0 got (SaysFront text)
  front_so_far = by left0 so
    where
      by : (l : Option (List ℕ)) → HasSaidOf text l got0 old left got at → OfBytes l got0 got (SaysFront text)
      by None so = tt
      by (Some input) so = (
        flat_map text so.done,
        so.written,
        record {
          dossiers = so.done;
          rest = so.between.rest;
          read = so.between.read;
          each = so.each;
          part = [];
          texts = sym (append-nil (flat_map text so.done));
          next = Nothing refl;
        },
      )

  -- memory was wanting
  pub says_texts : OfBytes left0 got0 got (SaysTexts text)
  says_texts = by left0 so
    where
      by : (l : Option (List ℕ)) → HasSaidOf text l got0 old left got at → OfBytes l got0 got (SaysTexts text)
      by None so = tt
      by (Some input) so = (
        flat_map text so.done,
        so.written,
        record { dossiers = so.done; rest = so.between.rest; read = so.between.read; texts = refl; each = so.each },
      )

  -- a read has failed
  pub says_read_fault : (new : Reader) (later : Option (List ℕ)) → ((front : Front) (input : List ℕ) (done : List Dossier) → IsBetween front input done old left at → IsInterrupted front input done new later)
      → OfBytes left0 got0 got (SaysReadFault text later)
  says_read_fault new later stopped = by left0 so
    where
      by : (l : Option (List ℕ)) → HasSaidOf text l got0 old left got at → OfBytes l got0 got (SaysReadFault text later)
      by None so = tt
      by (Some input) so =
          let i = stopped no_front input so.done so.between in
          let u = unseen_of new later i.rest i.is in (
            flat_map text so.done,
            so.written,
            record {
              dossiers = so.done;
              lines = i.lines;
              due = i.due;
              part = new.held;
              rest = u.0;
              left = u.1;
              read = subst (λ rest. HasRead no_front input so.done i.lines rest i.due) u.2 i.read;
              front = i.part;
              texts = refl;
              each = so.each;
            },
          )

  -- a front of one more text was written
  pub front_good : (new : Reader) (later added : Option (List ℕ)) (next : Checked) (verdict : Verdict)
      → ((front : Front) (input : List ℕ) (done : List Dossier) → IsBetween front input done old left at → IsNextDossier front input done verdict new later next)
      → ((d : Dossier) → IsWholeAt next.at d → verdict ≡ verdict_of d → AppendedPart got added (text d)) → OfBytes left0 got0 added (SaysFront text)
  front_good new later added next verdict is_next wrote = by left0 so
    where
      by : (l : Option (List ℕ)) → HasSaidOf text l got0 old left got at → OfBytes l got0 added (SaysFront text)
      by None so = tt
      by (Some input) so =
          let n = is_next no_front input so.done so.between in
          let d = n.dossier in
          let w = piece_front got0 got added (flat_map text so.done) (text d) so.written (wrote d n.whole n.says) in (
            flat_map text so.done ++ take w.0 (text d),
            w.2,
            record {
              dossiers = so.done;
              rest = so.between.rest;
              read = so.between.read;
              each = so.each;
              part = take w.0 (text d);
              texts = refl;
              next = GoodFront d n.between.rest n.between.read n.true_yes w.0 refl;
            },
          )

  -- a front of the no line was written
  pub front_no : (added : Option (List ℕ)) (number : ℕ) (reason : Reason) → ((front : Front) (input : List ℕ) (done : List Dossier) → IsBetween front input done old left at → IsRefusal front input done number reason)
      → AppendedPart got added (no_line number reason) → OfBytes left0 got0 added (SaysFront text)
  front_no added number reason refused wrote = by left0 so
    where
      by : (l : Option (List ℕ)) → HasSaidOf text l got0 old left got at → OfBytes l got0 added (SaysFront text)
      by None so = tt
      by (Some input) so =
          let w = piece_front got0 got added (flat_map text so.done) (no_line number reason) so.written wrote in (
            flat_map text so.done ++ take w.0 (no_line number reason),
            w.2,
            record {
              dossiers = so.done;
              rest = so.between.rest;
              read = so.between.read;
              each = so.each;
              part = take w.0 (no_line number reason);
              texts = refl;
              next = NoFront number reason (refused no_front input so.done so.between) w.0 refl;
            },
          )

  -- the whole no line was written
  pub whole_no : (added : Option (List ℕ)) (number : ℕ) (reason : Reason) → ((front : Front) (input : List ℕ) (done : List Dossier) → IsBetween front input done old left at → IsRefusal front input done number reason)
      → Appended got added (no_line number reason) → OfBytes left0 got0 added (SaysFront text)
  whole_no added number reason refused wrote = front_no added number reason refused (all_is_part got added (no_line number reason) wrote)
