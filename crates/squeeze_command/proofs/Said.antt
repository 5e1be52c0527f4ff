-- the sheets that are written for the dossiers of an input, one after another
use Rattle.std.proofs.Common.{◌≡◌, ◌++◌, ℕ, List, [], ◌∷◌, take, Option, None, Some, ap, subst, sym, refl, ◌∙◌, arith, append-nil}
use Rattle.std.specs.Prelude.{IfSome}
use Rattle.std.specs.List.{flat_map}
use Rattle.std.proofs.lemmas.List.Concat.{flat_map-append}
use Rattle.std.proofs.lemmas.List.Elements.{All-nil}
use Rattle.crew_terms.specs.Instance.{Instance}
use Rattle.crew_terms.specs.declared.TheConstants.{LONGEST_INPUT}
use Rattle.crew_io.specs.Fronts.{all_is_part}
use Rattle.crew_io.specs.Io.{Appended, AppendedPart}
use Rattle.crew_io.specs.Bytes.{OfBytes, piece_front}
use Rattle.crew_io.specs.Lines.{Reader, fresh_reader, rest_of}
use Rattle.crew_io.specs.Appends.{appended_none, appended_both}
use Rattle.dossier_terms.specs.declared.Reason.{Reason}
use Rattle.dossier_terms.specs.Dossier.{Dossier}
use Rattle.dossier_terms.specs.Reading.{Form}
use Rattle.dossier_terms.specs.Texts.{no_line}
use Rattle.dossier_terms.specs.Accepted.{IsAccepted}
use Rattle.cert_checker.specs.Checked.{Checked, IsWholeAt, fresh_checker}
use Rattle.cert_checker.specs.declared.checker.Verdict.{Verdict}
use Rattle.dossier_commands.specs.Input.{Front, no_front, IsAcceptedBehind, Fresh, IsBetween, IsNextDossier, CanGoOn, IsRefusal, IsInterrupted, HasRead}
use Rattle.sheet_terms.specs.Lines.{text_of_sheet}
use Rattle.sheet_terms.specs.Sheet.{Sheet}
use Rattle.squeeze_command.specs.Says.{SaysYes, SaysNo, SaysFront, SaysReadFault, SaysSheets, Nothing, SheetFront, NoFront}
use Rattle.squeeze_command.specs.Sheets.{AreSheetsOf, IsSqueezedSheet, IsTextOfSheets}

-- these dossiers are read, and their sheets are written
pub record HasSaid (steps : ℕ) (input : List ℕ) (before : Option (List ℕ)) (reader : Reader) (left got : Option (List ℕ)) (at : Checked) : Type 0 where
  pub done : List Dossier
  pub between : IsBetween no_front input done reader left at
  pub text : List ℕ
  pub sheets : IsTextOfSheets steps done text
  pub written : Appended before got text

-- where the source tells its bytes
abbrev pub HasSaidOf : ℕ → Option (List ℕ) → Option (List ℕ) → Reader → Option (List ℕ) → Option (List ℕ) → Checked → Type 0
HasSaidOf steps left0 got0 reader left got at = IfSome left0 (λ input. HasSaid steps input got0 reader left got at)

pub opens : (reader : Reader) (checker : Checked) → reader ≡ fresh_reader LONGEST_INPUT → checker ≡ fresh_checker → CanGoOn reader checker
opens reader checker e f = subst (λ r. CanGoOn r checker) (sym e) (subst (CanGoOn (fresh_reader LONGEST_INPUT)) (sym f) (record {
  going = record { going = refl; limit = refl; within = omega arith; few = omega arith };
  first = Fresh refl;
}))

-- nothing is read yet of an input
none_read : (input : List ℕ) → HasRead no_front input [] [] input Form
none_read input = record { text = refl; within = omega arith; good = All-nil _; each = All-nil _; leads = refl }

-- behind no front
accepted_of : (input : List ℕ) (done : List Dossier) → IsAcceptedBehind no_front input done → IsAccepted input done
accepted_of input done behind = subst (λ bytes. IsAccepted bytes done) (sym behind.text) behind.accepted

-- what is held, and what the source has left
unseen_of : (reader : Reader) (left : Option (List ℕ)) (rest : List ℕ) → rest_of reader left ≡ Some rest → (unseen : List ℕ) × (left ≡ Some unseen) × (rest ≡ reader.held ++ unseen)
unseen_of reader None rest e = absurd (cc)
unseen_of reader (Some unseen) rest e = (unseen, refl, cc)

-- ---- sheets of more dossiers

no_sheets : (steps : ℕ) → IsTextOfSheets steps [] []
no_sheets steps = record { sheets = []; each = tt; is = refl }

sheets_more : (steps : ℕ) (ds : List Dossier) (ss : List Sheet) (d : Dossier) (s : Sheet) → AreSheetsOf steps ds ss → IsSqueezedSheet d.instance d.budget steps s → AreSheetsOf steps (ds ++ d ∷ []) (ss ++ s ∷ [])
sheets_more steps [] [] d s are is = (is, tt)
sheets_more steps [] (z ∷ ss) d s are is = absurd are
sheets_more steps (e ∷ ds) [] d s are is = absurd are
sheets_more steps (e ∷ ds) (z ∷ ss) d s are is = (are.0, sheets_more steps ds ss d s are.1 is)

one_more : (steps : ℕ) (ds : List Dossier) (text : List ℕ) (d : Dossier) (s : Sheet) → IsTextOfSheets steps ds text → IsSqueezedSheet d.instance d.budget steps s → IsTextOfSheets steps (ds ++ d ∷ []) (text ++ text_of_sheet s)
one_more steps ds text d s so is = record {
  sheets = so.sheets ++ s ∷ [];
  each = sheets_more steps ds so.sheets d s so.each is;
  is =
      ap (λ x. x ++ text_of_sheet s) so.is ∙ ap (λ x. flat_map text_of_sheet so.sheets ++ x) (sym (append-nil (text_of_sheet s)))
      ∙ sym (flat_map-append text_of_sheet so.sheets (s ∷ []));
}

-- the sheet of an instance that is the dossier's is that of the dossier
pub sheet_of : (steps : ℕ) (d : Dossier) (s : Sheet) (i : Instance) (nodes : ℕ) → i ≡ d.instance → nodes ≡ d.budget → IsSqueezedSheet i nodes steps s → IsSqueezedSheet d.instance d.budget steps s
sheet_of steps d s i nodes e f is = subst (λ x. IsSqueezedSheet x d.budget steps s) e (subst (λ n. IsSqueezedSheet i n steps s) f is)

module _ (steps : ℕ) where
  pub begins : (left got : Option (List ℕ)) (reader : Reader) (checker : Checked) → reader ≡ fresh_reader LONGEST_INPUT → checker ≡ fresh_checker → HasSaidOf steps left got reader left got checker
  begins None got reader checker e f = tt
  begins (Some input) got reader checker e f = subst (λ c. HasSaid steps input got reader (Some input) got c) (sym f) (subst (λ r. HasSaid steps input got r (Some input) got fresh_checker) (sym e) (record {
    done = [];
    between = record { rest = input; is = refl; read = none_read input; handed = refl; number = refl; ended = ((λ ended. absurd ended.1), (λ some. absurd (some refl))) };
    text = [];
    sheets = no_sheets steps;
    written = appended_none got;
  }))

  pub sheets_none : (left got : Option (List ℕ)) → OfBytes left got got (SaysSheets steps)
  sheets_none None got = tt
  sheets_none (Some input) got = ([], appended_none got, record { dossiers = []; rest = input; read = none_read input; sheets = no_sheets steps })

  pub front_none : (left got : Option (List ℕ)) → OfBytes left got got (SaysFront steps)
  front_none None got = tt
  front_none (Some input) got = (
    [],
    appended_none got,
    record { dossiers = []; rest = input; read = none_read input; text = []; sheets = no_sheets steps; part = []; next = Nothing refl; is = refl },
  )

-- behind the dossiers whose sheets are written
module _ (steps : ℕ) (left0 got0 : Option (List ℕ)) (old : Reader) (left got : Option (List ℕ)) (at : Checked) (so : HasSaidOf steps left0 got0 old left got at) where
  -- one dossier more, and its sheet
  pub says_one_more : (new : Reader) (later added : Option (List ℕ)) (next : Checked) (verdict : Verdict)
      → ((front : Front) (input : List ℕ) (done : List Dossier) → IsBetween front input done old left at → IsNextDossier front input done verdict new later next)
      → (s : Sheet) → ((d : Dossier) → IsWholeAt next.at d → IsSqueezedSheet d.instance d.budget steps s) → Appended got added (text_of_sheet s) → HasSaidOf steps left0 got0 new later added next
  says_one_more new later added next verdict is_next s of wrote = by left0 so
    where
      by : (l : Option (List ℕ)) → HasSaidOf steps l got0 old left got at → HasSaidOf steps l got0 new later added next
      by None so = tt
      by (Some input) so =
          let n = is_next no_front input so.done so.between in
          record {
            done = so.done ++ n.dossier ∷ [];
            between = n.between;
            text = so.text ++ text_of_sheet s;
            sheets = one_more steps so.done so.text n.dossier s so.sheets (of n.dossier n.whole);
            written = appended_both got0 got added so.text (text_of_sheet s) so.written wrote;
          }

  -- the input has ended behind a dossier
  pub says_yes : ((front : Front) (input : List ℕ) (done : List Dossier) → IsBetween front input done old left at → IsAcceptedBehind front input done) → OfBytes left0 got0 got (SaysYes steps)
  says_yes whole = by left0 so
    where
      by : (l : Option (List ℕ)) → HasSaidOf steps l got0 old left got at → OfBytes l got0 got (SaysYes steps)
      by None so = tt
      by (Some input) so = (so.text, so.written, record { dossiers = so.done; accepted = accepted_of input so.done (whole no_front input so.done so.between); sheets = so.sheets })

  -- a line is refused behind these dossiers
  pub says_no : (added : Option (List ℕ)) (number : ℕ) (reason : Reason)
      → ((front : Front) (input : List ℕ) (done : List Dossier) (number : ℕ) (reason : Reason) (dossiers : List Dossier) → IsRefusal front input done number reason → IsAcceptedBehind front input dossiers → ⊥)
      → ((front : Front) (input : List ℕ) (done : List Dossier) → IsBetween front input done old left at → IsRefusal front input done number reason)
      → Appended got added (no_line number reason) → OfBytes left0 got0 added (SaysNo steps)
  says_no added number reason law refused wrote = by left0 so
    where
      by : (l : Option (List ℕ)) → HasSaidOf steps l got0 old left got at → OfBytes l got0 added (SaysNo steps)
      by None so = tt
      by (Some input) so =
          let refusal = refused no_front input so.done so.between in (
            so.text ++ no_line number reason,
            appended_both got0 got added so.text (no_line number reason) so.written wrote,
            record {
              not_accepted = λ dossiers yes. law no_front input so.done number reason dossiers refusal (record { behind = input; text = refl; within = yes.size; accepted = yes });
              before = so.done;
              number = number;
              reason = reason;
              refusal = refusal;
              text = so.text;
              sheets = so.sheets;
              is = refl;
            },
          )

  -- no more was written
  pub front_so_far : OfBytes left0 got0 got (SaysFront steps)
  front_so_far = by left0 so
    where
      by : (l : Option (List ℕ)) → HasSaidOf steps l got0 old left got at → OfBytes l got0 got (SaysFront steps)
      by None so = tt
      by (Some input) so = (
        so.text,
        so.written,
        record {
          dossiers = so.done;
          rest = so.between.rest;
          read = so.between.read;
          text = so.text;
          sheets = so.sheets;
          part = [];
          next = Nothing refl;
          is = sym (append-nil so.text);
        },
      )

  -- memory was wanting
  pub says_sheets : OfBytes left0 got0 got (SaysSheets steps)
  says_sheets = by left0 so
    where
      by : (l : Option (List ℕ)) → HasSaidOf steps l got0 old left got at → OfBytes l got0 got (SaysSheets steps)
      by None so = tt
      by (Some input) so = (so.text, so.written, record { dossiers = so.done; rest = so.between.rest; read = so.between.read; sheets = so.sheets })

  -- a read has failed
  pub says_read_fault : (new : Reader) (later : Option (List ℕ)) → ((front : Front) (input : List ℕ) (done : List Dossier) → IsBetween front input done old left at → IsInterrupted front input done new later)
      → OfBytes left0 got0 got (SaysReadFault steps later)
  says_read_fault new later stopped = by left0 so
    where
      by : (l : Option (List ℕ)) → HasSaidOf steps l got0 old left got at → OfBytes l got0 got (SaysReadFault steps later)
      by None so = tt
      by (Some input) so =
          let i = stopped no_front input so.done so.between in
          let u = unseen_of new later i.rest i.is in (
            so.text,
            so.written,
            record {
              dossiers = so.done;
              lines = i.lines;
              due = i.due;
              part = new.held;
              rest = u.0;
              left = u.1;
              read = subst (λ rest. HasRead no_front input so.done i.lines rest i.due) u.2 i.read;
              front = i.part;
              sheets = so.sheets;
            },
          )

  -- a front of one more sheet was written
  pub front_sheet : (new : Reader) (later added : Option (List ℕ)) (next : Checked) (verdict : Verdict)
      → ((front : Front) (input : List ℕ) (done : List Dossier) → IsBetween front input done old left at → IsNextDossier front input done verdict new later next)
      → (s : Sheet) → ((d : Dossier) → IsWholeAt next.at d → IsSqueezedSheet d.instance d.budget steps s) → AppendedPart got added (text_of_sheet s) → OfBytes left0 got0 added (SaysFront steps)
  front_sheet new later added next verdict is_next s of wrote = by left0 so
    where
      by : (l : Option (List ℕ)) → HasSaidOf steps l got0 old left got at → OfBytes l got0 added (SaysFront steps)
      by None so = tt
      by (Some input) so =
          let n = is_next no_front input so.done so.between in
          let w = piece_front got0 got added so.text (text_of_sheet s) so.written wrote in (
            so.text ++ take w.0 (text_of_sheet s),
            w.2,
            record {
              dossiers = so.done;
              rest = so.between.rest;
              read = so.between.read;
              text = so.text;
              sheets = so.sheets;
              part = take w.0 (text_of_sheet s);
              next = SheetFront n.dossier n.between.rest n.between.read s (of n.dossier n.whole) w.0 refl;
              is = refl;
            },
          )

  -- a front of the no line was written
  pub front_no : (added : Option (List ℕ)) (number : ℕ) (reason : Reason) → ((front : Front) (input : List ℕ) (done : List Dossier) → IsBetween front input done old left at → IsRefusal front input done number reason)
      → AppendedPart got added (no_line number reason) → OfBytes left0 got0 added (SaysFront steps)
  front_no added number reason refused wrote = by left0 so
    where
      by : (l : Option (List ℕ)) → HasSaidOf steps l got0 old left got at → OfBytes l got0 added (SaysFront steps)
      by None so = tt
      by (Some input) so =
          let w = piece_front got0 got added so.text (no_line number reason) so.written wrote in (
            so.text ++ take w.0 (no_line number reason),
            w.2,
            record {
              dossiers = so.done;
              rest = so.between.rest;
              read = so.between.read;
              text = so.text;
              sheets = so.sheets;
              part = take w.0 (no_line number reason);
              next = NoFront number reason (refused no_front input so.done so.between) w.0 refl;
              is = refl;
            },
          )

  -- the whole no line was written
  pub whole_no : (added : Option (List ℕ)) (number : ℕ) (reason : Reason) → ((front : Front) (input : List ℕ) (done : List Dossier) → IsBetween front input done old left at → IsRefusal front input done number reason)
      → Appended got added (no_line number reason) → OfBytes left0 got0 added (SaysFront steps)
  whole_no added number reason refused wrote = front_no added number reason refused (all_is_part got added (no_line number reason) wrote)
