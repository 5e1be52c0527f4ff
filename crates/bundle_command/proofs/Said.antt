-- the pieces that are written for the dossiers of an input, one after another
use Rattle.std.proofs.Common.{◌≡◌, ◌++◌, ℕ, List, [], ◌∷◌, Bool, true, false, take, Option, None, Some, Result, Ok, Err, ap, get_or, subst, sym, refl, ◌∙◌, arith, append-nil, append_assoc}
use Rattle.std.specs.Prelude.{IfSome, IsTrue, All, ◌↔◌}
use Rattle.std.specs.List.{flat_map}
use Rattle.std.proofs.lemmas.List.{append_cancel_left, append_cancel_right}
use Rattle.std.proofs.lemmas.List.Concat.{flat_map-append}
use Rattle.std.proofs.lemmas.List.Elements.{All-nil, All-push, All-contains, All-contains_itself, Contains-append_left, Contains-append_right}
use Rattle.crew_terms.specs.declared.TheConstants.{LONGEST_INPUT}
use Rattle.crew_io.specs.Fronts.{all_is_part}
use Rattle.crew_io.specs.Io.{Appended, AppendedPart}
use Rattle.crew_io.specs.Bytes.{OfBytes, piece_front}
use Rattle.crew_io.specs.Lines.{Reader, fresh_reader, rest_of, with_left}
use Rattle.crew_io.specs.Appends.{appended_none, appended_both}
use Rattle.dossier_terms.specs.declared.Reason.{Reason}
use Rattle.dossier_terms.specs.Dossier.{Dossier, IsGood}
use Rattle.dossier_terms.specs.Lines.{text_of}
use Rattle.dossier_terms.specs.Reading.{Form}
use Rattle.dossier_terms.specs.Texts.{no_line}
use Rattle.dossier_terms.specs.Accepted.{IsAccepted}
use Rattle.cert_checker.specs.Checked.{Checked, IsWholeAt, fresh_checker, verdict_of}
use Rattle.cert_checker.specs.declared.checker.Verdict.{Verdict}
use Rattle.cert_write.specs.declared.faults.PutFault.TheVariants as puts
use Rattle.dossier_commands.specs.Input.{Front, no_front, IsAcceptedBehind, Fresh, IsBetween, IsNextDossier, CanGoOn, IsRefusal, IsInterrupted, HasHandedOut, HasRead}
use Rattle.bundle_join.specs.Firsts.{IsDayOf}
use Rattle.bundle_join.specs.declared.day.Day.{Day}
use Rattle.bundle_write.specs.Pieces.{IsPieceOf, IsPiecePut, Piece}
use Rattle.bundle_write.specs.declared.piece.Job.{Job}
use Rattle.bundle_command.specs.Days.{IsToldBy}
use Rattle.bundle_command.specs.Pieces.{ArePiecesOf, AreTexts, HasNoneOpen, texts_of}
use Rattle.bundle_command.specs.Says.{SaysAt, SaysYes, SaysNo, SaysFront, SaysReadFault, Nothing, PieceFront, NoFront, ended_where}
use Rattle.bundle_command.specs.declared.command.PiecesEnded.{PiecesEnded}
use Rattle.bundle_command.specs.declared.command.PiecesEnded.TheVariants.{Proved, Open}

-- these dossiers are read, and their pieces are written; the flag tells whether none of these has one open
pub record HasSaid (job : Job) (input : List ℕ) (before : Option (List ℕ)) (flag : Bool) (reader : Reader) (left got : Option (List ℕ)) (at : Checked) : Type 0 where
  pub done : List Dossier
  pub between : IsBetween no_front input done reader left at
  pub pieces : List Piece
  pub text : List ℕ
  pub texts : AreTexts job done pieces text
  pub written : Appended before got text
  pub proved : IsTrue flag ↔ All HasNoneOpen pieces

-- where the source tells its bytes
abbrev pub HasSaidOf : Job → Option (List ℕ) → Option (List ℕ) → Bool → Reader → Option (List ℕ) → Option (List ℕ) → Checked → Type 0
HasSaidOf job left0 got0 flag reader left got at = IfSome left0 (λ input. HasSaid job input got0 flag reader left got at)

pub opens : (reader : Reader) (checker : Checked) → reader ≡ fresh_reader LONGEST_INPUT → checker ≡ fresh_checker → CanGoOn reader checker
opens reader checker e f = subst (λ r. CanGoOn r checker) (sym e) (subst (CanGoOn (fresh_reader LONGEST_INPUT)) (sym f) (record {
  going = record { going = refl; limit = refl; within = omega arith; few = omega arith };
  first = Fresh refl;
}))

-- nothing is read yet of an input
none_read : (input : List ℕ) → HasRead no_front input [] [] input Form
none_read input = record { text = refl; within = omega arith; good = All-nil _; each = All-nil _; leads = refl }

-- behind no front
accepted_of : (input : List ℕ) (done : List Dossier) → IsAcceptedBehind no_front input done → IsAccepted input done
accepted_of input done behind = subst (λ bytes. IsAccepted bytes done) (sym behind.text) behind.accepted

-- what is held, and what the source has left
unseen_of : (reader : Reader) (left : Option (List ℕ)) (rest : List ℕ) → rest_of reader left ≡ Some rest → (unseen : List ℕ) × (left ≡ Some unseen) × (rest ≡ reader.held ++ unseen)
unseen_of reader None rest e = absurd (cc)
unseen_of reader (Some unseen) rest e = (unseen, refl, cc)

-- ---- pieces of more dossiers

no_texts : (job : Job) → AreTexts job [] [] []
no_texts job = record { each = tt; is = refl }

pieces_more : (job : Job) (ds : List Dossier) (ps : List Piece) (d : Dossier) (p : Piece) → ArePiecesOf job ds ps → IsPieceOf job d p → ArePiecesOf job (ds ++ d ∷ []) (ps ++ p ∷ [])
pieces_more job [] [] d p are is = (is, tt)
pieces_more job [] (q ∷ ps) d p are is = absurd are
pieces_more job (e ∷ ds) [] d p are is = absurd are
pieces_more job (e ∷ ds) (q ∷ ps) d p are is = (are.0, pieces_more job ds ps d p are.1 is)

texts_more : (job : Job) (ds : List Dossier) (ps : List Piece) (text : List ℕ) (d : Dossier) (p : Piece) → AreTexts job ds ps text → IsPieceOf job d p
    → AreTexts job (ds ++ d ∷ []) (ps ++ p ∷ []) (text ++ p.text)
texts_more job ds ps text d p so is = record {
  each = pieces_more job ds ps d p so.each is;
  is = ap (λ x. x ++ p.text) so.is ∙ ap (λ x. texts_of ps ++ x) (sym (append-nil p.text))
      ∙ sym (flat_map-append (λ (q : Piece). q.text) ps (p ∷ []));
}

-- what is told of the dossier that was read is so
pub is_day : (checker : Checked) (verdict : Verdict) (bytes kept : List ℕ) (day : Day) (d : Dossier) → IsToldBy checker verdict bytes day → bytes ≡ kept → IsWholeAt checker.at d → IsGood d → kept ≡ text_of d
    → verdict ≡ verdict_of d → IsDayOf day d
is_day checker verdict bytes kept day d told same whole good text says = record {
  good = good;
  instance = told.instance d whole;
  text = told.bytes ∙ same ∙ text;
  unassigned = told.unassigned ∙ ap (λ (v : Verdict). v.unassigned) says;
  bound = told.bound ∙ ap (λ (v : Verdict). v.bound) says;
}

-- what was kept of the next dossier is its text
module _ (input : List ℕ) (done : List Dossier) (d : Dossier) (kept r0 r1 : List ℕ) where
  same_text : input ≡ (flat_map text_of done ++ []) ++ r0 → input ≡ (flat_map text_of (done ++ d ∷ []) ++ []) ++ r1 → r0 ≡ kept ++ r1 → kept ≡ text_of d
  same_text e f k =
      let before = flat_map text_of done in
      let there : input ≡ before ++ (kept ++ r1) = e ∙ ap (λ x. x ++ r0) (append-nil before) ∙ ap (λ x. before ++ x) k in
      let here : input ≡ before ++ (text_of d ++ r1) = f ∙ ap (λ x. x ++ r1) (append-nil (flat_map text_of (done ++ d ∷ [])) ∙ flat_map-append text_of done (d ∷ [])
      ∙ ap (λ x. before ++ x) (append-nil (text_of d))) ∙ append_assoc before (text_of d) r1 in
      append_cancel_right kept (text_of d) r1 (append_cancel_left before (kept ++ r1) (text_of d ++ r1) (sym there ∙ here))

told_rest : (old new : Option (List ℕ)) (kept r0 r1 : List ℕ) → old ≡ with_left kept new → old ≡ Some r0 → new ≡ Some r1 → r0 ≡ kept ++ r1
told_rest old new kept r0 r1 h e f = let g = sym e ∙ h ∙ ap (with_left kept) f in cc

kept_text : (input : List ℕ) (done : List Dossier) (old new : Reader) (left later : Option (List ℕ)) (at next : Checked) (verdict : Verdict) (kept : List ℕ)
    → (b : IsBetween no_front input done old left at) → (n : IsNextDossier no_front input done verdict new later next) → HasHandedOut old left kept new later → kept ≡ text_of n.dossier
kept_text input done old new left later at next verdict kept b n h =
    same_text input done n.dossier kept b.rest n.between.rest b.read.text n.between.read.text (told_rest (rest_of old left) (rest_of new later) kept b.rest n.between.rest h b.is n.between.is)

-- the flag tells whether one more has none open too
flag_more : (old new : Bool) (ps : List Piece) (p : Piece) → (IsTrue old ↔ All HasNoneOpen ps) → (IsTrue new ↔ (IsTrue old × IsTrue p.proved)) → IsTrue new ↔ All HasNoneOpen (ps ++ p ∷ [])
flag_more old new ps p so step = (
  (λ t. let s = step.0 t in All-push HasNoneOpen ps p (so.0 s.0) s.1),
  (λ all. step.1 (
    so.1 (λ k e l. All-contains HasNoneOpen (ps ++ p ∷ []) (get_or ps k e) all (Contains-append_left ps (p ∷ []) (get_or ps k e) (All-contains_itself ps k e l))),
    All-contains HasNoneOpen (ps ++ p ∷ []) p all (Contains-append_right ps (p ∷ []) p (All-contains_itself (p ∷ []) 0 p (omega arith))),
  )),
)

-- where all dossiers are good no fault is told
pub no_fault : {E : Type 0} (flag : Bool) (ended fault : PiecesEnded) → ended ≡ ended_where flag → (Proved ≡ fault → ⊥) → (Open ≡ fault → ⊥) → ◌≡◌ {A = Result PiecesEnded E} (Ok ended) (Ok fault) → ⊥
no_fault true ended fault e p q f = p (let g : ended ≡ fault = cc in sym e ∙ g)
no_fault false ended fault e p q f = q (let g : ended ≡ fault = cc in sym e ∙ g)

module _ (job : Job) where
  pub begins : (left got : Option (List ℕ)) (reader : Reader) (checker : Checked) → reader ≡ fresh_reader LONGEST_INPUT → checker ≡ fresh_checker → HasSaidOf job left got true reader left got checker
  begins None got reader checker e f = tt
  begins (Some input) got reader checker e f = subst (λ c. HasSaid job input got true reader (Some input) got c) (sym f) (subst (λ r. HasSaid job input got true r (Some input) got fresh_checker) (sym e) (record {
    done = [];
    between = record { rest = input; is = refl; read = none_read input; handed = refl; number = refl; ended = ((λ ended. absurd ended.1), (λ some. absurd (some refl))) };
    pieces = [];
    text = [];
    texts = no_texts job;
    written = appended_none got;
    proved = ((λ _. All-nil HasNoneOpen), (λ _. refl));
  }))

  pub front_none : (left got : Option (List ℕ)) → OfBytes left got got (SaysFront job)
  front_none None got = tt
  front_none (Some input) got = (
    [],
    appended_none got,
    record { dossiers = []; rest = input; read = none_read input; pieces = []; text = []; texts = no_texts job; part = []; next = Nothing refl; is = refl },
  )

-- behind the dossiers whose pieces are written
module _ (job : Job) (left0 got0 : Option (List ℕ)) (flag : Bool) (old : Reader) (left got : Option (List ℕ)) (at : Checked) (so : HasSaidOf job left0 got0 flag old left got at) where
  -- one dossier more, and its piece
  pub says_one_more : (new : Reader) (later added : Option (List ℕ)) (next : Checked) (verdict : Verdict) (kept : List ℕ) (now both : Bool)
      → ((front : Front) (input : List ℕ) (done : List Dossier) → IsBetween front input done old left at → IsNextDossier front input done verdict new later next)
      → HasHandedOut old left kept new later
      → ((d : Dossier) → IsWholeAt next.at d → IsGood d → kept ≡ text_of d → verdict ≡ verdict_of d → IsPiecePut job d (Ok now) got added)
      → (IsTrue both ↔ (IsTrue flag × IsTrue now)) → HasSaidOf job left0 got0 both new later added next
  says_one_more new later added next verdict kept now both is_next handed put step = by left0 so
    where
      by : (l : Option (List ℕ)) → HasSaidOf job l got0 flag old left got at → HasSaidOf job l got0 both new later added next
      by None so = tt
      by (Some input) so =
          let n = is_next no_front input so.done so.between in
          let p = put n.dossier n.whole n.true_yes.good (kept_text input so.done old new left later at next verdict kept so.between n handed) n.says in
          let piece : Piece = record { proved = now; text = p.0 } in
          record {
            done = so.done ++ n.dossier ∷ [];
            between = n.between;
            pieces = so.pieces ++ piece ∷ [];
            text = so.text ++ p.0;
            texts = texts_more job so.done so.pieces so.text n.dossier piece so.texts p.1;
            written = appended_both got0 got added so.text p.0 so.written p.2;
            proved = flag_more flag both so.pieces piece so.proved step;
          }

  -- the input has ended behind a dossier
  pub says_yes : (P : List Piece → Type 0) → ((pieces : List Piece) → (IsTrue flag ↔ All HasNoneOpen pieces) → P pieces)
      → ((front : Front) (input : List ℕ) (done : List Dossier) → IsBetween front input done old left at → IsAcceptedBehind front input done) → OfBytes left0 got0 got (SaysYes job P)
  says_yes P holds whole = by left0 so
    where
      by : (l : Option (List ℕ)) → HasSaidOf job l got0 flag old left got at → OfBytes l got0 got (SaysYes job P)
      by None so = tt
      by (Some input) so = (
        so.text,
        so.written,
        record { dossiers = so.done; accepted = accepted_of input so.done (whole no_front input so.done so.between); pieces = so.pieces; texts = so.texts; holds = holds so.pieces so.proved },
      )

  -- and what is told of it
  ends_so : (f : Bool) → f ≡ flag → (unseen : Option (List ℕ)) → ((front : Front) (input : List ℕ) (done : List Dossier) → IsBetween front input done old left at → IsAcceptedBehind front input done)
      → OfBytes left0 got0 got (SaysAt job (ended_where f) unseen)
  ends_so true e unseen whole = says_yes (All HasNoneOpen) (λ pieces so. so.0 (sym e)) whole
  ends_so false e unseen whole = says_yes (λ pieces. All HasNoneOpen pieces → ⊥) (λ pieces so all. absurd (let t = e ∙ so.1 all in cc)) whole

  pub says_end : (unseen : Option (List ℕ)) (ended : PiecesEnded) → ended ≡ ended_where flag
      → ((front : Front) (input : List ℕ) (done : List Dossier) → IsBetween front input done old left at → IsAcceptedBehind front input done) → OfBytes left0 got0 got (SaysAt job ended unseen)
  says_end unseen ended e whole = subst (λ x. OfBytes left0 got0 got (SaysAt job x unseen)) (sym e) (ends_so flag refl unseen whole)

  -- a line is refused behind these dossiers
  pub says_no : (added : Option (List ℕ)) (number : ℕ) (reason : Reason)
      → ((front : Front) (input : List ℕ) (done : List Dossier) (number : ℕ) (reason : Reason) (dossiers : List Dossier) → IsRefusal front input done number reason → IsAcceptedBehind front input dossiers → ⊥)
      → ((front : Front) (input : List ℕ) (done : List Dossier) → IsBetween front input done old left at → IsRefusal front input done number reason)
      → Appended got added (no_line number reason) → OfBytes left0 got0 added (SaysNo job)
  says_no added number reason law refused wrote = by left0 so
    where
      by : (l : Option (List ℕ)) → HasSaidOf job l got0 flag old left got at → OfBytes l got0 added (SaysNo job)
      by None so = tt
      by (Some input) so =
          let refusal = refused no_front input so.done so.between in (
            so.text ++ no_line number reason,
            appended_both got0 got added so.text (no_line number reason) so.written wrote,
            record {
              not_accepted = λ dossiers yes. law no_front input so.done number reason dossiers refusal (record { behind = input; text = refl; within = yes.size; accepted = yes });
              before = so.done;
              number = number;
              reason = reason;
              refusal = refusal;
              text = so.text;
              pieces = so.pieces;
              texts = so.texts;
              is = refl;
            },
          )

  -- no more was written
  pub front_so_far : OfBytes left0 got0 got (SaysFront job)
  front_so_far = by left0 so
    where
      by : (l : Option (List ℕ)) → HasSaidOf job l got0 flag old left got at → OfBytes l got0 got (SaysFront job)
      by None so = tt
      by (Some input) so = (
        so.text,
        so.written,
        record {
          dossiers = so.done;
          rest = so.between.rest;
          read = so.between.read;
          text = so.text;
          pieces = so.pieces;
          texts = so.texts;
          part = [];
          next = Nothing refl;
          is = sym (append-nil so.text);
        },
      )

  -- a read has failed
  pub says_read_fault : (new : Reader) (later : Option (List ℕ)) → ((front : Front) (input : List ℕ) (done : List Dossier) → IsBetween front input done old left at → IsInterrupted front input done new later)
      → OfBytes left0 got0 got (SaysReadFault job later)
  says_read_fault new later stopped = by left0 so
    where
      by : (l : Option (List ℕ)) → HasSaidOf job l got0 flag old left got at → OfBytes l got0 got (SaysReadFault job later)
      by None so = tt
      by (Some input) so =
          let i = stopped no_front input so.done so.between in
          let u = unseen_of new later i.rest i.is in (
            so.text,
            so.written,
            record {
              dossiers = so.done;
              lines = i.lines;
              due = i.due;
              part = new.held;
              rest = u.0;
              left = u.1;
              read = subst (λ rest. HasRead no_front input so.done i.lines rest i.due) u.2 i.read;
              front = i.part;
              pieces = so.pieces;
              texts = so.texts;
            },
          )

  -- a front of one more piece was written
  pub front_piece : (new : Reader) (later added : Option (List ℕ)) (next : Checked) (verdict : Verdict) (kept : List ℕ)
      → ((front : Front) (input : List ℕ) (done : List Dossier) → IsBetween front input done old left at → IsNextDossier front input done verdict new later next)
      → HasHandedOut old left kept new later
      → ((d : Dossier) → IsWholeAt next.at d → IsGood d → kept ≡ text_of d → verdict ≡ verdict_of d → IsPiecePut job d (Err puts.WriteFault) got added) → OfBytes left0 got0 added (SaysFront job)
  front_piece new later added next verdict kept is_next handed put = by left0 so
    where
      by : (l : Option (List ℕ)) → HasSaidOf job l got0 flag old left got at → OfBytes l got0 added (SaysFront job)
      by None so = tt
      by (Some input) so =
          let n = is_next no_front input so.done so.between in
          let p = put n.dossier n.whole n.true_yes.good (kept_text input so.done old new left later at next verdict kept so.between n handed) n.says in
          let w = piece_front got0 got added so.text p.0.text so.written p.2 in (
            so.text ++ take w.0 p.0.text,
            w.2,
            record {
              dossiers = so.done;
              rest = so.between.rest;
              read = so.between.read;
              pieces = so.pieces;
              text = so.text;
              texts = so.texts;
              part = take w.0 p.0.text;
              next = PieceFront n.dossier n.between.rest n.between.read p.0 p.1 w.0 refl;
              is = refl;
            },
          )

  -- nothing of one more piece was written
  pub front_same : (new : Reader) (later added : Option (List ℕ)) (next : Checked) (verdict : Verdict) (kept : List ℕ)
      → ((front : Front) (input : List ℕ) (done : List Dossier) → IsBetween front input done old left at → IsNextDossier front input done verdict new later next)
      → HasHandedOut old left kept new later
      → ((d : Dossier) → IsWholeAt next.at d → IsGood d → kept ≡ text_of d → verdict ≡ verdict_of d → added ≡ got) → OfBytes left0 got0 added (SaysFront job)
  front_same new later added next verdict kept is_next handed put = by left0 so
    where
      by : (l : Option (List ℕ)) → HasSaidOf job l got0 flag old left got at → OfBytes l got0 added (SaysFront job)
      by None so = tt
      by (Some input) so =
          let n = is_next no_front input so.done so.between in
          let same = put n.dossier n.whole n.true_yes.good (kept_text input so.done old new left later at next verdict kept so.between n handed) n.says in (
            so.text,
            subst (λ g. Appended got0 g so.text) (sym same) so.written,
            record {
              dossiers = so.done;
              rest = so.between.rest;
              read = so.between.read;
              pieces = so.pieces;
              text = so.text;
              texts = so.texts;
              part = [];
              next = Nothing refl;
              is = sym (append-nil so.text);
            },
          )

  -- a front of the no line was written
  pub front_no : (added : Option (List ℕ)) (number : ℕ) (reason : Reason) → ((front : Front) (input : List ℕ) (done : List Dossier) → IsBetween front input done old left at → IsRefusal front input done number reason)
      → AppendedPart got added (no_line number reason) → OfBytes left0 got0 added (SaysFront job)
  front_no added number reason refused wrote = by left0 so
    where
      by : (l : Option (List ℕ)) → HasSaidOf job l got0 flag old left got at → OfBytes l got0 added (SaysFront job)
      by None so = tt
      by (Some input) so =
          let w = piece_front got0 got added so.text (no_line number reason) so.written wrote in (
            so.text ++ take w.0 (no_line number reason),
            w.2,
            record {
              dossiers = so.done;
              rest = so.between.rest;
              read = so.between.read;
              text = so.text;
              pieces = so.pieces;
              texts = so.texts;
              part = take w.0 (no_line number reason);
              next = NoFront number reason (refused no_front input so.done so.between) w.0 refl;
              is = refl;
            },
          )

  -- the whole no line was written
  pub whole_no : (added : Option (List ℕ)) (number : ℕ) (reason : Reason) → ((front : Front) (input : List ℕ) (done : List Dossier) → IsBetween front input done old left at → IsRefusal front input done number reason)
      → Appended got added (no_line number reason) → OfBytes left0 got0 added (SaysFront job)
  whole_no added number reason refused wrote = front_no added number reason refused (all_is_part got added (no_line number reason) wrote)
