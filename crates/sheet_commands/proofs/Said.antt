-- what is written for the sheets of an input, one after another
use Rattle.std.proofs.Common.{◌≡◌, ◌++◌, ℕ, List, [], ◌∷◌, take, Option, None, Some, Result, Ok, ap, subst, sym, refl, ◌∙◌, arith, append-nil}
use Rattle.std.specs.Prelude.{All, IfSome}
use Rattle.std.specs.List.{flat_map}
use Rattle.std.proofs.lemmas.List.Concat.{flat_map-append}
use Rattle.std.proofs.lemmas.List.Elements.{All-nil, All-push}
use Rattle.crew_terms.specs.declared.TheConstants.{LONGEST_INPUT}
use Rattle.crew_io.specs.Fronts.{all_is_part}
use Rattle.crew_io.specs.Io.{Appended, AppendedPart}
use Rattle.crew_io.specs.Bytes.{OfBytes, piece_front}
use Rattle.crew_io.specs.Lines.{Reader, fresh_reader, rest_of}
use Rattle.crew_io.specs.Appends.{appended_none, appended_both}
use Rattle.dossier_terms.specs.declared.Reason.{Reason}
use Rattle.dossier_terms.specs.Texts.{no_line}
use Rattle.sheet_terms.specs.Lines.{yes_bound_line}
use Rattle.sheet_terms.specs.Reading.{First}
use Rattle.sheet_terms.specs.Sheet.{Sheet, IsGoodSheet}
use Rattle.sheet_texts.specs.Accepted.{AreAcceptedSheets}
use Rattle.sheet_checker.specs.Checked.{Checked, fresh_checker}
use Rattle.sheet_checker.specs.declared.checker.State.TheVariants as states
use Rattle.sheet_commands.specs.Input.{Fresh, IsBetween, IsNextSheet, IsTrueSheet, CanGoOn, IsRefusal, IsInterrupted, HasRead}
use Rattle.sheet_commands.specs.declared.input.Outcome.{Outcome}
use Rattle.sheet_commands.specs.declared.input.Outcome.TheVariants.{Yes, ReadFault}
use Rattle.sheet_commands.specs.Says.{SaysYes, SaysNo, SaysFront, SaysReadFault, SaysLines, Nothing, YesFront, NoFront, yes_of}

-- these sheets are read, and their yes lines are written
pub record HasSaid (input : List ℕ) (before : Option (List ℕ)) (reader : Reader) (left got : Option (List ℕ)) (at : Checked) : Type 0 where
  pub done : List Sheet
  pub between : IsBetween input done reader left at
  pub written : Appended before got (flat_map yes_of done)
  pub each : All IsTrueSheet done

-- where the source tells its bytes
abbrev pub HasSaidOf : Option (List ℕ) → Option (List ℕ) → Reader → Option (List ℕ) → Option (List ℕ) → Checked → Type 0
HasSaidOf left0 got0 reader left got at = IfSome left0 (λ input. HasSaid input got0 reader left got at)

pub opens : (reader : Reader) (checker : Checked) → reader ≡ fresh_reader LONGEST_INPUT → checker ≡ fresh_checker → CanGoOn reader checker
opens reader checker e f = subst (λ r. CanGoOn r checker) (sym e) (subst (CanGoOn (fresh_reader LONGEST_INPUT)) (sym f) (record {
  going = record { going = refl; limit = refl; within = omega arith; few = omega arith };
  first = Fresh refl;
}))

-- nothing is read yet of an input
none_read : (input : List ℕ) → HasRead input [] [] input First
none_read input = record { text = refl; within = omega arith; good = All-nil _; each = All-nil _; leads = refl }

-- what is held, and what the source has left
unseen_of : (reader : Reader) (left : Option (List ℕ)) (rest : List ℕ) → rest_of reader left ≡ Some rest → (unseen : List ℕ) × (left ≡ Some unseen) × (rest ≡ reader.held ++ unseen)
unseen_of reader None rest e = absurd (cc)
unseen_of reader (Some unseen) rest e = (unseen, refl, cc)

pub begins : (left got : Option (List ℕ)) (reader : Reader) (checker : Checked) → reader ≡ fresh_reader LONGEST_INPUT → checker ≡ fresh_checker → HasSaidOf left got reader left got checker
begins None got reader checker e f = tt
begins (Some input) got reader checker e f = subst (λ c. HasSaid input got reader (Some input) got c) (sym f) (subst (λ r. HasSaid input got r (Some input) got fresh_checker) (sym e) (record {
  done = [];
  between = record { rest = input; is = refl; read = none_read input; handed = refl; number = refl; ended = ((λ ended. absurd (cc)), (λ some. absurd (some refl))) };
  written = appended_none got;
  each = All-nil IsTrueSheet;
}))

pub lines_none : (left got : Option (List ℕ)) → OfBytes left got got SaysLines
lines_none None got = tt
lines_none (Some input) got = (
  [],
  appended_none got,
  record { sheets = []; rest = input; read = none_read input; texts = refl; each = All-nil IsTrueSheet },
)

pub front_none : (left got : Option (List ℕ)) → OfBytes left got got SaysFront
front_none None got = tt
front_none (Some input) got = (
  [],
  appended_none got,
  record { sheets = []; rest = input; read = none_read input; each = All-nil IsTrueSheet; part = []; texts = refl; next = Nothing refl },
)

-- behind the sheets whose yes lines are written
module _ (left0 got0 : Option (List ℕ)) (old : Reader) (left got : Option (List ℕ)) (at : Checked) (so : HasSaidOf left0 got0 old left got at) where
  -- one sheet more, and its yes line
  pub says_one_more : (new : Reader) (later added : Option (List ℕ)) (next : Checked) (l : ℕ)
      → ((input : List ℕ) (done : List Sheet) → IsBetween input done old left at → IsNextSheet input done l new later next)
      → Appended got added (yes_bound_line l) → HasSaidOf left0 got0 new later added next
  says_one_more new later added next l is_next wrote = by left0 so
    where
      by : (told : Option (List ℕ)) → HasSaidOf told got0 old left got at → HasSaidOf told got0 new later added next
      by None so = tt
      by (Some input) so =
          let n = is_next input so.done so.between in
          let d = n.sheet in
          let texts : flat_map yes_of so.done ++ yes_of d ≡ flat_map yes_of (so.done ++ d ∷ []) =
          ap (λ x. flat_map yes_of so.done ++ x) (sym (append-nil (yes_of d))) ∙ sym (flat_map-append yes_of so.done (d ∷ [])) in
          record {
            done = so.done ++ d ∷ [];
            between = n.between;
            written = subst (λ bytes. Appended got0 added bytes) texts (appended_both got0 got added (flat_map yes_of so.done) (yes_of d) so.written (subst (Appended got added) (ap yes_bound_line n.says) wrote));
            each = All-push IsTrueSheet so.done d so.each n.true_yes;
          }

  -- the input has ended behind a sheet
  pub says_yes : ((input : List ℕ) (done : List Sheet) → IsBetween input done old left at → AreAcceptedSheets input done) → OfBytes left0 got0 got SaysYes
  says_yes whole = by left0 so
    where
      by : (told : Option (List ℕ)) → HasSaidOf told got0 old left got at → OfBytes told got0 got SaysYes
      by None so = tt
      by (Some input) so = (flat_map yes_of so.done, so.written, record { sheets = so.done; accepted = whole input so.done so.between; texts = refl; each = so.each })

  -- a line is refused behind these sheets
  pub says_no : (added : Option (List ℕ)) (number : ℕ) (reason : Reason)
      → ((input : List ℕ) (done : List Sheet) (number : ℕ) (reason : Reason) (sheets : List Sheet) → IsRefusal input done number reason → AreAcceptedSheets input sheets → ⊥)
      → ((input : List ℕ) (done : List Sheet) → IsBetween input done old left at → IsRefusal input done number reason)
      → Appended got added (no_line number reason) → OfBytes left0 got0 added SaysNo
  says_no added number reason law refused wrote = by left0 so
    where
      by : (told : Option (List ℕ)) → HasSaidOf told got0 old left got at → OfBytes told got0 added SaysNo
      by None so = tt
      by (Some input) so =
          let refusal = refused input so.done so.between in (
            flat_map yes_of so.done ++ no_line number reason,
            appended_both got0 got added (flat_map yes_of so.done) (no_line number reason) so.written wrote,
            record {
              not_accepted = λ sheets yes. law input so.done number reason sheets refusal yes;
              before = so.done;
              number = number;
              reason = reason;
              refusal = refusal;
              texts = refl;
              each = so.each;
            },
          )

  -- no more was written
  pub front_so_far : OfBytes left0 got0 got SaysFront
  front_so_far = by left0 so
    where
      by : (told : Option (List ℕ)) → HasSaidOf told got0 old left got at → OfBytes told got0 got SaysFront
      by None so = tt
      by (Some input) so = (
        flat_map yes_of so.done,
        so.written,
        record {
          sheets = so.done;
          rest = so.between.rest;
          read = so.between.read;
          each = so.each;
          part = [];
          texts = sym (append-nil (flat_map yes_of so.done));
          next = Nothing refl;
        },
      )

  -- memory was wanting
  pub says_lines : OfBytes left0 got0 got SaysLines
  says_lines = by left0 so
    where
      by : (told : Option (List ℕ)) → HasSaidOf told got0 old left got at → OfBytes told got0 got SaysLines
      by None so = tt
      by (Some input) so = (
        flat_map yes_of so.done,
        so.written,
        record { sheets = so.done; rest = so.between.rest; read = so.between.read; texts = refl; each = so.each },
      )

  -- a read has failed
  pub says_read_fault : (new : Reader) (later : Option (List ℕ)) → ((input : List ℕ) (done : List Sheet) → IsBetween input done old left at → IsInterrupted input done new later)
      → OfBytes left0 got0 got (SaysReadFault later)
  says_read_fault new later stopped = by left0 so
    where
      by : (told : Option (List ℕ)) → HasSaidOf told got0 old left got at → OfBytes told got0 got (SaysReadFault later)
      by None so = tt
      by (Some input) so =
          let i = stopped input so.done so.between in
          let u = unseen_of new later i.rest i.is in (
            flat_map yes_of so.done,
            so.written,
            record {
              sheets = so.done;
              lines = i.lines;
              due = i.due;
              part = new.held;
              rest = u.0;
              left = u.1;
              read = subst (λ rest. HasRead input so.done i.lines rest i.due) u.2 i.read;
              front = i.part;
              texts = refl;
              each = so.each;
            },
          )

  -- a front of one more yes line was written
  pub front_yes : (new : Reader) (later added : Option (List ℕ)) (next : Checked) (l : ℕ)
      → ((input : List ℕ) (done : List Sheet) → IsBetween input done old left at → IsNextSheet input done l new later next)
      → AppendedPart got added (yes_bound_line l) → OfBytes left0 got0 added SaysFront
  front_yes new later added next l is_next wrote = by left0 so
    where
      by : (told : Option (List ℕ)) → HasSaidOf told got0 old left got at → OfBytes told got0 added SaysFront
      by None so = tt
      by (Some input) so =
          let n = is_next input so.done so.between in
          let d = n.sheet in
          let w = piece_front got0 got added (flat_map yes_of so.done) (yes_of d) so.written (subst (AppendedPart got added) (ap yes_bound_line n.says) wrote) in (
            flat_map yes_of so.done ++ take w.0 (yes_of d),
            w.2,
            record {
              sheets = so.done;
              rest = so.between.rest;
              read = so.between.read;
              each = so.each;
              part = take w.0 (yes_of d);
              texts = refl;
              next = YesFront d n.between.rest n.between.read n.true_yes w.0 refl;
            },
          )

  -- a front of the no line was written
  pub front_no : (added : Option (List ℕ)) (number : ℕ) (reason : Reason) → ((input : List ℕ) (done : List Sheet) → IsBetween input done old left at → IsRefusal input done number reason)
      → AppendedPart got added (no_line number reason) → OfBytes left0 got0 added SaysFront
  front_no added number reason refused wrote = by left0 so
    where
      by : (told : Option (List ℕ)) → HasSaidOf told got0 old left got at → OfBytes told got0 added SaysFront
      by None so = tt
      by (Some input) so =
          let w = piece_front got0 got added (flat_map yes_of so.done) (no_line number reason) so.written wrote in (
            flat_map yes_of so.done ++ take w.0 (no_line number reason),
            w.2,
            record {
              sheets = so.done;
              rest = so.between.rest;
              read = so.between.read;
              each = so.each;
              part = take w.0 (no_line number reason);
              texts = refl;
              next = NoFront number reason (refused input so.done so.between) w.0 refl;
            },
          )

  -- the whole no line was written
  pub whole_no : (added : Option (List ℕ)) (number : ℕ) (reason : Reason) → ((input : List ℕ) (done : List Sheet) → IsBetween input done old left at → IsRefusal input done number reason)
      → Appended got added (no_line number reason) → OfBytes left0 got0 added SaysFront
  whole_no added number reason refused wrote = front_no added number reason refused (all_is_part got added (no_line number reason) wrote)
