-- what is written for the bundles of an input, one after another
use Rattle.std.proofs.Common.{◌≡◌, ◌++◌, ℕ, List, [], ◌∷◌, take, Option, None, Some, ap, subst, sym, refl, ◌∙◌, arith, append-nil}
use Rattle.std.specs.Prelude.{All, IfSome}
use Rattle.std.specs.List.{flat_map}
use Rattle.std.proofs.lemmas.List.Concat.{flat_map-append}
use Rattle.std.proofs.lemmas.List.Elements.{All-nil, All-push}
use Rattle.crew_terms.specs.declared.TheConstants.{LONGEST_INPUT}
use Rattle.crew_io.specs.Fronts.{all_is_part}
use Rattle.crew_io.specs.Io.{Appended, AppendedPart}
use Rattle.crew_io.specs.Bytes.{OfBytes, piece_front}
use Rattle.crew_io.specs.Lines.{Reader, fresh_reader}
use Rattle.crew_io.specs.Appends.{appended_none, appended_both}
use Rattle.dossier_commands.specs.Input.{IsGoing}
use Rattle.part_texts.specs.Accepted.{AreBundles}
use Rattle.part_texts.specs.Bundle.{Bundle, IsGoodBundle, IsTrueBundle}
use Rattle.part_texts.specs.Lines.{yes_parts_line, yes_text}
use Rattle.parts_reader.specs.declared.bundle.BundleVerdict.{BundleVerdict}
use Rattle.parts_reader.specs.declared.reason.BundleReason.{BundleReason}
use Rattle.parts_reader.specs.Input.{Fresh, HasBegun, IsBetween, IsInterrupted, IsNextBundle, IsRefusal}
use Rattle.parts_command.specs.Texts.{no_bundle_line}
use Rattle.parts_command.specs.Says.{SaysYes, SaysNo, SaysFront, SaysReadFault, SaysLines, Nothing, YesFront, NoFront}

-- the yes line of what a bundle says
abbrev pub yes_of : BundleVerdict → List ℕ
yes_of v = yes_parts_line v.unassigned v.bound v.parts

-- these bundles are read, and their yes lines are written
pub record HasSaid (input : List ℕ) (before : Option (List ℕ)) (reader : Reader) (left got : Option (List ℕ)) (at : ℕ) : Type 0 where
  pub done : List Bundle
  pub between : IsBetween input done reader left at
  pub written : Appended before got (flat_map yes_text done)
  pub each : All IsTrueBundle done

-- where the source tells its bytes
abbrev pub HasSaidOf : Option (List ℕ) → Option (List ℕ) → Reader → Option (List ℕ) → Option (List ℕ) → ℕ → Type 0
HasSaidOf left0 got0 reader left got at = IfSome left0 (λ input. HasSaid input got0 reader left got at)

pub opens : (reader : Reader) → reader ≡ fresh_reader LONGEST_INPUT → IsGoing reader 0
opens reader e = subst (λ r. IsGoing r 0) (sym e) (record { going = refl; limit = refl; within = omega arith; few = omega arith })

-- nothing is read yet of an input
none_read : (input : List ℕ) → HasBegun input [] Fresh input
none_read input = record { text = refl; within = omega arith; good = All-nil IsGoodBundle; begins = tt }

pub begins : (left got : Option (List ℕ)) (reader : Reader) → reader ≡ fresh_reader LONGEST_INPUT → HasSaidOf left got reader left got 0
begins None got reader e = tt
begins (Some input) got reader e = subst (λ r. HasSaid input got r (Some input) got 0) (sym e) (record {
  done = [];
  between = record { rest = input; is = refl; read = none_read input; handed = refl; number = refl };
  written = appended_none got;
  each = All-nil IsTrueBundle;
})

pub lines_none : (left got : Option (List ℕ)) → OfBytes left got got SaysLines
lines_none None got = tt
lines_none (Some input) got = (
  [],
  appended_none got,
  record { bundles = []; rest = input; read = none_read input; texts = refl; each = All-nil IsTrueBundle },
)

pub front_none : (left got : Option (List ℕ)) → OfBytes left got got SaysFront
front_none None got = tt
front_none (Some input) got = (
  [],
  appended_none got,
  record { bundles = []; rest = input; read = none_read input; each = All-nil IsTrueBundle; part = []; texts = refl; next = Nothing refl },
)

-- behind the bundles whose yes lines are written
module _ (left0 got0 : Option (List ℕ)) (old : Reader) (left got : Option (List ℕ)) (at : ℕ) (so : HasSaidOf left0 got0 old left got at) where
  -- one bundle more, and its yes line
  pub says_one_more : (new : Reader) (later added : Option (List ℕ)) (next : ℕ) (v : BundleVerdict)
      → ((input : List ℕ) (done : List Bundle) → IsBetween input done old left at → IsNextBundle input done v new later next)
      → Appended got added (yes_of v) → HasSaidOf left0 got0 new later added next
  says_one_more new later added next l is_next wrote = by left0 so
    where
      by : (told : Option (List ℕ)) → HasSaidOf told got0 old left got at → HasSaidOf told got0 new later added next
      by None so = tt
      by (Some input) so =
          let n = is_next input so.done so.between in
          let d = n.bundle in
          let texts : flat_map yes_text so.done ++ yes_text d ≡ flat_map yes_text (so.done ++ d ∷ []) =
          ap (λ x. flat_map yes_text so.done ++ x) (sym (append-nil (yes_text d))) ∙ sym (flat_map-append yes_text so.done (d ∷ [])) in
          record {
            done = so.done ++ d ∷ [];
            between = n.between;
            written = subst (λ bytes. Appended got0 added bytes) texts (appended_both got0 got added (flat_map yes_text so.done) (yes_text d) so.written (subst (Appended got added) (ap yes_of n.says) wrote));
            each = All-push IsTrueBundle so.done d so.each n.true_yes;
          }

  -- the input has ended behind a bundle
  pub says_yes : ((input : List ℕ) (done : List Bundle) → IsBetween input done old left at → AreBundles input done) → OfBytes left0 got0 got SaysYes
  says_yes whole = by left0 so
    where
      by : (told : Option (List ℕ)) → HasSaidOf told got0 old left got at → OfBytes told got0 got SaysYes
      by None so = tt
      by (Some input) so = (flat_map yes_text so.done, so.written, record { bundles = so.done; accepted = whole input so.done so.between; texts = refl; each = so.each })

  -- a line is refused behind these bundles
  pub says_no : (added : Option (List ℕ)) (number : ℕ) (reason : BundleReason)
      → ((input : List ℕ) (done bundles : List Bundle) (number : ℕ) (reason : BundleReason) → IsRefusal input done number reason → AreBundles input bundles → ⊥)
      → ((input : List ℕ) (done : List Bundle) → IsBetween input done old left at → IsRefusal input done number reason)
      → Appended got added (no_bundle_line number reason) → OfBytes left0 got0 added SaysNo
  says_no added number reason law refused wrote = by left0 so
    where
      by : (told : Option (List ℕ)) → HasSaidOf told got0 old left got at → OfBytes told got0 added SaysNo
      by None so = tt
      by (Some input) so =
          let refusal = refused input so.done so.between in (
            flat_map yes_text so.done ++ no_bundle_line number reason,
            appended_both got0 got added (flat_map yes_text so.done) (no_bundle_line number reason) so.written wrote,
            record {
              not_accepted = λ bundles yes. law input so.done bundles number reason refusal yes;
              before = so.done;
              number = number;
              reason = reason;
              refusal = refusal;
              texts = refl;
              each = so.each;
            },
          )

  -- no more was written
  pub front_so_far : OfBytes left0 got0 got SaysFront
  front_so_far = by left0 so
    where
      by : (told : Option (List ℕ)) → HasSaidOf told got0 old left got at → OfBytes told got0 got SaysFront
      by None so = tt
      by (Some input) so = (
        flat_map yes_text so.done,
        so.written,
        record {
          bundles = so.done;
          rest = so.between.rest;
          read = so.between.read;
          each = so.each;
          part = [];
          texts = sym (append-nil (flat_map yes_text so.done));
          next = Nothing refl;
        },
      )

  -- memory was wanting
  pub says_lines : OfBytes left0 got0 got SaysLines
  says_lines = by left0 so
    where
      by : (told : Option (List ℕ)) → HasSaidOf told got0 old left got at → OfBytes told got0 got SaysLines
      by None so = tt
      by (Some input) so = (
        flat_map yes_text so.done,
        so.written,
        record { bundles = so.done; rest = so.between.rest; read = so.between.read; texts = refl; each = so.each },
      )

  -- a read has failed
  pub says_read_fault : (later : Option (List ℕ)) → ((input : List ℕ) (done : List Bundle) → IsBetween input done old left at → IsInterrupted input done later)
      → OfBytes left0 got0 got (SaysReadFault later)
  says_read_fault later stopped = by left0 so
    where
      by : (told : Option (List ℕ)) → HasSaidOf told got0 old left got at → OfBytes told got0 got (SaysReadFault later)
      by None so = tt
      by (Some input) so = (
        flat_map yes_text so.done,
        so.written,
        record { bundles = so.done; read = stopped input so.done so.between; texts = refl; each = so.each },
      )

  -- a front of one more yes line was written
  pub front_yes : (new : Reader) (later added : Option (List ℕ)) (next : ℕ) (v : BundleVerdict)
      → ((input : List ℕ) (done : List Bundle) → IsBetween input done old left at → IsNextBundle input done v new later next)
      → AppendedPart got added (yes_of v) → OfBytes left0 got0 added SaysFront
  front_yes new later added next l is_next wrote = by left0 so
    where
      by : (told : Option (List ℕ)) → HasSaidOf told got0 old left got at → OfBytes told got0 added SaysFront
      by None so = tt
      by (Some input) so =
          let n = is_next input so.done so.between in
          let d = n.bundle in
          let w = piece_front got0 got added (flat_map yes_text so.done) (yes_text d) so.written (subst (AppendedPart got added) (ap yes_of n.says) wrote) in (
            flat_map yes_text so.done ++ take w.0 (yes_text d),
            w.2,
            record {
              bundles = so.done;
              rest = so.between.rest;
              read = so.between.read;
              each = so.each;
              part = take w.0 (yes_text d);
              texts = refl;
              next = YesFront d n.between.rest n.between.read n.true_yes w.0 refl;
            },
          )

  -- a front of the no line was written
  pub front_no : (added : Option (List ℕ)) (number : ℕ) (reason : BundleReason) → ((input : List ℕ) (done : List Bundle) → IsBetween input done old left at → IsRefusal input done number reason)
      → AppendedPart got added (no_bundle_line number reason) → OfBytes left0 got0 added SaysFront
  front_no added number reason refused wrote = by left0 so
    where
      by : (told : Option (List ℕ)) → HasSaidOf told got0 old left got at → OfBytes told got0 added SaysFront
      by None so = tt
      by (Some input) so =
          let w = piece_front got0 got added (flat_map yes_text so.done) (no_bundle_line number reason) so.written wrote in (
            flat_map yes_text so.done ++ take w.0 (no_bundle_line number reason),
            w.2,
            record {
              bundles = so.done;
              rest = so.between.rest;
              read = so.between.read;
              each = so.each;
              part = take w.0 (no_bundle_line number reason);
              texts = refl;
              next = NoFront number reason (refused input so.done so.between) w.0 refl;
            },
          )

  -- the whole no line was written
  pub whole_no : (added : Option (List ℕ)) (number : ℕ) (reason : BundleReason) → ((input : List ℕ) (done : List Bundle) → IsBetween input done old left at → IsRefusal input done number reason)
      → Appended got added (no_bundle_line number reason) → OfBytes left0 got0 added SaysFront
  whole_no added number reason refused wrote = front_no added number reason refused (all_is_part got added (no_bundle_line number reason) wrote)
