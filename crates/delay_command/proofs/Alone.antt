-- one dossier behind a front, and what comes after it
use Rattle.std.proofs.Common.{◌≡◌, ◌≢◌, ◌≤◌, ◌<◌, ◌+◌, ◌++◌, ℕ, zero, suc, List, [], ◌∷◌, length, Option, None, Some, Result, Ok, Err, ap, subst, sym, refl, ◌∙◌, arith, length-append, append-nil}
use Rattle.std.specs.Prelude.{All, IfOk, MatchResult}
use Rattle.std.specs.List.{flat_map}
use Rattle.crew_terms.specs.declared.TheConstants.{LONGEST_INPUT}
use Rattle.crew_io.specs.Io.{HasEnded}
use Rattle.crew_io.specs.Lines.{Reader, Advances, AnswersTold, Answers as Finds, IsPartial, allowance, rest_of}
use Rattle.crew_io.specs.declared.lines.Progress.{Progress}
use Rattle.crew_io.specs.declared.lines.Progress.TheVariants as progress
use Rattle.dossier_terms.specs.declared.Reason.TheVariants.{Shape}
use Rattle.dossier_terms.specs.Dossier.{Dossier, IsGood}
use Rattle.dossier_terms.specs.Lines.{text_of}
use Rattle.dossier_terms.specs.Reading.{Form}
use Rattle.cert_checker.specs.Checked.{Checked, IsTrueYes, IsWholeAt}
use Rattle.dossier_commands.specs.Input.{Front, IsAcceptedBehind, IsBetween, IsGoing, IsInterrupted, lines_before, room_after, text_before}
use Rattle.late_lines.specs.declared.halt.Halt.{Halt}
use Rattle.late_lines.specs.declared.halt.Halt.TheVariants as halts
use Rattle.delay_command.specs.Alone.{AfterDossier, AmidDossier, HaltsBehind, IsAlone, IsInterruptedBehind, PastDossier, halt_behind}

-- what is held, and what the source has left
unseen_of : (reader : Reader) (left : Option (List ℕ)) (rest : List ℕ) → rest_of reader left ≡ Some rest → (unseen : List ℕ) × (left ≡ Some unseen) × (rest ≡ reader.held ++ unseen)
unseen_of reader None rest e = absurd (cc)
unseen_of reader (Some unseen) rest e = (unseen, refl, cc)

no_bytes : (rest : List ℕ) → length rest ≡ 0 → rest ≡ []
no_bytes [] e = refl
no_bytes (x ∷ rest) e = absurd (omega arith)

some_bytes : (rest : List ℕ) → 0 < length rest → rest ≢ []
some_bytes rest l e = let n = ap length e in absurd (omega (arith, l, n))

-- a read failed amid the dossier
pub cut_amid : (front : Front) (input : List ℕ) (reader : Reader) (left : Option (List ℕ)) → IsInterrupted front input [] reader left → IsInterruptedBehind front input left
cut_amid front input reader left i =
    let u = unseen_of reader left i.rest i.is in
    record {
      part = reader.held;
      unseen = u.0;
      rest = u.1;
      read = AmidDossier i.lines i.due (record {
        text = i.read.text ∙ ap (λ x. text_before front [] i.lines ++ x) u.2;
        within = i.read.within;
        good = i.read.good;
        each = i.read.each;
        leads = i.read.leads;
      }) i.part;
    }

-- where nothing more comes the reader has come to the end
pub over : (line : ℕ) (answer : Progress) → halt_behind line answer ≡ None → answer ≡ progress.End 0
over line progress.Line is = absurd (cc)
over line progress.TooLong is = absurd (cc)
over line progress.TooMuch is = absurd (cc)
over line (progress.End zero) is = refl
over line (progress.End (suc partial)) is = absurd (cc)
over line progress.ReadFault is = absurd (cc)

-- behind a dossier
module _ (front : Front) (input : List ℕ) (d : Dossier) (old new : Reader) (left later : Option (List ℕ)) (checker : Checked)
    (limit : old.limit ≡ LONGEST_INPUT) (b : IsBetween front input (d ∷ []) old left checker) (line : ℕ) (is_line : line ≡ checker.lines + 1) where
  found : (answer : Progress) → Advances old left answer new later → (after : List ℕ) × (rest_of new later ≡ Some after) × Finds (room_after front (d ∷ []) []) b.rest answer new.line after
  found answer a =
      let room : allowance old ≡ room_after front (d ∷ []) [] = (let h = b.handed in omega arith) in
      subst (λ n. AnswersTold n (Some b.rest) answer new.line (rest_of new later)) room
      (subst (λ o. AnswersTold (allowance old) o answer new.line (rest_of new later)) b.is a.rest)

  -- nothing comes
  pub alone : Advances old left (progress.End 0) new later → IsAcceptedBehind front input (d ∷ [])
  alone a =
      let f = found (progress.End 0) a in
      let none : b.rest ≡ [] = no_bytes b.rest (sym f.2.0.count) in
      let behind = flat_map text_of (d ∷ []) in
      let text : input ≡ front.text ++ behind = b.read.text ∙ ap (λ x. text_before front (d ∷ []) [] ++ x) none ∙ append-nil (text_before front (d ∷ []) [])
      ∙ ap (λ x. front.text ++ x) (append-nil behind) in
      let size = ap length text in
      let sum = length-append front.text behind in
      let same = ap (λ x. length (front.text ++ x)) (append-nil behind) in
      let within = b.read.within in
      record {
        behind = behind;
        text = text;
        within = omega (arith, size, same, within);
        accepted = record { size = omega (arith, sum, same, within); some = λ e. absurd (cc); good = b.read.good; text = refl };
      }

  too_much : (halt : Halt) → 0 < length b.rest → halts.No line Shape ≡ halt → HaltsBehind front input later halt
  too_much halt more e = subst (HaltsBehind front input later) e (AfterDossier d b.rest b.read (some_bytes b.rest more) (let n = b.number in omega (arith, n, is_line)) refl)

  pub halts_after : (answer : Progress) → Advances old left answer new later → (halt : Halt) → halt_behind line answer ≡ Some halt → HaltsBehind front input later halt
  halts_after progress.Line a halt is =
      let f = found progress.Line a in
      let e = ap length f.2.parts in
      let n = length-append (new.line ++ 10 ∷ []) f.0 in
      let m = length-append new.line (10 ∷ []) in
      too_much halt (omega (arith, e, n, m)) (cc)
  halts_after progress.TooLong a halt is = let f = found progress.TooLong a in let m = f.2.0.more in too_much halt (omega (arith, m)) (cc)
  halts_after progress.TooMuch a halt is = let f = found progress.TooMuch a in let m = f.2.0.more in too_much halt (omega (arith, m)) (cc)
  halts_after (progress.End zero) a halt is = absurd (cc)
  halts_after (progress.End (suc partial)) a halt is = let f = found (progress.End (suc partial)) a in let m = f.2.0.count in too_much halt (omega (arith, m)) (cc)
  halts_after progress.ReadFault a halt is =
      let f = found progress.ReadFault a in
      let u = unseen_of new later f.0 f.1 in
      let e : halts.ReadFault ≡ halt = cc in
      subst (HaltsBehind front input later) e (record {
        part = new.held;
        unseen = u.0;
        rest = u.1;
        read = PastDossier d (record {
          text = b.read.text ∙ ap (λ x. text_before front (d ∷ []) [] ++ x) (sym f.2 ∙ u.2);
          within = b.read.within;
          good = b.read.good;
          each = b.read.each;
          leads = b.read.leads;
        }) (subst (λ room. IsPartial room new.held (length new.held)) (let h = b.handed in omega arith) (a.fault refl));
      })

  -- what is told of the input behind the front
  pub told : {T : Type 0} (result : Result T Halt) (answer : Progress) → Advances old left answer new later
      → MatchResult result (λ _. halt_behind line answer ≡ None) (λ halt. halt_behind line answer ≡ Some halt) → IsWholeAt checker.at d → IsTrueYes d
      → MatchResult result (λ _. IsAlone front input checker) (HaltsBehind front input later)
  told (Ok x) answer a m whole true_yes = record { dossier = d; whole = whole; true_yes = true_yes; accepted = alone (subst (λ p. Advances old left p new later) (over line answer m) a) }
  told (Err halt) answer a m whole true_yes = halts_after answer a halt m

none_left : (allowed : ℕ) (rest : Option (List ℕ)) (new : Reader) (later : Option (List ℕ)) → AnswersTold allowed rest (progress.End 0) new.line (rest_of new later) → HasEnded later
none_left allowed rest new None told = tt
none_left allowed None new (Some unseen) told = absurd (cc)
none_left allowed (Some rest) new (Some unseen) told =
    let e : new.held ++ unseen ≡ rest = (let x = told.1 in let y = told.2.1 in cc) in
    no_bytes unseen (let p = told.2.0.count in let m = ap length e in let n = length-append new.held unseen in omega arith)

pub has_ended : (old new : Reader) (left later : Option (List ℕ)) → Advances old left (progress.End 0) new later → HasEnded later
has_ended old new left later a = none_left (allowance old) (rest_of old left) new later a.rest

pub ends_where_ok : {T : Type 0} (result : Result T Halt) (line : ℕ) (old new : Reader) (left later : Option (List ℕ)) (answer : Progress) → Advances old left answer new later
    → MatchResult result (λ _. halt_behind line answer ≡ None) (λ halt. halt_behind line answer ≡ Some halt) → IfOk result (λ _. HasEnded later)
ends_where_ok (Ok x) line old new left later answer a m = has_ended old new left later (subst (λ p. Advances old left p new later) (over line answer m) a)
ends_where_ok (Err halt) line old new left later answer a m = tt

pub where_ok : {T E : Type 0} (result : Result T E) (P : Type 0) → P → IfOk result (λ _. P)
where_ok (Ok x) P p = p
where_ok (Err e) P p = tt

-- a fault is told as such
pub fault_halts : (line : ℕ) (answer : Progress) (halt : Halt) → halt_behind line answer ≡ Some halt → answer ≡ progress.ReadFault → halt ≡ halts.ReadFault
fault_halts line answer halt is e = let f : halt_behind line progress.ReadFault ≡ Some halt = subst (λ a. halt_behind line a ≡ Some halt) e is in cc

pub halt_is_fault : (line : ℕ) (answer : Progress) (halt : Halt) → halt_behind line answer ≡ Some halt → halt ≡ halts.ReadFault → answer ≡ progress.ReadFault
halt_is_fault line progress.Line halt is e = absurd (cc)
halt_is_fault line progress.TooLong halt is e = absurd (cc)
halt_is_fault line progress.TooMuch halt is e = absurd (cc)
halt_is_fault line (progress.End zero) halt is e = absurd (cc)
halt_is_fault line (progress.End (suc partial)) halt is e = absurd (cc)
halt_is_fault line progress.ReadFault halt is e = refl
