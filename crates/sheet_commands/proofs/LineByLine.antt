-- the input line by line, as the reader hands its lines out and the checker judges them
use Rattle.std.proofs.Common.{◌≡◌, ◌≢◌, ◌≤◌, ◌<◌, ◌+◌, ◌++◌, ℕ, zero, suc, List, [], ◌∷◌, length, map, Option, None, Some, ap, subst, sym, refl, ◌∙◌, arith, length-append, append_assoc, append-nil}
use Rattle.std.specs.List.{flat_map}
use Rattle.std.proofs.lemmas.List.{map-append, length-map}
use Rattle.std.proofs.lemmas.List.Concat.{flat_map-append}
use Rattle.std.proofs.lemmas.List.Elements.{All-nil, All-push}
use Rattle.crew_terms.specs.Words.{Words, IsLine, words_of, with_feed}
use Rattle.crew_terms.specs.declared.TheConstants.{LONGEST_INPUT}
use Rattle.crew_io.specs.Io.{HasEnded}
use Rattle.crew_io.specs.Lines.{Reader, Advances, AnswersTold, Answers as Finds, IsPartial, rest_of, allowance}
use Rattle.crew_io.specs.declared.lines.Progress.{Progress}
use Rattle.crew_io.specs.declared.lines.Progress.TheVariants as progress
use Rattle.dossier_terms.specs.declared.Reason.{Reason}
use Rattle.cert_checker.specs.Checked.{stop_reason_of}
use Rattle.cert_checker.specs.declared.checker.Stop.{Stop}
use Rattle.cert_checker.specs.declared.checker.Stop.TheVariants as stop
use Rattle.dossier_commands.specs.Input.{IsGoing, Stops, LineTooLong, InputTooLong, told_of, text_of_lines}
use Rattle.sheet_terms.specs.Lines.{lines_of_sheet, text_of_sheet}
use Rattle.sheet_terms.specs.Reading.{SheetReading, SheetAnswer, First, More as Goes, Whole as Ends, No as Refuses}
use Rattle.sheet_terms.specs.Sheet.{Sheet, IsGoodSheet}
use Rattle.sheet_terms.specs.Table.{SaysOfSheet, ReachesInSheet, EndsSheet}
use Rattle.sheet_texts.specs.Accepted.{AreAcceptedSheets}
use Rattle.sheet_reads.proofs.Reaches.{reaches_more, reaches_end}
use Rattle.sheet_checker.specs.Checked.{Checked, IsDueAt, IsJudged, IsOpen as IsDue, IsReached, StandsAfter, refused_at, said_of}
use Rattle.sheet_checker.specs.declared.checker.State.{State}
use Rattle.sheet_checker.specs.declared.checker.State.TheVariants as states
use Rattle.sheet_checker.specs.declared.checker.SheetSaid.{SheetSaid}
use Rattle.sheet_checker.specs.declared.checker.SheetSaid.TheVariants.{More, Whole, No}
use Rattle.sheet_commands.specs.Input.{HasRead, IsBetween, IsAtFirst, Fresh, Behind as AtFirst, CanGoOn, IsRefusal, BadLine, NoLine, IsEnd, IsTrueSheet, IsNextSheet, IsOutcome, IsOutcomeAtStop, Over, Short, Fault, OpensNext, text_before, lines_before, room_after}
use Rattle.sheet_commands.specs.declared.input.Outcome.{Outcome}
use Rattle.sheet_commands.specs.declared.input.Outcome.TheVariants as outcomes

-- the lines of the next sheet that the reader has handed out lead to what is due
pub record ReadTo (input : List ℕ) (done : List Sheet) (reader : Reader) (left : Option (List ℕ)) (due : SheetReading) (count : ℕ) : Type 0 where
  pub lines : List (List ℕ)
  pub rest : List ℕ
  pub is : rest_of reader left ≡ Some rest
  pub read : HasRead input done lines rest due
  pub handed : reader.handed ≡ length (text_before done lines)
  pub number : count ≡ lines_before done lines

-- where the checker stands, which stood here at the first line of the sheet
pub data StandsAt (start checker : Checked) (due : SheetReading) : Type 0 where
  AtFirstLine : (here : checker ≡ start) (first : IsAtFirst checker) (is : due ≡ First) → StandsAt start checker due
  Amid : (more : start.lines < checker.lines) (at : IsDueAt checker.at due) → StandsAt start checker due

-- what holds before each line of the next sheet
pub record IsSoFar (old : Reader) (left0 : Option (List ℕ)) (start : Checked) (reader : Reader) (left : Option (List ℕ)) (checker : Checked) : Type 0 where
  pub going : IsGoing reader checker.lines
  pub begun : start.lines ≤ checker.lines
  pub grows : old.handed + checker.lines ≤ reader.handed + start.lines
  pub due : SheetReading
  pub reached : IsReached due
  pub stands : StandsAt start checker due
  pub read : (input : List ℕ) (done : List Sheet) → IsBetween input done old left0 start → ReadTo input done reader left due checker.lines

one_more : (lines : List (List ℕ)) (line : List ℕ) → text_of_lines (lines ++ line ∷ []) ≡ text_of_lines lines ++ with_feed line
one_more lines line = flat_map-append with_feed lines (line ∷ []) ∙ ap (λ x. text_of_lines lines ++ x) (append-nil (with_feed line))

before_more : (done : List Sheet) (lines : List (List ℕ)) (line : List ℕ) → text_before done (lines ++ line ∷ []) ≡ text_before done lines ++ with_feed line
before_more done lines line = ap (λ x. flat_map text_of_sheet done ++ x) (one_more lines line)
    ∙ sym (append_assoc (flat_map text_of_sheet done) (text_of_lines lines) (with_feed line))

pub starts : (reader : Reader) (left : Option (List ℕ)) (checker : Checked) → CanGoOn reader checker → IsSoFar reader left checker reader left checker
starts reader left checker open_ = record {
  going = open_.going;
  begun = omega arith;
  grows = omega arith;
  due = First;
  reached = ([], refl);
  stands = AtFirstLine refl open_.first refl;
  read = λ input done b. record {
    lines = [];
    rest = b.rest;
    is = b.is;
    read = b.read;
    handed = b.handed;
    number = b.number;
  };
}

-- the line that is due is the one of the table

-- behind a whole sheet the first line of the next one is due, and no other
ended_is_due : (at : State) → at ≡ states.Whole → IsDueAt at First
ended_is_due at e = subst (λ a. IsDueAt a First) (sym e) refl

ended_is_first : (at : State) (due : SheetReading) → at ≡ states.Whole → IsDueAt at due → due ≡ First
ended_is_first at due e d = subst (λ a. IsDueAt a due) e d

first_is_due : (checker : Checked) → IsAtFirst checker → IsDueAt checker.at First
first_is_due checker (Fresh is) = subst (λ c. IsDueAt c.at First) (sym is) refl
first_is_due checker (AtFirst ended) = ended_is_due checker.at ended

due_of : (start checker : Checked) (due : SheetReading) → StandsAt start checker due → IsDueAt checker.at due
due_of start checker due (AtFirstLine here first is) = subst (IsDueAt checker.at) (sym is) (first_is_due checker first)
due_of start checker due (Amid more at) = at

pub is_due : (first : Reader) (left0 : Option (List ℕ)) (start : Checked) (old : Reader) (left : Option (List ℕ)) (checker : Checked)
    → (s : IsSoFar first left0 start old left checker) → IsDueAt checker.at s.due
is_due first left0 start old left checker s = due_of start checker s.due s.stands

-- what an answer finds of the rest
found : (input : List ℕ) (done : List Sheet) (old new : Reader) (left later : Option (List ℕ)) (answer : Progress) (due : SheetReading) (count : ℕ) → old.limit ≡ LONGEST_INPUT
    → (r : ReadTo input done old left due count) → Advances old left answer new later
    → (after : List ℕ) × (rest_of new later ≡ Some after) × Finds (room_after done r.lines) r.rest answer new.line after
found input done old new left later answer due count limit r a =
    let room : allowance old ≡ room_after done r.lines = (let h = r.handed in omega arith) in
    subst (λ n. AnswersTold n (Some r.rest) answer new.line (rest_of new later)) room
    (subst (λ o. AnswersTold (allowance old) o answer new.line (rest_of new later)) r.is a.rest)

text_more : (input : List ℕ) (done : List Sheet) (lines : List (List ℕ)) (line rest after : List ℕ) → input ≡ text_before done lines ++ rest → rest ≡ with_feed line ++ after
    → input ≡ text_before done (lines ++ line ∷ []) ++ after
text_more input done lines line rest after text parts = text ∙ ap (λ x. text_before done lines ++ x) parts
    ∙ sym (append_assoc (text_before done lines) (with_feed line) after) ∙ ap (λ x. x ++ after) (sym (before_more done lines line))

handed_more : (done : List Sheet) (lines : List (List ℕ)) (line : List ℕ) (old new : ℕ) → new ≡ old + length (with_feed line) → old ≡ length (text_before done lines)
    → new ≡ length (text_before done (lines ++ line ∷ []))
handed_more done lines line old new e f = e ∙ ap (λ n. n + length (with_feed line)) f
    ∙ sym (length-append (text_before done lines) (with_feed line)) ∙ ap length (sym (before_more done lines line))

words_more : (lines : List (List ℕ)) (line : List ℕ) → map words_of (lines ++ line ∷ []) ≡ map words_of lines ++ words_of line ∷ []
words_more lines line = map-append words_of lines (line ∷ [])

opens : (old new : Reader) (left later : Option (List ℕ)) (count more : ℕ) → IsGoing old count → Advances old left progress.Line new later → more ≡ count + 1 → IsGoing new more
opens old new left later count more o a is = record {
  going = a.stopped;
  limit = a.limit ∙ o.limit;
  within = (let w = a.within in let l = a.limit in let m = o.limit in omega arith);
  few = (let h = a.handed in let f = o.few in let n = length-append new.line (10 ∷ []) in omega arith);
}

-- what the table says where the checker says this

goes : (lines : ℕ) (said : SheetSaid) (at : State) (due : SheetReading) (ws : Words) (answer : SheetAnswer) → SaysOfSheet due ws answer → said ≡ said_of (lines + 1) answer
    → StandsAfter (lines + 1) answer at → said ≡ More → (next : SheetReading) × SaysOfSheet due ws (Goes next) × IsDueAt at next
goes lines said at due ws (Goes next) a e n is = (next, a, n)
goes lines said at due ws (Ends d) a e n is = absurd (let f = sym is ∙ e in cc)
goes lines said at due ws (Refuses reason) a e n is = absurd (let f = sym is ∙ e in cc)

same_bound : (l m : ℕ) → Whole l ≡ Whole m → l ≡ m
same_bound l m e = cc

whole : (lines : ℕ) (said : SheetSaid) (at : State) (due : SheetReading) (ws : Words) (l : ℕ) (answer : SheetAnswer) → SaysOfSheet due ws answer → said ≡ said_of (lines + 1) answer
    → StandsAfter (lines + 1) answer at → said ≡ Whole l → (s : Sheet) × SaysOfSheet due ws (Ends s) × (l ≡ s.bound) × (at ≡ states.Whole)
whole lines said at due ws l (Goes next) a e n is = absurd (let f = sym is ∙ e in cc)
whole lines said at due ws l (Ends s) a e n is = (s, a, same_bound l s.bound (sym is ∙ e), n)
whole lines said at due ws l (Refuses reason) a e n is = absurd (let f = sym is ∙ e in cc)

refused_for : (lines : ℕ) (said : SheetSaid) (at : State) (due : SheetReading) (ws : Words) (number : ℕ) (reason : Reason) (answer : SheetAnswer) → SaysOfSheet due ws answer → said ≡ said_of (lines + 1) answer
    → StandsAfter (lines + 1) answer at → said ≡ No number reason → SaysOfSheet due ws (Refuses reason) × (number ≡ lines + 1) × (at ≡ states.Refused number reason)
refused_for lines said at due ws number reason (Goes next) a e n is = absurd (let f = sym is ∙ e in cc)
refused_for lines said at due ws number reason (Ends d) a e n is = absurd (let f = sym is ∙ e in cc)
refused_for lines said at due ws number reason (Refuses r) a e n is =
    let f = sym is ∙ e in
    let g : r ≡ reason = cc in
    let h : number ≡ lines + 1 = cc in
    (subst (λ x. SaysOfSheet due ws (Refuses x)) g a, h, n ∙ ap (λ x. states.Refused x r) (sym h) ∙ ap (λ x. states.Refused number x) g)

-- one line more
pub goes_on : (first : Reader) (left0 : Option (List ℕ)) (start : Checked) (old new : Reader) (left later : Option (List ℕ)) (checker next : Checked) (said : SheetSaid)
    → (s : IsSoFar first left0 start old left checker) → Advances old left progress.Line new later → IsJudged checker.lines s.due (words_of new.line) said next → said ≡ More
    → IsSoFar first left0 start new later next
goes_on first left0 start old new left later checker next said s a j is =
    let g = goes checker.lines said next.at s.due (words_of new.line) j.answer j.is j.says j.stands is in
    record {
      going = opens old new left later checker.lines next.lines s.going a j.count;
      begun = (let b = s.begun in let c = j.count in omega (arith, b, c));
      grows = (let b = s.grows in let c = j.count in let h = a.handed in let n = length-append new.line (10 ∷ []) in omega arith);
      due = g.0;
      reached = (s.reached.0 ++ words_of new.line ∷ [], reaches_more First s.reached.0 s.due (words_of new.line) g.0 s.reached.1 g.1);
      stands = Amid (let b = s.begun in let c = j.count in omega (arith, b, c)) g.2;
      read = λ input done b. more g.0 g.1 input done (s.read input done b);
    }
  where
    more : (due : SheetReading) → SaysOfSheet s.due (words_of new.line) (Goes due) → (input : List ℕ) (done : List Sheet) → ReadTo input done old left s.due checker.lines
        → ReadTo input done new later due next.lines
    more due answer input done r =
        let f = found input done old new left later progress.Line s.due checker.lines s.going.limit r a in
        record {
          lines = r.lines ++ new.line ∷ [];
          rest = f.0;
          is = f.1;
          read = record {
            text = text_more input done r.lines new.line r.rest f.0 r.read.text f.2.parts;
            within = (let h = handed_more done r.lines new.line old.handed new.handed a.handed r.handed in let w = a.within in let l = a.limit in let m = s.going.limit in omega arith);
            good = r.read.good;
            each = All-push IsLine r.lines new.line r.read.each a.line;
            leads = subst (λ ws. ReachesInSheet First ws due) (sym (words_more r.lines new.line))
                (reaches_more First (map words_of r.lines) s.due (words_of new.line) due r.read.leads answer);
          };
          handed = handed_more done r.lines new.line old.handed new.handed a.handed r.handed;
          number = (let n = r.number in let c = j.count in let m = length-append r.lines (new.line ∷ []) in omega arith);
        }

pub refuses : (first : Reader) (left0 : Option (List ℕ)) (start : Checked) (old new : Reader) (left later : Option (List ℕ)) (checker next : Checked) (said : SheetSaid) (number : ℕ) (reason : Reason)
    → (s : IsSoFar first left0 start old left checker) → Advances old left progress.Line new later → IsJudged checker.lines s.due (words_of new.line) said next → said ≡ No number reason
    → (input : List ℕ) (done : List Sheet) → IsBetween input done first left0 start → IsRefusal input done number reason
refuses first left0 start old new left later checker next said number reason s a j is input done b =
    let r = s.read input done b in
    let f = found input done old new left later progress.Line s.due checker.lines s.going.limit r a in
    let g = refused_for checker.lines said next.at s.due (words_of new.line) number reason j.answer j.is j.says j.stands is in
    BadLine r.lines new.line f.0 s.due
    (record { text = r.read.text ∙ ap (λ x. text_before done r.lines ++ x) f.2.parts; within = r.read.within; good = r.read.good; each = r.read.each; leads = r.read.leads })
    f.2.plain f.2.fits g.0 (let n = r.number in let m = g.1 in omega arith)

no_bytes : (rest : List ℕ) → length rest ≡ 0 → rest ≡ []
no_bytes [] e = refl
no_bytes (x ∷ rest) e = absurd (omega arith)

no_lines : (lines : List (List ℕ)) → length lines ≡ 0 → lines ≡ []
no_lines [] e = refl
no_lines (x ∷ lines) e = absurd (omega arith)

-- a sheet is whole just where no line of the next one was read
ended_here : (start checker : Checked) (due : SheetReading) → StandsAt start checker due → (due ≡ First → checker.lines ≡ start.lines) → (checker.at ≡ states.Whole) → checker ≡ start
ended_here start checker due (AtFirstLine here first form) none e = here
ended_here start checker due (Amid more at) none e = absurd (let h = none (ended_is_first checker.at due e at) in omega (arith, more, h))

here_ended : (start checker : Checked) (due : SheetReading) → StandsAt start checker due → checker.lines ≡ start.lines → (start.at ≡ states.Whole) → (checker.at ≡ states.Whole)
here_ended start checker due (AtFirstLine here first form) e l = subst (λ c. (c.at ≡ states.Whole)) (sym here) l
here_ended start checker due (Amid more at) e l = absurd (omega (arith, more, e))

is_fault : (answer : Progress) → answer ≢ progress.Line → told_of answer ≡ None → answer ≡ progress.ReadFault
is_fault progress.Line stopped told = absurd (stopped refl)
is_fault progress.TooLong stopped told = absurd (cc)
is_fault progress.TooMuch stopped told = absurd (cc)
is_fault (progress.End partial) stopped told = absurd (cc)
is_fault progress.ReadFault stopped told = refl

-- where no line comes whole
module _ (first : Reader) (left0 : Option (List ℕ)) (start : Checked) (old new : Reader) (left later : Option (List ℕ)) (checker : Checked)
    (first_line : (lines : List Words) → ReachesInSheet First lines First → lines ≡ [])
    (s : IsSoFar first left0 start old left checker) (input : List ℕ) (done : List Sheet) (b : IsBetween input done first left0 start) where
  -- where the first line of a sheet is due, no line of it was read
  at_form : (r : ReadTo input done old left s.due checker.lines) → s.due ≡ First → checker.lines ≡ start.lines
  at_form r form =
      let e = ap length (first_line (map words_of r.lines) (subst (ReachesInSheet First (map words_of r.lines)) form r.read.leads)) in
      let f = length-map r.lines words_of in
      let n = r.number in
      let m = b.number in
      omega arith

  accepts : (r : ReadTo input done old left s.due checker.lines) → (checker.at ≡ states.Whole) → IsPartial (room_after done r.lines) r.rest 0 → AreAcceptedSheets input done
  accepts r ended p =
      let at = ended_here start checker s.due s.stands (at_form r) ended in
      let n = r.number in
      let m = b.number in
      let same = ap (λ c. c.lines) at in
      let e : r.lines ≡ [] = no_lines r.lines (omega arith) in
      let none : r.rest ≡ [] = no_bytes r.rest (sym p.count) in
      let text : input ≡ flat_map text_of_sheet done = r.read.text ∙ ap (λ x. text_before done r.lines ++ x) none ∙ append-nil (text_before done r.lines)
      ∙ ap (text_before done) e ∙ append-nil (flat_map text_of_sheet done) in
      record {
        size = (let i = ap length (r.read.text ∙ ap (λ x. text_before done r.lines ++ x) none ∙ append-nil (text_before done r.lines)) in let w = r.read.within in omega (arith, i, w));
        some = b.ended.0 (subst (λ c. c.at ≡ states.Whole) at ended);
        good = r.read.good;
        text = text;
      }

  not_over : (r : ReadTo input done old left s.due checker.lines) → IsEnd done r.lines r.rest → (checker.at ≡ states.Whole)
  not_over r e = here_ended start checker s.due s.stands (let n = r.number in let m = b.number in let k = ap length e.between in omega arith) (b.ended.1 e.some)

  no_end : (r : ReadTo input done old left s.due checker.lines) → 0 < length r.rest → IsEnd done r.lines r.rest → ⊥
  no_end r l e = let n = ap length e.none in absurd (omega arith)

  falls_short : (r : ReadTo input done old left s.due checker.lines) (answer : Progress) (why : Stop) → told_of answer ≡ Some why → ((checker.at ≡ states.Whole) → why ≡ stop.End 0 → ⊥)
      → (after : List ℕ) → Finds (room_after done r.lines) r.rest answer new.line after → IsRefusal input done (checker.lines + 1) (stop_reason_of why)
  falls_short r progress.Line why told more after f = absurd (cc)
  falls_short r progress.ReadFault why told more after f = absurd (cc)
  falls_short r progress.TooLong why told more after f =
      let e : stop.TooLong ≡ why = cc in
      subst (λ w. IsRefusal input done (checker.lines + 1) (stop_reason_of w)) e
      (NoLine r.lines r.rest s.due r.read (LineTooLong f.0 refl) (no_end r (let m = f.0.more in omega arith)) (let n = r.number in omega arith))
  falls_short r progress.TooMuch why told more after f =
      let e : stop.TooMuch ≡ why = cc in
      subst (λ w. IsRefusal input done (checker.lines + 1) (stop_reason_of w)) e
      (NoLine r.lines r.rest s.due r.read (InputTooLong f.0 refl) (no_end r (let m = f.0.more in omega arith)) (let n = r.number in omega arith))
  falls_short r (progress.End (suc partial)) why told more after f =
      let e : stop.End (suc partial) ≡ why = cc in
      subst (λ w. IsRefusal input done (checker.lines + 1) (stop_reason_of w)) e
      (NoLine r.lines r.rest s.due r.read (Stops (suc partial) f.0 refl) (no_end r (let m = f.0.count in omega arith)) (let n = r.number in omega arith))
  falls_short r (progress.End zero) why told more after f =
      let e : stop.End 0 ≡ why = cc in
      subst (λ w. IsRefusal input done (checker.lines + 1) (stop_reason_of w)) e
      (NoLine r.lines r.rest s.due r.read (Stops 0 f.0 refl) (λ x. more (not_over r x) (sym e)) (let n = r.number in omega arith))

  stops_so : (answer : Progress) (outcome : Outcome) (after : Checked) → Advances old left answer new later → answer ≢ progress.Line → IsOutcomeAtStop checker answer after outcome
      → IsOutcome input done new later after outcome
  stops_so answer outcome after a stopped (Over end ended same is) =
      let r = s.read input done b in
      let f = found input done old new left later answer s.due checker.lines s.going.limit r a in
      subst (IsOutcome input done new later after) (sym is)
      (accepts r ended (let g = subst (λ x. Finds (room_after done r.lines) r.rest x new.line f.0) end f.2 in g.0))
  stops_so answer outcome after a stopped (Short why told more refused is) =
      let r = s.read input done b in
      let f = found input done old new left later answer s.due checker.lines s.going.limit r a in
      subst (IsOutcome input done new later after) (sym is) (falls_short r answer why told more f.0 f.2)
  stops_so answer outcome after a stopped (Fault told same is) =
      let r = s.read input done b in
      let f = found input done old new left later answer s.due checker.lines s.going.limit r a in
      let e = is_fault answer stopped told in
      let g = subst (λ x. Finds (room_after done r.lines) r.rest x new.line f.0) e f.2 in
      subst (IsOutcome input done new later after) (sym is) (record {
        lines = r.lines;
        rest = r.rest;
        due = s.due;
        is = f.1 ∙ ap Some g;
        read = r.read;
        part = subst (λ room. IsPartial room new.held (length new.held)) (let h = r.handed in let l = s.going.limit in omega arith) (a.fault e);
      })

pub stops : (first : Reader) (left0 : Option (List ℕ)) (start : Checked) (old new : Reader) (left later : Option (List ℕ)) (checker after : Checked) (answer : Progress) (outcome : Outcome)
    → ((lines : List Words) → ReachesInSheet First lines First → lines ≡ [])
    → IsSoFar first left0 start old left checker → Advances old left answer new later → answer ≢ progress.Line → IsOutcomeAtStop checker answer after outcome
    → (input : List ℕ) (done : List Sheet) → IsBetween input done first left0 start → IsOutcome input done new later after outcome
stops first left0 start old new left later checker after answer outcome law s a stopped is input done b =
    stops_so first left0 start old new left later checker law s input done b answer outcome after a stopped is

pub ends_whole : (first : Reader) (left0 : Option (List ℕ)) (start : Checked) (old new : Reader) (left later : Option (List ℕ)) (checker next : Checked) (said : SheetSaid) (l : ℕ)
    → ((lines : List (List ℕ)) (d : Sheet) → EndsSheet First (map words_of lines) d → IsTrueSheet d × (text_of_sheet d ≡ text_of_lines lines) × (lines_of_sheet d ≡ map words_of lines))
    → (s : IsSoFar first left0 start old left checker) → Advances old left progress.Line new later → IsJudged checker.lines s.due (words_of new.line) said next → said ≡ Whole l
    → (input : List ℕ) (done : List Sheet) → IsBetween input done first left0 start → IsNextSheet input done l new later next
ends_whole first left0 start old new left later checker next said l law s a j is input done b =
    let g = whole checker.lines said next.at s.due (words_of new.line) l j.answer j.is j.says j.stands is in
    let d = g.0 in
    let r = s.read input done b in
    let lines = r.lines ++ new.line ∷ [] in
    let f = found input done old new left later progress.Line s.due checker.lines s.going.limit r a in
    let read : EndsSheet First (map words_of lines) d = subst (λ ws. EndsSheet First ws d) (sym (words_more r.lines new.line))
    (reaches_end First (map words_of r.lines) s.due (words_of new.line) d r.read.leads g.1) in
    let good = law lines d read in
    let texts : text_before (done ++ d ∷ []) [] ≡ text_before done lines = append-nil (flat_map text_of_sheet (done ++ d ∷ []))
    ∙ flat_map-append text_of_sheet done (d ∷ []) ∙ ap (λ x. flat_map text_of_sheet done ++ x) (append-nil (text_of_sheet d) ∙ good.1) in
    let handed : new.handed ≡ length (text_before (done ++ d ∷ []) []) = handed_more done r.lines new.line old.handed new.handed a.handed r.handed ∙ ap length (sym texts) in
    record {
      sheet = d;
      says = g.2;
      true_yes = good.0;
      between = record {
        rest = f.0;
        is = f.1;
        read = record {
          text = text_more input done r.lines new.line r.rest f.0 r.read.text f.2.parts ∙ ap (λ x. x ++ f.0) (sym texts);
          within = (let w = a.within in let l = a.limit in let m = s.going.limit in omega arith);
          good = All-push IsGoodSheet done d r.read.good good.0.good;
          each = All-nil IsLine;
          leads = refl;
        };
        handed = handed;
        number = (let n = r.number in
            let e = ap length (flat_map-append lines_of_sheet done (d ∷ [])) in
            let g1 = length-append (flat_map lines_of_sheet done) (flat_map lines_of_sheet (d ∷ [])) in
            let h = ap length (append-nil (lines_of_sheet d)) in
            let i = ap length good.2 in
            let jj = length-map lines words_of in
            let c = j.count in
            let k = length-append r.lines (new.line ∷ []) in omega arith);
        ended = ((λ _ none. absurd (let n = ap length none in let m = length-append done (d ∷ []) in omega (arith, n, m))), (λ _. g.3));
      };
    }

-- after a sheet the reader and the checker can go on, and more was handed out
pub opens_next : (first : Reader) (left0 : Option (List ℕ)) (start : Checked) (old new : Reader) (left later : Option (List ℕ)) (checker next : Checked) (said : SheetSaid) (l : ℕ)
    → (s : IsSoFar first left0 start old left checker) → Advances old left progress.Line new later → IsJudged checker.lines s.due (words_of new.line) said next → said ≡ Whole l
    → CanGoOn new next × (first.handed < new.handed)
opens_next first left0 start old new left later checker next said l s a j is =
    let g = whole checker.lines said next.at s.due (words_of new.line) l j.answer j.is j.says j.stands is in
    let count = j.count in (
      record {
        going = opens old new left later checker.lines next.lines s.going a count;
        first = AtFirst g.3;
      },
      (let x = s.grows in let h = a.handed in let n = length-append new.line (10 ∷ []) in let b = s.begun in omega arith),
    )

-- a line that is refused stays so
pub stays_refused : (old new : Reader) (checker next : Checked) (due : SheetReading) (ws : Words) (said : SheetSaid) (number : ℕ) (reason : Reason)
    → IsJudged checker.lines due ws said next → said ≡ No number reason → OpensNext old new next (outcomes.No number reason)
stays_refused old new checker next due ws said number reason j is = (refused_for checker.lines said next.at due ws number reason j.answer j.is j.says j.stands is).2

pub no_none : (said : SheetSaid) → Some said ≡ None → ⊥
no_none said e = cc

-- the checker is told why no line comes, and refuses the one that is due
pub stop_refuses : (checker after : Checked) (answer : Progress) (why : Stop) (number : ℕ) (reason : Reason) → told_of answer ≡ Some why → ((checker.at ≡ states.Whole) → why ≡ stop.End 0 → ⊥)
    → after ≡ refused_at checker (stop_reason_of why) → No number reason ≡ No (checker.lines + 1) (stop_reason_of why) → IsOutcomeAtStop checker answer after (outcomes.No number reason)
stop_refuses checker after answer why number reason told more refused is =
    let n : number ≡ checker.lines + 1 = cc in
    let r : reason ≡ stop_reason_of why = cc in
    Short why told more refused (ap (λ x. outcomes.No x reason) n ∙ ap (λ x. outcomes.No (checker.lines + 1) x) r)

-- only a fault of the source stops a reading without a line that is refused and without an end
pub stop_is_fault : (checker after : Checked) (answer : Progress) (outcome : Outcome) → answer ≢ progress.Line → IsOutcomeAtStop checker answer after outcome → outcome ≡ outcomes.ReadFault → answer ≡ progress.ReadFault
stop_is_fault checker after answer outcome stopped (Over end ended same is) e = absurd (let f = sym is ∙ e in cc)
stop_is_fault checker after answer outcome stopped (Short why told more refused is) e = absurd (let f = sym is ∙ e in cc)
stop_is_fault checker after answer outcome stopped (Fault told same is) e = is_fault answer stopped told

-- and a fault of the source stops it
pub fault_stops : (checker after : Checked) (answer : Progress) (outcome : Outcome) → IsOutcomeAtStop checker answer after outcome → answer ≡ progress.ReadFault → outcome ≡ outcomes.ReadFault
fault_stops checker after answer outcome (Over end ended same is) e = absurd (let f = sym end ∙ e in cc)
fault_stops checker after answer outcome (Short why told more refused is) e = absurd (let f = sym told ∙ ap told_of e in cc)
fault_stops checker after answer outcome (Fault told same is) e = is

-- at the end nothing is left in the source, where it tells its bytes
none_left : (allowed : ℕ) (rest : Option (List ℕ)) (answer : Progress) (new : Reader) (later : Option (List ℕ)) → AnswersTold allowed rest answer new.line (rest_of new later) → answer ≡ progress.End 0
    → HasEnded later
none_left allowed rest answer new None told end = tt
none_left allowed None answer new (Some unseen) told end = absurd (cc)
none_left allowed (Some rest) answer new (Some unseen) told end =
    let f = subst (λ x. Finds allowed rest x new.line told.0) end told.2 in
    let e : new.held ++ unseen ≡ rest = (let x = told.1 in let y = f.1 in cc) in
    no_bytes unseen (let p = f.0.count in let m = ap length e in let n = length-append new.held unseen in omega arith)

pub end_has_ended : (old new : Reader) (left later : Option (List ℕ)) (answer : Progress) (checker after : Checked) (outcome : Outcome)
    → Advances old left answer new later → IsOutcomeAtStop checker answer after outcome → outcome ≡ outcomes.End → HasEnded later
end_has_ended old new left later answer checker after outcome a (Over end ended same is) e = none_left (allowance old) (rest_of old left) answer new later a.rest end
end_has_ended old new left later answer checker after outcome a (Short why told more refused is) e = absurd (let f = sym is ∙ e in cc)
end_has_ended old new left later answer checker after outcome a (Fault told same is) e = absurd (let f = sym is ∙ e in cc)

pub line_is_no_fault : (answer : Progress) → answer ≡ progress.Line → answer ≡ progress.ReadFault → ⊥
line_is_no_fault answer line fault = let e = sym line ∙ fault in cc

-- where the checker stands then, at which a line was due
pub stop_opens : (old new : Reader) (checker after : Checked) (answer : Progress) (outcome : Outcome) → IsDue checker.at → IsOutcomeAtStop checker answer after outcome → OpensNext old new after outcome
stop_opens old new checker after answer outcome due (Over end ended same is) = subst (OpensNext old new after) (sym is) (subst (λ c. (c.at ≡ states.Whole)) (sym same) ended)
stop_opens old new checker after answer outcome due (Short why told more refused is) = subst (OpensNext old new after) (sym is) (ap (λ c. c.at) refused)
stop_opens old new checker after answer outcome due (Fault told same is) = subst (OpensNext old new after) (sym is) (subst (λ c. IsDue c.at) (sym same) due)
