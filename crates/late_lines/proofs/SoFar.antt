-- the lines before a dossier, as the reader hands them out
use Rattle.std.proofs.Common.{◌≡◌, ◌≢◌, ◌≤◌, ◌<◌, ◌+◌, ◌++◌, ℕ, suc, List, [], ◌∷◌, length, map, Option, None, Some, ap, subst, sym, refl, ◌∙◌, arith, length-append, append_assoc, append-nil}
use Rattle.std.specs.Prelude.{All, AllPairs}
use Rattle.std.specs.List.{flat_map}
use Rattle.std.proofs.lemmas.List.{map-append}
use Rattle.std.proofs.lemmas.List.Concat.{flat_map-append}
use Rattle.std.proofs.lemmas.List.Elements.{All-nil, All-push}
use Rattle.std.proofs.lemmas.List.Quantifiers.{all_pairs_push}
use Rattle.crew_terms.specs.Words.{Words, line_of, words_of, with_feed}
use Rattle.crew_terms.specs.declared.TheConstants.{LONGEST_INPUT}
use Rattle.crew_io.specs.Lines.{Reader, Advances, AnswersTold, Answers as Finds, IsPartial, allowance, fresh_reader, rest_of}
use Rattle.crew_io.specs.declared.lines.Progress.{Progress}
use Rattle.crew_io.specs.declared.lines.Progress.TheVariants as progress
use Rattle.dossier_terms.specs.declared.Reason.{Reason}
use Rattle.dossier_terms.specs.declared.Reason.TheVariants as reasons
use Rattle.dossier_commands.specs.Input.{IsGoing, Stops, LineTooLong, InputTooLong, text_of_lines}
use Rattle.line_in.specs.declared.faults.LineFault.{LineFault}
use Rattle.line_in.specs.Faults.{reason_for}
use Rattle.late_lines.specs.declared.first_line.LateLine.{LateLine}
use Rattle.late_lines.specs.declared.halt.Halt.{Halt}
use Rattle.late_lines.specs.declared.halt.Halt.TheVariants as halts
use Rattle.late_lines.specs.Lines.{AreLateLines, IsLateLine, IsLineFault, MayFollow, dossier_words, first_lines, late_text, late_words}
use Rattle.late_lines.specs.First.{BadLine, BeginsWith, HaltsFirst, IsAfter, IsFirstRefusal, NoLine, halt_of, room_past}

-- what holds before each line
pub record SoFar (left0 : Option (List ℕ)) (lates : List LateLine) (reader : Reader) (left : Option (List ℕ)) : Type 0 where
  pub going : IsGoing reader (length lates)
  pub are : AreLateLines lates
  pub read : (input : List ℕ) → left0 ≡ Some input → IsAfter (map late_text lates) input reader left

none_late : AreLateLines []
none_late = record { few = omega arith; each = All-nil IsLateLine; differ = λ i j d a b. absurd (omega (arith, b)) }

pub starts : (reader : Reader) (left : Option (List ℕ)) → reader ≡ fresh_reader LONGEST_INPUT → SoFar left [] reader left
starts reader left e = subst (λ r. SoFar left [] r left) (sym e) (record {
  going = record { going = refl; limit = refl; within = omega arith; few = omega arith };
  are = none_late;
  read = λ input is. record {
    rest = input;
    is = ap (λ l. rest_of (fresh_reader LONGEST_INPUT) l) is;
    read = record { text = refl; within = omega arith };
    handed = refl;
  };
})

-- one line more of late tasks
pub late_more : (lates : List LateLine) (line : LateLine) → AreLateLines lates → MayFollow lates line → AreLateLines (lates ++ line ∷ [])
late_more lates line are may = record {
  few = let f = may.few in let n = length-append lates (line ∷ []) in omega (arith, f, n);
  each = All-push IsLateLine lates line are.each may.is;
  differ = all_pairs_push (λ (a b : LateLine). a.name ≢ b.name) lates line are.differ may.new;
}

one_more : (lines : List (List ℕ)) (line : List ℕ) → text_of_lines (lines ++ line ∷ []) ≡ text_of_lines lines ++ with_feed line
one_more lines line = flat_map-append with_feed lines (line ∷ []) ∙ ap (λ x. text_of_lines lines ++ x) (append-nil (with_feed line))

going_on : (old new : Reader) (left later : Option (List ℕ)) (count more : ℕ) → IsGoing old count → Advances old left progress.Line new later → more ≡ count + 1 → IsGoing new more
going_on old new left later count more o a is = record {
  going = a.stopped;
  limit = a.limit ∙ o.limit;
  within = (let w = a.within in let l = a.limit in let m = o.limit in omega arith);
  few = (let h = a.handed in let f = o.few in let n = length-append new.line (10 ∷ []) in omega arith);
}

-- what an answer finds of the rest
found : (lines : List (List ℕ)) (input : List ℕ) (old new : Reader) (left later : Option (List ℕ)) (answer : Progress) → old.limit ≡ LONGEST_INPUT
    → (b : IsAfter lines input old left) → Advances old left answer new later
    → (after : List ℕ) × (rest_of new later ≡ Some after) × Finds (room_past lines) b.rest answer new.line after
found lines input old new left later answer limit b a =
    let room : allowance old ≡ room_past lines = (let h = b.handed in omega arith) in
    subst (λ n. AnswersTold n (Some b.rest) answer new.line (rest_of new later)) room
    (subst (λ o. AnswersTold (allowance old) o answer new.line (rest_of new later)) b.is a.rest)

-- the reader has handed out one line more
after_more : (lines : List (List ℕ)) (input : List ℕ) (old new : Reader) (left later : Option (List ℕ)) → old.limit ≡ LONGEST_INPUT
    → IsAfter lines input old left → Advances old left progress.Line new later → IsAfter (lines ++ new.line ∷ []) input new later
after_more lines input old new left later limit b a =
    let f = found lines input old new left later progress.Line limit b a in
    let line = new.line in
    let more = one_more lines line in
    let handed : new.handed ≡ length (text_of_lines (lines ++ line ∷ [])) = a.handed ∙ ap (λ n. n + length (with_feed line)) b.handed
    ∙ sym (length-append (text_of_lines lines) (with_feed line)) ∙ ap length (sym more) in
    record {
      rest = f.0;
      is = f.1;
      read = record {
        text = b.read.text ∙ ap (λ x. text_of_lines lines ++ x) f.2.parts ∙ sym (append_assoc (text_of_lines lines) (with_feed line) f.0) ∙ ap (λ x. x ++ f.0) (sym more);
        within = (let w = a.within in let l = a.limit in omega arith);
      };
      handed = handed;
    }

-- what is held, and what the source has left
unseen_of : (reader : Reader) (left : Option (List ℕ)) (rest : List ℕ) → rest_of reader left ≡ Some rest → (unseen : List ℕ) × (left ≡ Some unseen) × (rest ≡ reader.held ++ unseen)
unseen_of reader None rest e = absurd (cc)
unseen_of reader (Some unseen) rest e = (unseen, refl, cc)

module _ (left0 : Option (List ℕ)) (lates : List LateLine) (old new : Reader) (left later : Option (List ℕ)) (s : SoFar left0 lates old left) where
  -- the line is of these words
  module _ (law : (line : List ℕ) → line_of (words_of line) ≡ line) (a : Advances old left progress.Line new later) where
    line_is : (words : Words) → words_of new.line ≡ words → new.line ≡ line_of words
    line_is words e = sym (law new.line) ∙ ap line_of e

    pub goes_on : (line : LateLine) → MayFollow lates line × (words_of new.line ≡ late_words line) → SoFar left0 (lates ++ line ∷ []) new later
    goes_on line m = record {
      going = going_on old new left later (length lates) (length (lates ++ line ∷ [])) s.going a (length-append lates (line ∷ []));
      are = late_more lates line s.are m.0;
      read = λ input e. subst (λ lines. IsAfter lines input new later)
          (ap (λ x. map late_text lates ++ x ∷ []) (line_is (late_words line) m.1) ∙ sym (map-append late_text lates (line ∷ [])))
          (after_more (map late_text lates) input old new left later s.going.limit (s.read input e) a);
    }

    pub ends : words_of new.line ≡ dossier_words → IsGoing new (length lates + 1) × ((input : List ℕ) → left0 ≡ Some input → IsAfter (first_lines lates) input new later)
    ends e = (
      going_on old new left later (length lates) (length lates + 1) s.going a refl,
      (λ input is. subst (λ lines. IsAfter lines input new later) (ap (λ x. map late_text lates ++ x ∷ []) (line_is dossier_words e))
          (after_more (map late_text lates) input old new left later s.going.limit (s.read input is) a)),
    )

    -- the line has a fault
    pub refuses : (number : ℕ) (fault : LineFault) → number ≡ length lates + 1 → IsLineFault lates (words_of new.line) fault → (reason : Reason) → reason ≡ reason_for fault
        → (input : List ℕ) → left0 ≡ Some input → IsFirstRefusal input number reason
    refuses number fault n how reason why input is =
        let b = s.read input is in
        let f = found (map late_text lates) input old new left later progress.Line s.going.limit b a in
        BadLine lates s.are new.line f.0 (record { text = b.read.text ∙ ap (λ x. text_of_lines (map late_text lates) ++ x) f.2.parts; within = b.read.within })
        f.2.plain f.2.fits fault how (omega (arith, n)) why

  -- no line comes whole
  pub stops : (number : ℕ) → number ≡ length lates + 1 → (answer : Progress) → Advances old left answer new later → (halt : Halt) → halt_of number answer ≡ Some halt
      → (input : List ℕ) → left0 ≡ Some input → HaltsFirst input later halt
  stops number n progress.Line a halt is input e = absurd (cc)
  stops number n progress.TooLong a halt is input e =
      let b = s.read input e in
      let f = found (map late_text lates) input old new left later progress.TooLong s.going.limit b a in
      let h : halts.No number reasons.TooLong ≡ halt = cc in
      subst (HaltsFirst input later) h (NoLine lates s.are b.rest b.read (LineTooLong f.2.0 refl) (omega (arith, n)))
  stops number n progress.TooMuch a halt is input e =
      let b = s.read input e in
      let f = found (map late_text lates) input old new left later progress.TooMuch s.going.limit b a in
      let h : halts.No number reasons.TooMuch ≡ halt = cc in
      subst (HaltsFirst input later) h (NoLine lates s.are b.rest b.read (InputTooLong f.2.0 refl) (omega (arith, n)))
  stops number n (progress.End partial) a halt is input e =
      let b = s.read input e in
      let f = found (map late_text lates) input old new left later (progress.End partial) s.going.limit b a in
      let h : halts.No number reasons.End ≡ halt = cc in
      subst (HaltsFirst input later) h (NoLine lates s.are b.rest b.read (Stops partial f.2.0 refl) (omega (arith, n)))
  stops number n progress.ReadFault a halt is input e =
      let b = s.read input e in
      let f = found (map late_text lates) input old new left later progress.ReadFault s.going.limit b a in
      let u = unseen_of new later f.0 f.1 in
      let h : halts.ReadFault ≡ halt = cc in
      subst (HaltsFirst input later) h (record {
        lates = lates;
        are = s.are;
        part = new.held;
        unseen = u.0;
        rest = u.1;
        read = record { text = b.read.text ∙ ap (λ x. text_of_lines (map late_text lates) ++ x) (sym f.2 ∙ u.2); within = b.read.within };
        front = subst (λ room. IsPartial room new.held (length new.held)) (let g = b.handed in let l = s.going.limit in omega arith) (a.fault refl);
      })

-- a line is no fault
pub fault_stops : (number : ℕ) (answer : Progress) (halt : Halt) → halt_of number answer ≡ Some halt → answer ≡ progress.ReadFault → halt ≡ halts.ReadFault
fault_stops number answer halt is e = let f : halt_of number progress.ReadFault ≡ Some halt = subst (λ a. halt_of number a ≡ Some halt) e is in cc

pub stop_is_fault : (number : ℕ) (answer : Progress) (halt : Halt) → halt_of number answer ≡ Some halt → halt ≡ halts.ReadFault → answer ≡ progress.ReadFault
stop_is_fault number progress.Line halt is e = absurd (cc)
stop_is_fault number progress.TooLong halt is e = absurd (cc)
stop_is_fault number progress.TooMuch halt is e = absurd (cc)
stop_is_fault number (progress.End partial) halt is e = absurd (cc)
stop_is_fault number progress.ReadFault halt is e = refl

pub none_of : {X : Type 0} (o : Option X) → ((x : X) → o ≡ Some x → ⊥) → o ≡ None
none_of None none = refl
none_of (Some x) none = absurd (none x refl)

-- where no halt comes a line does
pub none_is_line : (number : ℕ) (answer : Progress) → halt_of number answer ≡ None → answer ≡ progress.Line
none_is_line number progress.Line is = refl
none_is_line number progress.TooLong is = absurd (cc)
none_is_line number progress.TooMuch is = absurd (cc)
none_is_line number (progress.End partial) is = absurd (cc)
none_is_line number progress.ReadFault is = absurd (cc)

pub line_is_no_fault : (answer : Progress) → answer ≡ progress.Line → answer ≡ progress.ReadFault → ⊥
line_is_no_fault answer e f = let g : progress.Line ≡ progress.ReadFault = sym e ∙ f in cc
