-- the day of an input, read line by line
use Rattle.std.proofs.Common.{◌≡◌, ◌≢◌, ◌≤◌, ◌-◌, ◌++◌, ◌∷◌, [], ℕ, List, Option, None, Some, length, ap, subst, sym, refl, ◌∙◌, arith, length-append, append_assoc}
use Rattle.std.proofs.lemmas.List.Elements.{All-nil, All-push}
use Rattle.std.specs.Prelude.{IfSome, vec_len}
use Rattle.std.specs.Global.{Vec}
use Rattle.crew_terms.specs.Words.{IsLine, with_feed}
use Rattle.crew_terms.specs.declared.TheConstants.{LONGEST_DAY, LONGEST_INPUT}
use Rattle.crew_io.specs.Lines.{Advances, Answers as Finds, BeginsTooLong, IsPartial, IsTooMuch, Reader, allowance, fresh_reader, rest_of}
use Rattle.crew_io.specs.declared.lines.Progress.{Progress}
use Rattle.crew_io.specs.declared.lines.Progress.TheVariants as progress
use Rattle.dossier_commands.specs.Input.{text_of_lines}
use Rattle.audit_command.specs.Days.{AreDayLines, BeginsWithDay, HasDay, dossiers_line}
use Rattle.audit_command.specs.Reads.{GoesOnBehind, IsKept, IsPart, part_at, part_of}
use Rattle.audit_command.specs.declared.day_part.DayPart.TheVariants as parts
use Rattle.audit_command.proofs.DayLines.{text_more}
use Rattle.audit_command.proofs.Going.{found_of, unread}

-- a reader that has handed out these lines of a day
pub record IsInDay (left0 : Option (List ℕ)) (text : Option (Vec ℕ)) (reader : Reader) (left : Option (List ℕ)) : Type 0 where
  pub lines : List (List ℕ)
  pub are : AreDayLines lines
  pub kept : IsKept text (text_of_lines lines)
  pub going : reader.stopped ≡ None
  pub limit : reader.limit ≡ LONGEST_INPUT
  pub within : reader.handed ≤ LONGEST_INPUT
  pub handed : reader.handed ≡ length (text_of_lines lines)
  pub told : (input : List ℕ) → left0 ≡ Some input → (rest : List ℕ) × (rest_of reader left ≡ Some rest) × (input ≡ text_of_lines lines ++ rest)

pub begins : (left : Option (List ℕ)) (text : Vec ℕ) (reader : Reader) → reader ≡ fresh_reader LONGEST_INPUT → text.items ≡ [] → IsInDay left (Some text) reader left
begins left text reader fresh none = record {
  lines = [];
  are = record { each = All-nil IsLine; others = All-nil (λ line. line ≢ dossiers_line) };
  kept = (none, omega arith);
  going = ap (λ (r : Reader). r.stopped) fresh;
  limit = ap (λ (r : Reader). r.limit) fresh;
  within = (let h = ap (λ (r : Reader). r.handed) fresh in omega (arith, h));
  handed = ap (λ (r : Reader). r.handed) fresh;
  told = λ input e. (input, ap (λ (r : Reader). rest_of r left) fresh ∙ ap (λ l. rest_of (fresh_reader LONGEST_INPUT) l) e, refl);
}

module _ (left0 left later : Option (List ℕ)) (text : Option (Vec ℕ)) (old new : Reader) (s : IsInDay left0 text old left) where
  handed_more : Advances old left progress.Line new later → new.handed ≡ length (text_of_lines s.lines ++ with_feed new.line)
  handed_more a = let h = a.handed in let o = s.handed in let n = length-append (text_of_lines s.lines) (with_feed new.line) in omega (arith, h, o, n)

  -- the input behind one line more
  told_more : Advances old left progress.Line new later → (input : List ℕ) → left0 ≡ Some input
      → (rest : List ℕ) × (rest_of new later ≡ Some rest) × (input ≡ (text_of_lines s.lines ++ with_feed new.line) ++ rest)
  told_more a input e =
      let t = s.told input e in
      let f = found_of old new left later progress.Line t.0 t.1 a in
      (f.0, f.1, t.2 ∙ ap (λ x. text_of_lines s.lines ++ x) f.2.parts ∙ sym (append_assoc (text_of_lines s.lines) (with_feed new.line) f.0))

  -- a line of the day
  pub one_more : (kept : Option (Vec ℕ)) → Advances old left progress.Line new later → new.line ≢ dossiers_line
      → IsKept kept (text_of_lines s.lines ++ with_feed new.line) → IsInDay left0 kept new later
  one_more kept a other is = record {
    lines = s.lines ++ new.line ∷ [];
    are = record { each = All-push IsLine s.lines new.line s.are.each a.line; others = All-push (λ line. line ≢ dossiers_line) s.lines new.line s.are.others other };
    kept = subst (IsKept kept) (sym (text_more s.lines new.line)) is;
    going = a.stopped;
    limit = a.limit ∙ s.limit;
    within = (let w = a.within in let l = a.limit in let m = s.limit in omega (arith, w, l, m));
    handed = handed_more a ∙ ap length (sym (text_more s.lines new.line));
    told = λ input e. (let t = told_more a input e in (t.0, t.1, t.2 ∙ ap (λ x. x ++ t.0) (sym (text_more s.lines new.line))));
  }

  -- the line behind the day
  pub at_mark : Advances old left progress.Line new later → new.line ≡ dossiers_line → (input : List ℕ) → left0 ≡ Some input → IsPart input (part_of text) new later
  at_mark a mark input e = by text s.kept
    where
      t : (rest : List ℕ) × (rest_of new later ≡ Some rest) × (input ≡ (text_of_lines s.lines ++ with_feed new.line) ++ rest)
      t = told_more a input e

      within : length (text_of_lines s.lines ++ with_feed new.line) ≤ LONGEST_INPUT
      within = let h = handed_more a in let w = a.within in let l = a.limit in let m = s.limit in omega (arith, h, w, l, m)

      day : (whole : List ℕ) → whole ≡ text_of_lines s.lines → HasDay input whole t.0
      day whole is = record {
        lines = s.lines;
        are = s.are;
        text_is = is;
        parts = t.2 ∙ ap (λ x. (text_of_lines s.lines ++ with_feed x) ++ t.0) mark ∙ ap (λ x. (x ++ with_feed dossiers_line) ++ t.0) (sym is);
        within = subst (λ x. length (x ++ with_feed dossiers_line) ≤ LONGEST_INPUT) (sym is) (subst (λ x. length (text_of_lines s.lines ++ with_feed x) ≤ LONGEST_INPUT) mark within);
      }

      by : (text : Option (Vec ℕ)) → IsKept text (text_of_lines s.lines) → IsPart input (part_of text) new later
      by (Some v) kept = record {
        within = subst (λ x. length x ≤ LONGEST_DAY) (sym kept.0) kept.1;
        behind = t.0;
        is = t.1;
        day = day v.items kept.0;
        handed = handed_more a ∙ ap (λ x. length (text_of_lines s.lines ++ with_feed x)) mark ∙ ap (λ x. length (x ++ with_feed dossiers_line)) (sym kept.0);
      }
      by None kept = record { text = text_of_lines s.lines; behind = t.0; day = day (text_of_lines s.lines) refl; more = kept }

  -- the reader can go on then
  pub goes_on_at : Advances old left progress.Line new later → GoesOnBehind (part_of text) new
  goes_on_at a = by text
    where
      by : (text : Option (Vec ℕ)) → GoesOnBehind (part_of text) new
      by (Some v) = (a.stopped, a.limit ∙ s.limit, (let w = a.within in let l = a.limit in let m = s.limit in omega (arith, w, l, m)))
      by None = tt

  -- no line comes whole
  pub at_stop : (answer : Progress) → Advances old left answer new later → answer ≢ progress.Line → (input : List ℕ) → left0 ≡ Some input → IsPart input (part_at answer) new later
  at_stop answer a stopped input e = by answer a stopped (found_of old new left later answer (s.told input e).0 (s.told input e).1 a)
    where
      rest : List ℕ
      rest = (s.told input e).0

      room : allowance old ≡ LONGEST_INPUT - length (text_of_lines s.lines)
      room = let h = s.handed in let l = s.limit in omega (arith, h, l)

      begun : BeginsWithDay input s.lines rest
      begun = record { are = s.are; parts = (s.told input e).2; within = (let h = s.handed in let w = s.within in omega (arith, h, w)) }

      by : (answer : Progress) → Advances old left answer new later → answer ≢ progress.Line → (after : List ℕ) × (rest_of new later ≡ Some after) × Finds (allowance old) rest answer new.line after
          → IsPart input (part_at answer) new later
      by progress.Line a stopped f = absurd (stopped refl)
      by progress.TooLong a stopped f = record { lines = s.lines; rest = rest; begins = begun; lacks = subst (λ n. BeginsTooLong n rest) room f.2.0 }
      by progress.TooMuch a stopped f = record { lines = s.lines; rest = rest; begins = begun; lacks = subst (λ n. IsTooMuch n rest) room f.2.0 }
      by (progress.End partial) a stopped f = record { lines = s.lines; rest = rest; begins = begun; lacks = subst (λ n. IsPartial n rest partial) room f.2.0 }
      by progress.ReadFault a stopped f = unread (text_of_lines s.lines) input rest new later (s.told input e).2 (f.1 ∙ ap Some f.2)

-- at a stop no text is given
pub goes_on_stop : (answer : Progress) (reader : Reader) → GoesOnBehind (part_at answer) reader
goes_on_stop progress.Line reader = tt
goes_on_stop progress.TooLong reader = tt
goes_on_stop progress.TooMuch reader = tt
goes_on_stop (progress.End partial) reader = tt
goes_on_stop progress.ReadFault reader = tt

-- a fault is told of a read fault alone
pub stop_fault : (answer : Progress) → answer ≢ progress.Line → part_at answer ≡ parts.ReadFault → answer ≡ progress.ReadFault
stop_fault progress.Line stopped e = absurd (stopped refl)
stop_fault progress.TooLong stopped e = absurd (cc)
stop_fault progress.TooMuch stopped e = absurd (cc)
stop_fault (progress.End partial) stopped e = absurd (cc)
stop_fault progress.ReadFault stopped e = refl

pub mark_no_fault : (text : Option (Vec ℕ)) → part_of text ≡ parts.ReadFault → ⊥
mark_no_fault (Some v) e = cc
mark_no_fault None e = cc

-- what was kept is no longer than a day may be
pub kept_room : (text : Option (Vec ℕ)) (whole : List ℕ) → IsKept text whole → IfSome text (λ t. vec_len t ≤ LONGEST_DAY)
kept_room None whole kept = tt
kept_room (Some v) whole kept = let e = ap length kept.0 in let w = kept.1 in omega (arith, e, w)
