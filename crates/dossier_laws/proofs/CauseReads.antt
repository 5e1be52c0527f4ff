-- what is read of a split's cause is its lines, and may be told of its node
use Rattle.std.proofs.Common.{◌≡◌, ◌≤◌, ◌+◌, ℕ, zero, suc, List, [], ◌∷◌, ◌++◌, length, ap, sym, refl, ◌∙◌, subst, arith, append_assoc, append-nil, length-append}
use Rattle.std.specs.Prelude.{map}
use Rattle.std.specs.List.{AllByRecursion}
use Rattle.crew_terms.specs.Words.{Words}
use Rattle.crew_terms.specs.Instance.{Instance}
use Rattle.crew_terms.specs.Limits.{root_limits}
use Rattle.dossier_terms.specs.Causes.{Cause, NoCause, Loose, Overflowed, Spent, Shares, IsNow, IsPartOf, PartsRise, IsCauseIn}
use Rattle.dossier_terms.specs.Dossier.{Split}
use Rattle.dossier_terms.specs.Lines.{choice_line, cause_lines, split_lines, loose_line, share_line, spare_line}
use Rattle.dossier_terms.specs.Reading.{Reading, Answer, Whys, Parts, Spares, SplitSite, limits_before, cause_done, parts_due}
use Rattle.dossier_terms.specs.Ranges.{IsNowWord}
use Rattle.dossier_terms.specs.CauseTable.{none_row, loose_row, overflow_row, spent_row, why_row, share_row, spare_row, tasks_at, open_at}
use Rattle.dossier_terms.specs.Counted.{instance_below}
use Rattle.dossier_laws.proofs.Lists.{map_more}
use Rattle.dossier_laws.proofs.SoFar.{IsSplitSite, ArePartsRead, CauseHolds, IsReading, spelled, Follows, nodes_so_far, split_so_far, parts_so_far}
use Rattle.dossier_laws.proofs.Rules.{must_then, when_then, spells_then, goes_then}
use Rattle.dossier_laws.proofs.NodeReads.{split_text}

-- ---- whole causes

cause_reads : (p : SplitSite) (cause : Cause) (lines : List Words) → IsSplitSite p → IsCauseIn p.begun.pool (limits_before p) (open_at p) cause
    → split_so_far p ++ cause_lines cause ≡ lines → (spelled (cause_done p cause) ≡ lines) × IsReading (cause_done p cause)
cause_reads p cause lines r h e =
    let split : Split = record { choice = p.choice; cause = cause } in
    let told : CauseHolds p.begun.form p.begun (limits_before p) cause = subst (λ form. CauseHolds form p.begun (limits_before p) cause) (sym r.3) h in (
      split_text p.begun p.counts p.above split (choice_line p.choice ∷ cause_lines cause) (ap (λ form. split_lines form split) r.3)
          ∙ sym (append_assoc (nodes_so_far p.begun p.counts p.above) (choice_line p.choice ∷ []) (cause_lines cause)) ∙ e,
      (r.0, ((r.2, told), r.1)),
    )

-- a number of tasks that the line may have, where it is not less than the plan's
now_read : (p : SplitSite) (now : ℕ) → IsNowWord (tasks_at p) now → open_at p ≤ now → IsNow (limits_before p) (open_at p) now
now_read p now h enough = record {
  some = h.some;
  known = subst (λ (i : Instance). now ≤ length i.tasks) (sym (instance_below (root_limits p.begun.instance) p.above)) h.known;
  enough = enough;
}

-- ---- shares

push : {X : Type 0} (P : X → Type 0) (xs : List X) (x : X) → AllByRecursion P xs → P x → AllByRecursion P (xs ++ x ∷ [])
push P [] x h k = (k, tt)
push P (y ∷ ys) x h k = (h.0, push P ys x h.1 k)

due_parts : (p : SplitSite) (now : ℕ) (read : Shares) (left from : ℕ) → ArePartsRead p now read left from
    → (spelled (parts_due p now read left from) ≡ parts_so_far p now read (length read.parts + left)) × IsReading (parts_due p now read left from)
due_parts p now read zero from h = (ap (parts_so_far p now read) (let e : length read.parts ≡ length read.parts + 0 = omega arith in e), (from, h))
due_parts p now read (suc left) from h = (refl, h)

-- ---- the rows

none_follows : (p : SplitSite) (ws : Words) (said : Answer) → IsSplitSite p → none_row p ws said → Follows (Whys p) ws said
none_follows p ws said r h = must_then s ws said (λ e g.
    goes_then s ws said (cause_reads p NoCause _ r tt (ap (λ w. split_so_far p ++ w ∷ []) (sym e))) g) h
  where
    s : Reading
    s = Whys p

loose_follows : (p : SplitSite) (ws : Words) (said : Answer) → IsSplitSite p → loose_row p ws said → Follows (Whys p) ws said
loose_follows p ws said r h = must_then s ws said (λ shape g.
    spells_then s ws said (λ z is e g.
    must_then s ws said (λ enough g.
    let read : Shares = record { whole = z.1; parts = []; spare = [] } in
    let begun : ArePartsRead p z.0 read z.2 0 = record {
      site = r;
      now_known = now_read p z.0 is.now enough;
      whole = is.whole;
      count = omega (arith, is.count);
      parts = tt;
      rise = λ more k. k;
    } in
    let due = due_parts p z.0 read z.2 0 begun in
    goes_then s ws said (
      due.0 ∙ ap (λ n. split_so_far p ++ loose_line z.0 z.1 n ∷ []) (let e : 0 + z.2 ≡ z.2 = omega arith in e) ∙ ap (λ w. split_so_far p ++ w ∷ []) (sym e),
      due.1,
    ) g) g) g) h
  where
    s : Reading
    s = Whys p

overflow_follows : (p : SplitSite) (ws : Words) (said : Answer) → IsSplitSite p → overflow_row p ws said → Follows (Whys p) ws said
overflow_follows p ws said r h = must_then s ws said (λ shape g.
    spells_then s ws said (λ z is e g.
    must_then s ws said (λ enough g.
    must_then s ws said (λ leaves g.
    goes_then s ws said (cause_reads p (Overflowed z.0 z.1) _ r (now_read p z.0 is.now enough, record { a = is.a; b = is.b; leaves = leaves })
    (ap (λ w. split_so_far p ++ w ∷ []) (sym e))) g) g) g) g) h
  where
    s : Reading
    s = Whys p

spent_follows : (p : SplitSite) (ws : Words) (said : Answer) → IsSplitSite p → spent_row p ws said → Follows (Whys p) ws said
spent_follows p ws said r h = must_then s ws said (λ shape g.
    spells_then s ws said (λ now is e g.
    must_then s ws said (λ enough g.
    goes_then s ws said (cause_reads p (Spent now) _ r (now_read p now is enough) (ap (λ w. split_so_far p ++ w ∷ []) (sym e))) g) g) g) h
  where
    s : Reading
    s = Whys p

pub why_follows : (p : SplitSite) (ws : Words) (said : Answer) → IsSplitSite p → why_row p ws said → Follows (Whys p) ws said
why_follows p ws said r h =
    when_then s ws said (λ loose g. loose_follows p ws said r g) (λ g.
    when_then s ws said (λ overflow g. overflow_follows p ws said r g) (λ g.
    when_then s ws said (λ spent g. spent_follows p ws said r g) (λ g.
    none_follows p ws said r g) g) g) h
  where
    s : Reading
    s = Whys p

pub share_follows : (p : SplitSite) (now : ℕ) (read : Shares) (left from : ℕ) (ws : Words) (said : Answer) → ArePartsRead p now read (suc left) from
    → share_row p now read left from ws said → Follows (Parts p now read left from) ws said
share_follows p now read left from ws said r h = must_then s ws said (λ shape g.
    spells_then s ws said (λ part is e g.
    must_then s ws said (λ later g.
    must_then s ws said (λ legal g.
    let next : Shares = record read { parts = read.parts ++ part ∷ [] } in
    let count = r.count in
    let n : length next.parts + left ≡ length read.parts + suc left = omega (arith, length-append read.parts (part ∷ [])) in
    let more : ArePartsRead p now next left (suc part.column) = record {
      site = r.site;
      now_known = r.now_known;
      whole = r.whole;
      count = omega arith;
      parts = push (IsPartOf (length p.begun.pool) read.whole) read.parts part r.parts is;
      rise = λ rest k. subst (PartsRise 0) (sym (append_assoc read.parts (part ∷ []) rest)) (r.rise (part ∷ rest) (later, k));
    } in
    let due = due_parts p now next left (suc part.column) more in
    goes_then s ws said (
      due.0 ∙ ap (parts_so_far p now next) n
          ∙ map_more share_line (split_so_far p) (loose_line now read.whole (length read.parts + suc left)) read.parts part
          ∙ ap (λ w. spelled s ++ w ∷ []) (sym e),
      due.1,
    ) g) g) g) g) h
  where
    s : Reading
    s = Parts p now read left from

pub spare_follows : (p : SplitSite) (now : ℕ) (read : Shares) (ws : Words) (said : Answer) → (from : ℕ) × ArePartsRead p now read 0 from
    → spare_row p now read ws said → Follows (Spares p now read) ws said
spare_follows p now read ws said r h = must_then s ws said (λ shape g.
    spells_then s ws said (λ spare is e g.
    must_then s ws said (λ loose g.
    let all : Shares = record read { spare = spare } in
    let count = r.1.count in
    let rise : PartsRise 0 read.parts = subst (PartsRise 0) (append-nil read.parts) (r.1.rise [] tt) in
    goes_then s ws said (cause_reads p (Loose now all) _ r.1.site (r.1.now_known, record { whole = r.1.whole; count = omega arith; parts = r.1.parts; rise = rise }, loose)
    (sym (append_assoc (split_so_far p) (loose_line now read.whole (length read.parts) ∷ map share_line read.parts) (spare_line spare ∷ []))
    ∙ ap (λ w. parts_so_far p now read (length read.parts) ++ w ∷ []) (sym e))) g) g) g) h
  where
    s : Reading
    s = Spares p now read
