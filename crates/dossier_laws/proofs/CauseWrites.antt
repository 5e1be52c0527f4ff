-- the lines of a cause that may be told are read
use Rattle.std.proofs.Common.{◌≡◌, ◌≤◌, ℕ, suc, List, [], ◌∷◌, ◌++◌, length, ap, sym, refl, ◌∙◌, subst, arith, append_assoc, append-nil}
use Rattle.std.proofs.lemmas.List.{get_or_default, length-map}
use Rattle.std.proofs.lemmas.List.Elements.{recursion_from_All}
use Rattle.std.specs.Prelude.{map}
use Rattle.std.specs.List.{AllByRecursion}
use Rattle.std.specs.Fmt.{decimal}
use Rattle.crew_terms.specs.Instance.{Instance}
use Rattle.crew_terms.specs.Limits.{root_limits}
use Rattle.share_terms.specs.Shares.{IsRouteIn, Share}
use Rattle.dossier_terms.specs.Causes.{Cause, NoCause, Loose, Overflowed, Spent, Part, Shares, IsNow, IsPartOf, PartsRise, AreShares, IsLooseAt, IsCauseIn, column_of, share_of}
use Rattle.dossier_terms.specs.Lines.{cause_lines, share_line, spare_line}
use Rattle.dossier_terms.specs.Reading.{Whys, Spares, SplitSite, limits_before, cause_done, parts_due}
use Rattle.dossier_terms.specs.Ranges.{IsNowWord, IsLooseLine}
use Rattle.dossier_terms.specs.Rules.{Holds, Then, Else, Spelled, On}
use Rattle.dossier_terms.specs.Table.{Reaches}
use Rattle.dossier_terms.specs.CauseTable.{tasks_at, open_at}
use Rattle.dossier_terms.specs.Counted.{instance_below}
use Rattle.dossier_terms.specs.Apart.{other_why}
use Rattle.dossier_laws.proofs.Rules.{reaches-append}

-- a number of tasks that may be told is one that its line may have
now_written : (p : SplitSite) (now : ℕ) → IsNow (limits_before p) (open_at p) now → IsNowWord (tasks_at p) now
now_written p now h = record {
  some = h.some;
  known = subst (λ (i : Instance). now ≤ length i.tasks) (instance_below (root_limits p.begun.instance) p.above) h.known;
}

-- ---- shares

parts_reached : (p : SplitSite) (now whole : ℕ) (spare : List ℕ) (read parts : List Part) (from : ℕ) → AllByRecursion (IsPartOf (length p.begun.pool) whole) parts → PartsRise from parts
    → AllByRecursion (λ (part : Part). IsRouteIn (limits_before p) (column_of p.begun.pool part.column)) parts
    → Reaches (parts_due p now (record { whole = whole; parts = read; spare = spare }) (length parts) from) (map share_line parts) (Spares p now (record { whole = whole; parts = read ++ parts; spare = spare }))
parts_reached p now whole spare read [] from h rise legal = ap (λ parts. Spares p now (record { whole = whole; parts = parts; spare = spare })) (sym (append-nil read))
parts_reached p now whole spare read (part ∷ parts) from h rise legal = (
  parts_due p now (record { whole = whole; parts = read ++ part ∷ []; spare = spare }) (length parts) (suc part.column),
  Holds (_, refl, refl) (Spelled part h.0 refl (Holds rise.0 (Holds legal.0 (On refl)))),
  subst (λ all. Reaches (parts_due p now (record { whole = whole; parts = read ++ part ∷ []; spare = spare }) (length parts) (suc part.column)) (map share_line parts) (Spares p now (record { whole = whole; parts = all; spare = spare })))
      (append_assoc read (part ∷ []) parts) (parts_reached p now whole spare (read ++ part ∷ []) parts (suc part.column) h.1 rise.1 legal.1),
)

-- the routes of the shares, by their columns
routes_of_parts : (p : SplitSite) (parts : List Part) → AllByRecursion (λ (s : Share). IsRouteIn (limits_before p) s.route) (map (share_of p.begun.pool) parts)
    → AllByRecursion (λ (part : Part). IsRouteIn (limits_before p) (column_of p.begun.pool part.column)) parts
routes_of_parts p [] h = tt
routes_of_parts p (part ∷ parts) h = (h.0, routes_of_parts p parts h.1)

loose_reached : (p : SplitSite) (now : ℕ) (s : Shares) → IsNow (limits_before p) (open_at p) now → AreShares p.begun.pool s → IsLooseAt p.begun.pool (limits_before p) now s
    → Reaches (Whys p) (cause_lines (Loose now s)) (cause_done p (Loose now s))
loose_reached p now s known h loose =
    let n = limits_before p in
    let some = loose.choice.some in
    let legal = routes_of_parts p s.parts (recursion_from_All (λ (s : Share). IsRouteIn n s.route) (map (share_of p.begun.pool) s.parts) loose.choice.routes) in
    let few : AllByRecursion (λ z. z ≤ s.whole) s.spare = recursion_from_All (λ z. z ≤ s.whole) s.spare (λ j d l. subst (λ z. z ≤ s.whole) (get_or_default s.spare j 0 d l) (loose.choice.unassigned j)) in
    let count : length s.spare ≡ tasks_at p = loose.choice.tasks ∙ ap (λ (i : Instance). length i.tasks) (instance_below (root_limits p.begun.instance) p.above) in
    let ranges : IsLooseLine (tasks_at p) (now, s.whole, length s.parts) = record { now = now_written p now known; some = some; whole = h.whole; count = h.count } in (
      parts_due p now (record { whole = s.whole; parts = []; spare = [] }) (length s.parts) 0,
      Then (_, refl) (Holds (_, refl, refl) (Spelled (now, s.whole, length s.parts) ranges refl (Holds known.enough (On refl)))),
      reaches-append (parts_due p now (record { whole = s.whole; parts = []; spare = [] }) (length s.parts) 0) (map share_line s.parts) (Spares p now (record { whole = s.whole; parts = s.parts; spare = [] }))
          (spare_line s.spare ∷ []) (cause_done p (Loose now s))
          (parts_reached p now s.whole [] [] s.parts 0 h.parts h.rise legal)
          (cause_done p (Loose now s), Holds (_, refl, length-map s.spare decimal ∙ count) (Spelled s.spare (record { count = count; most = few }) refl (Holds loose (On refl))), refl),
    )

-- ---- causes

pub cause_reached : (p : SplitSite) (cause : Cause) → IsCauseIn p.begun.pool (limits_before p) (open_at p) cause → Reaches (Whys p) (cause_lines cause) (cause_done p cause)
cause_reached p NoCause h = (
  cause_done p NoCause,
  Else (other_why _ _ (λ e. omega arith)) (Else (other_why _ _ (λ e. omega arith)) (Else (other_why _ _ (λ e. omega arith)) (Holds refl (On refl)))),
  refl,
)
cause_reached p (Loose now s) h = loose_reached p now s h.0 h.1 h.2
cause_reached p (Overflowed now fault) h = (
  cause_done p (Overflowed now fault),
  Else (other_why _ _ (λ e. omega arith)) (Then (_, refl)
      (Holds (fault.op, _, _, _, refl) (Spelled (now, fault) (record { now = now_written p now h.0; a = h.1.a; b = h.1.b }) refl (Holds h.0.enough (Holds h.1.leaves (On refl)))))),
  refl,
)
cause_reached p (Spent now) h = (
  cause_done p (Spent now),
  Else (other_why _ _ (λ e. omega arith)) (Else (other_why _ _ (λ e. omega arith)) (Then (_, refl) (Holds (_, refl, refl) (Spelled now (now_written p now h) refl (Holds h.enough (On refl)))))),
  refl,
)
