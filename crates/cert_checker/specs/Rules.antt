-- what a step and a test of a line tell
use Rattle.std.specs.Prelude.{◌≡◌, ◌≤◌, ◌++◌, ℕ, suc, List, [], ◌∷◌, Result, Ok, Err}
use Rattle.crew_num.specs.declared.Overflow.{Overflow}
use Rattle.crew_num.specs.Exact.{IsOverflow}
use Rattle.share_terms.specs.Shares.{IsRouteIn}
use Rattle.dossier_terms.specs.declared.Reason.{Reason}
use Rattle.dossier_terms.specs.declared.Reason.TheVariants.{Pool, Cause as BadCause}
use Rattle.dossier_terms.specs.Reading.{Answer, No as Refuses, Nodes, routes_due, Begun, SplitSite, limits_before, cause_done, parts_due}
use Rattle.dossier_terms.specs.Causes.{Loose, Overflowed, Spent, Shares, Part, column_of, IsLooseAt}
use Rattle.dossier_terms.specs.CauseTable.{open_at}
use Rattle.crew_terms.specs.declared.TreeCounts.{TreeCounts}
use Rattle.dossier_terms.specs.Rules.{Goes, Must}
use Rattle.dossier_terms.specs.BodyTable.{after_counts}
use Rattle.route_pool.specs.declared.pool.PoolVerdict.{PoolVerdict}
use Rattle.route_pool.specs.declared.pool.PoolVerdict.TheVariants.{Added, NotRoute, Repeated}
use Rattle.cert_checker.specs.Due.{Awaits, draft_of}
use Rattle.cert_checker.specs.declared.due.BegunDossier.{BegunDossier as Held}
use Rattle.cert_checker.specs.declared.due.Step.{Step}
use Rattle.cert_checker.specs.declared.due.Step.TheVariants.{More}

-- the step behind a route, of which the pool says this
abbrev pub TellsRoute : Held → ℕ → PoolVerdict → Result Step Reason → Type 0
TellsRoute b more Added (Ok (More due)) = Awaits due (routes_due (draft_of b) more)
TellsRoute b more NotRoute (Err reason) = reason ≡ Pool
TellsRoute b more Repeated (Err reason) = reason ≡ Pool
TellsRoute b more _ _ = ⊥

-- the numbers of a tree break no rule, or the first that they break is told
abbrev pub TellsCounts : Begun → TreeCounts → Result (Unit {0}) Reason → Type 0
TellsCounts b c (Ok fit) = (s : Answer) → Goes (Nodes b c []) s → after_counts b c s
TellsCounts b c (Err reason) = after_counts b c (Refuses reason)

-- the rules behind the numbers of each line of a cause

abbrev pub after_loose : SplitSite → (now whole count : ℕ) → Answer → Type 0
after_loose p now whole count = Must (open_at p ≤ now) BadCause (Goes (parts_due p now (record { whole = whole; parts = []; spare = [] }) count 0))

abbrev pub after_fault : SplitSite → ℕ → Overflow → Answer → Type 0
after_fault p now fault = Must (open_at p ≤ now) BadCause (Must (IsOverflow fault) BadCause (Goes (cause_done p (Overflowed now fault))))

abbrev pub after_spent : SplitSite → ℕ → Answer → Type 0
after_spent p now = Must (open_at p ≤ now) BadCause (Goes (cause_done p (Spent now)))

abbrev pub after_share : SplitSite → ℕ → Shares → ℕ → Part → Answer → Type 0
after_share p now read left part = Must (IsRouteIn (limits_before p) (column_of p.begun.pool part.column)) BadCause
    (Goes (parts_due p now (record read { parts = read.parts ++ part ∷ [] }) left (suc part.column)))

abbrev pub after_spare : SplitSite → ℕ → Shares → List ℕ → Answer → Type 0
after_spare p now read spare = Must (IsLooseAt p.begun.pool (limits_before p) now (record read { spare = spare })) BadCause
    (Goes (cause_done p (Loose now (record read { spare = spare }))))
