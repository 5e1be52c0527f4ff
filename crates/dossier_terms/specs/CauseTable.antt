-- the table of lines: the cause of a split
use Rattle.std.specs.Prelude.{◌≡◌, ◌≤◌, ◌++◌, ℕ, suc, [], ◌∷◌, length, codes}
use Rattle.crew_num.specs.declared.Overflow.{Overflow}
use Rattle.crew_num.specs.Exact.{IsOverflow}
use Rattle.crew_terms.specs.Words.{Words}
use Rattle.crew_terms.specs.Plan.{unassigned_count}
use Rattle.share_terms.specs.Shares.{IsRouteIn}
use Rattle.dossier_terms.specs.declared.Reason.TheVariants.{Shape, Number, Cause as BadCause}
use Rattle.dossier_terms.specs.Causes.{NoCause, Loose, Overflowed, Spent, Shares, column_of, IsPartOf, IsLooseAt}
use Rattle.dossier_terms.specs.Lines.{why_none_line, loose_line, share_line, spare_line, overflow_line, spent_line}
use Rattle.dossier_terms.specs.Reading.{Answer, SplitSite, limits_before, cause_done, parts_due}
use Rattle.dossier_terms.specs.Rules.{Must, When, MustSpell, Goes, IsShape}
use Rattle.dossier_terms.specs.Ranges.{IsNowWord, IsLooseLine, IsSpareLine, IsOverflowLine, IsWhy, BeginsWhy, IsWhyOverflow}

-- how many tasks there are, and how many of them the plan leaves unassigned
abbrev pub tasks_at : SplitSite → ℕ
tasks_at p = length p.begun.instance.tasks

abbrev pub open_at : SplitSite → ℕ
open_at p = unassigned_count p.begun.plan

-- a line `why none`
abbrev pub none_row : SplitSite → Words → Answer → Type 0
none_row p ws = Must (ws ≡ why_none_line) Shape (Goes (cause_done p NoCause))

-- a line `why loose`
abbrev pub loose_row : SplitSite → Words → Answer → Type 0
loose_row p ws = Must (IsWhy (codes "loose") 3 ws) Shape
    (MustSpell (λ (z : ℕ × ℕ × ℕ). loose_line z.0 z.1 z.2) (IsLooseLine (tasks_at p)) ws Number λ z.
    Must (open_at p ≤ z.0) BadCause
    (Goes (parts_due p z.0 (record { whole = z.1; parts = []; spare = [] }) z.2 0)))

-- a line `why overflow`
abbrev pub overflow_row : SplitSite → Words → Answer → Type 0
overflow_row p ws = Must (IsWhyOverflow ws) Shape
    (MustSpell (λ (z : ℕ × Overflow). overflow_line z.0 z.1) (IsOverflowLine (tasks_at p)) ws Number λ z.
    Must (open_at p ≤ z.0) BadCause
    (Must (IsOverflow z.1) BadCause
    (Goes (cause_done p (Overflowed z.0 z.1)))))

-- a line `why spent`
abbrev pub spent_row : SplitSite → Words → Answer → Type 0
spent_row p ws = Must (IsWhy (codes "spent") 1 ws) Shape
    (MustSpell spent_line (IsNowWord (tasks_at p)) ws Number λ now.
    Must (open_at p ≤ now) BadCause
    (Goes (cause_done p (Spent now))))

-- a line `why`
abbrev pub why_row : SplitSite → Words → Answer → Type 0
why_row p ws = When (BeginsWhy (codes "loose") ws) (loose_row p ws)
    (When (BeginsWhy (codes "overflow") ws) (overflow_row p ws)
    (When (BeginsWhy (codes "spent") ws) (spent_row p ws)
    (none_row p ws)))

-- a line `share`, where so many more come after it and the column's number is at least `from`
abbrev pub share_row : SplitSite → ℕ → Shares → ℕ → ℕ → Words → Answer → Type 0
share_row p now read left from ws = Must (IsShape (codes "share") 2 ws) Shape
    (MustSpell share_line (IsPartOf (length p.begun.pool) read.whole) ws Number λ part.
    Must (from ≤ part.column) BadCause
    (Must (IsRouteIn (limits_before p) (column_of p.begun.pool part.column)) BadCause
    (Goes (parts_due p now (record read { parts = read.parts ++ part ∷ [] }) left (suc part.column)))))

-- a line `spare`
abbrev pub spare_row : SplitSite → ℕ → Shares → Words → Answer → Type 0
spare_row p now read ws = Must (IsShape (codes "spare") (tasks_at p) ws) Shape
    (MustSpell spare_line (IsSpareLine (tasks_at p) read.whole) ws Number λ spare.
    Must (IsLooseAt p.begun.pool (limits_before p) now (record read { spare = spare })) BadCause
    (Goes (cause_done p (Loose now (record read { spare = spare })))))
