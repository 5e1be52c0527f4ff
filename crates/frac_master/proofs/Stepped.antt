-- the facts of a step, in the words of the master
use Rattle.std.proofs.Common.{◌<◌, ℕ, arith}
use Rattle.crew_num.specs.declared.Overflow.{Overflow}
use Rattle.crew_num.specs.Exact.{IsFirstOf}
use Rattle.crew_num.specs.Exact.IsFirstOf.{Raised, Taken, Rest}
use Rattle.search_terms.specs.Rows.{Rows, number, row_of, width, AreBasic}
use Rattle.search_terms.specs.Pivot.{IsEntering, IsLeaving}
use Rattle.search_terms.specs.Overflows.{IsOfPivot, IsNumberOfPivot}
use Rattle.search_terms.specs.Overflows.IsOfPivot.{Ratio, OfRow, OfPivotRow, OfBoth}
use Rattle.frac_master.specs.Choosing.{IsRatioFault}
use Rattle.kept_rows.specs.Clearing.{IsClearingFault}
use Rattle.frac_master.specs.Stepping.{IsPivotFault}

pub fault_of_ratio : (t : Rows) (v : ℕ) (f : Overflow) → IsEntering t v → IsRatioFault t v f → IsPivotFault t f
fault_of_ratio t v f e r = record { leaves = r.leaves; how = Ratio v e r.how }

pub fault_of_clearing : (t : Rows) (v h : ℕ) (f : Overflow) → AreBasic t → IsEntering t v → IsLeaving t v h
    → IsClearingFault (row_of t h) h v t.rows f → IsPivotFault t f
fault_of_clearing t v h f b e l c =
    let place : c.first.at < width t = omega (arith, c.first.known, b.widths c.i c.known) in
    record { leaves = c.first.leaves; how = by_first place c.first.how }
  where
    at : c.first.at < width t → IsNumberOfPivot t v h c.i c.first.at
    at place = record { enters = e; leaves = l; row = c.known; other = c.other; place = place }

    by_first : c.first.at < width t
        → IsFirstOf (number (row_of t h) v) (number (row_of t c.i) c.first.at) (number (row_of t c.i) v) (number (row_of t h) c.first.at) f
        → IsOfPivot t f
    by_first place (Raised is) = OfRow v h c.i c.first.at (at place) is
    by_first place (Taken raised is) = OfPivotRow v h c.i c.first.at (at place) is
    by_first place (Rest raised taken is) = OfBoth v h c.i c.first.at (at place) is
