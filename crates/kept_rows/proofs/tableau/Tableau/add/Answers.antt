use Rattle.std.proofs.Common.{◌≡◌, ◌-◌, ◌∙◌, suc, arith, rules, refl, ap, sym, subst, length, All}
use Rattle.crew_num.specs.Exact.{FitsI128}
use Rattle.kept_rows.specs.Columns.{Combines, IsKeptRow, IsKnownIn, full_rows}
use Rattle.kept_rows.specs.Bounds.{IsReachWith}
use Rattle.std.specs.Prelude.{IfSome}
use Rattle.kept_rows.specs.Forming.{IsFormingFault, IsRowFault, sum_of, with_variable}
use Rattle.kept_rows.specs.Kept.{HaveHomes}
use Rattle.kept_rows.specs.Replaced.{AreWithin}
use Rattle.kept_rows.specs.State.{State}
use Rattle.kept_rows.specs.Table.{rows_of}
use Rattle.kept_rows.proofs.Added.{forming_fault, homes_push, kept_push, known_push, rows_push, within_push}
use Rattle.kept_rows.proofs.tableau.Tableau.add.Goals as goal

pub returns-in-Err : goal.returns-in-Err
returns-in-Err c =
    let a = c.self.inside in
    let numbers = c.args.numbers.now in
    let count : length numbers ≡ length a.openers.items = subst (λ (s : State). length numbers ≡ length s.openers) (sym c.self.view_is) c.requires in
    let f = subst (λ rows. IsFormingFault (rows_of rows) numbers c.in-Err.fault) c.deref.ensures.value c.in-Err.ensures in
    let r = forming_fault a.columns.items a.openers.items a.rows.items numbers c.in-Err.fault c.self.invariant.homes count f in
    (refl, subst (λ (s : State). IsRowFault s.rows.rows s.openers numbers c.in-Err.fault) c.self.view_is r)

pub invariant_of-self-2 : goal.invariant_of-self-2
invariant_of-self-2 c =
    let a = c.self.inside in
    let numbers = c.args.numbers.now in
    let col = c.in_ok-column.column in
    let w = suc (length a.openers.items) in
    let count : length numbers ≡ length a.openers.items = subst (λ (s : State). length numbers ≡ length s.openers) (sym c.self.view_is) c.requires in
    let items = c.in_ok-push.ensures.items in
    let len : c.len.result ≡ length a.openers.items = search rules in
    let is : Combines numbers col = c.in_ok-column.ensures in
    let fits = subst (λ rows. All (λ row. FitsI128 (sum_of (length numbers) row numbers)) (rows_of rows)) c.deref.ensures.value c.in_default.ensures in
    record {
      some = c.self.invariant.some;
      height = c.self.invariant.height;
      known = subst (All (IsKnownIn w)) (sym items) (known_push w a.columns.items col numbers (omega arith) is c.self.invariant.known);
      homes = subst (λ cs. HaveHomes cs a.openers.items) (sym items) (homes_push a.columns.items a.openers.items col c.self.invariant.homes);
      rows = subst (λ cs. All (IsKeptRow w cs) (rows_of a.rows.items)) (sym items) (kept_push w a.columns.items col (rows_of a.rows.items) numbers is fits c.self.invariant.rows);
      room = c.self.invariant.room;
      reach = subst (AreWithin (length a.openers.items - 1) c.reach_with-reach.result) (sym items)
          (within_push (length a.openers.items - 1) a.columns.items col a.reach c.reach_with-reach.result c.self.invariant.reach
          (subst (λ k. IfSome c.reach_with-reach.result (IsReachWith a.reach (k - 1) col)) len c.reach_with-reach.ensures));
    }

pub returns : goal.returns
returns c =
    let a = c.self.inside in
    let numbers = c.args.numbers.now in
    let col = c.in_ok-column.column in
    let count : length numbers ≡ length a.openers.items = subst (λ (s : State). length numbers ≡ length s.openers) (sym c.self.view_is) c.requires in
    let items = c.in_ok-push.ensures.items in
    let is : Combines numbers col = c.in_ok-column.ensures in
    let rows = ap (λ cs. full_rows cs a.rows.items) items ∙ rows_push a.columns.items a.openers.items col (rows_of a.rows.items) numbers c.self.invariant.homes count is in
    let e = ap (λ l. let s : State = record { rows = record { rows = l; basis = a.basis.items }; openers = a.openers.items } in s) rows in
    e ∙ ap (λ s. with_variable numbers s) c.self.view_is
