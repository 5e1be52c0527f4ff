use Rattle.std.proofs.Common.{◌≡◌, ◌<◌, ◌∙◌, [], None, All, ap, sym, subst, arith, length, List, refl, ℕ}
use Rattle.std.specs.Prelude.{Contains}
use Rattle.crew_terms.specs.Limits.{Limits, tasks_in}
use Rattle.search_terms.specs.declared.Place.{Place}
use Rattle.search_terms.specs.declared.Place.TheVariants.{Shortage}
use Rattle.search_terms.specs.Rows.{Rows}
use Rattle.search_terms.specs.Opening.{opening, opening_basis, places}
use Rattle.kept_rows.specs.State.{AreOpening}
use Rattle.search_terms.specs.MasterRun.{IsMasterRun, IsRunOver}
use Rattle.crew_terms.specs.Instance.{Instance}
use Rattle.search_terms.specs.MasterRun.MasterRun.{Opens}
use Rattle.kept_rows.specs.Table.{table}
use Rattle.frac_master.specs.State.{MasterState}
use Rattle.frac_master.specs.Numbers.{IsKnown}
use Rattle.frac_master.proofs.Opened.{opened_rows, all_filter, fewer, known_from}
use Rattle.frac_master.proofs.master.Master.open.Goals as goal

pub open_basics-requires : goal.open_basics-requires
open_basics-requires c =
    let n = c.args.limits.now.limits in
    let ps = c.in_ok-places.places.items in
    let ts = c.in_ok-teams.teams.items in
    let k = known_from ts ps (λ j h.
    let lt = (c.places_are.ensures.tasks n j).0 (subst (λ l. Contains l (Shortage j)) c.in_ok-places.ensures.places h) in
    subst (λ m. j < m) (sym c.in_ok-teams.ensures.count) lt) in
    rw (c.deref.ensures.value, c.deref-2.ensures.value) (record { known = k })

known_all : (teams : List ℕ) (n : Limits) (ps : List Place) → length teams ≡ tasks_in n → ps ≡ places n → ((j : ℕ) → Contains (places n) (Shortage j) → j < tasks_in n)
    → All (IsKnown teams) ps
known_all teams n ps count same h = known_from teams ps (λ j has. subst (λ m. j < m) (sym count) (h j (subst (λ l. Contains l (Shortage j)) same has)))

pub value_row-requires-clause-known : goal.value_row-requires-clause-known
value_row-requires-clause-known c =
    let n = c.args.limits.now.limits in
    let ps = c.in_ok-places.places.items in
    let ts = c.in_ok-teams.teams.items in
    let same = c.in_ok-places.ensures.places in
    let teams = c.in_ok-teams.ensures.teams in
    let b = c.in_ok-basics.basics in
    let a = rw (c.deref.ensures.value, c.deref-2.ensures.value) at c.in_ok-basics.ensures in
    let all = all_filter (IsKnown ts) ps (known_all ts n ps c.in_ok-teams.ensures.count same (λ j. (c.places_are.ensures.tasks n j).0)) in
    rw c.deref-3.ensures.value (subst (All (IsKnown ts)) (sym (c.deref-5.ensures.value ∙ a.basics)) all)

pub value_row-requires-clause-few : goal.value_row-requires-clause-few
value_row-requires-clause-few c =
    let n = c.args.limits.now.limits in
    let ps = c.in_ok-places.places.items in
    let ts = c.in_ok-teams.teams.items in
    let same = c.in_ok-places.ensures.places in
    let teams = c.in_ok-teams.ensures.teams in
    let b = c.in_ok-basics.basics in
    let a = rw (c.deref.ensures.value, c.deref-2.ensures.value) at c.in_ok-basics.ensures in
    let e = ap length (c.deref-5.ensures.value ∙ a.basics) in
    omega (arith, fewer ps, c.in_ok-places.ensures.few)

pub open-requires : goal.open-requires
open-requires c =
    let n = c.args.limits.now.limits in
    let ps = c.in_ok-places.places.items in
    let ts = c.in_ok-teams.teams.items in
    let same = c.in_ok-places.ensures.places in
    let teams = c.in_ok-teams.ensures.teams in
    let b = c.in_ok-basics.basics in
    let a = rw (c.deref.ensures.value, c.deref-2.ensures.value) at c.in_ok-basics.ensures in
    let value = c.in_ok-value.value in
    let v = rw (c.deref-3.ensures.value, c.deref-4.ensures.value, c.deref-5.ensures.value) at c.in_ok-value.ensures in
    let e = ap (table c.push.new.self.items) c.in_ok-push-2.ensures.items
    ∙ opened_rows n ts ps b.rows.items c.push.new.self.items b.basis.items b.basics.items value same teams a (v n teams) c.in_ok-push.ensures.items in
    let o : AreOpening (opening n) = record { basic = c.openers_are_ones.ensures.basic n; ones = c.openers_are_ones.ensures.ones n } in
    rw c.deref-6.ensures.value (subst AreOpening (sym e) o)

pub invariant_of-result : goal.invariant_of-result
invariant_of-result c =
    let n = c.args.limits.now.limits in
    let ps = c.in_ok-places.places.items in
    let ts = c.in_ok-teams.teams.items in
    let same = c.in_ok-places.ensures.places in
    let teams = c.in_ok-teams.ensures.teams in
    let b = c.in_ok-basics.basics in
    let a = rw (c.deref.ensures.value, c.deref-2.ensures.value) at c.in_ok-basics.ensures in
    let value = c.in_ok-value.value in
    let v = rw (c.deref-3.ensures.value, c.deref-4.ensures.value, c.deref-5.ensures.value) at c.in_ok-value.ensures in
    let e = ap (table c.push.new.self.items) c.in_ok-push-2.ensures.items
    ∙ opened_rows n ts ps b.rows.items c.push.new.self.items b.basis.items b.basics.items value same teams a (v n teams) c.in_ok-push.ensures.items in
    let rows = c.in_ok-table.ensures.rows ∙ ap (λ l. table l c.push-2.new.self.items) c.deref-6.ensures.value ∙ e in
    let count = c.tasks.ensures.count ∙ ap (λ (i : Instance). length i.tasks) c.instance.ensures.instance in
    record {
      few = omega (arith, c.in_ok-places.ensures.few);
      live = λ _. record {
        run = record { limits = n; same = same; routes = []; teams = λ k d lt. absurd (omega arith); made = 0; run = subst (λ t. IsMasterRun n [] 0 t) (sym rows) Opens };
        columns = ap length c.new.ensures.items;
        tasks = sym count;
        openers = c.in_ok-table.ensures.openers ∙ ap (λ (t : Rows). t.basis) e ∙ ap opening_basis (sym same);
      };
    }

pub returns-clause-opened : goal.returns-clause-opened
returns-clause-opened c =
    let n = c.args.limits.now.limits in
    let ps = c.in_ok-places.places.items in
    let ts = c.in_ok-teams.teams.items in
    let same = c.in_ok-places.ensures.places in
    let teams = c.in_ok-teams.ensures.teams in
    let b = c.in_ok-basics.basics in
    let a = rw (c.deref.ensures.value, c.deref-2.ensures.value) at c.in_ok-basics.ensures in
    let value = c.in_ok-value.value in
    let v = rw (c.deref-3.ensures.value, c.deref-4.ensures.value, c.deref-5.ensures.value) at c.in_ok-value.ensures in
    let e = ap (table c.push.new.self.items) c.in_ok-push-2.ensures.items
    ∙ opened_rows n ts ps b.rows.items c.push.new.self.items b.basis.items b.basics.items value same teams a (v n teams) c.in_ok-push.ensures.items in
    let rows = c.in_ok-table.ensures.rows ∙ ap (λ l. table l c.push-2.new.self.items) c.deref-6.ensures.value ∙ e in
    let l = c.new.ensures.items in
    let t = c.in_ok-table.table.rows in
    ap (λ (ps : List Place). let h : MasterState = record { places = ps; columns = c.new.result.items; rows = t; ended = None; made = 0 } in h) same
    ∙ ap (λ (cs : List ℕ). let h : MasterState = record { places = places n; columns = cs; rows = t; ended = None; made = 0 } in h) l
    ∙ ap (λ (t : Rows). let h : MasterState = record { places = places n; columns = []; rows = t; ended = None; made = 0 } in h) rows

pub returns-clause-list : goal.returns-clause-list
returns-clause-list c =
    let n = c.args.limits.now.limits in
    let ps = c.in_ok-places.places.items in
    let ts = c.in_ok-teams.teams.items in
    let same = c.in_ok-places.ensures.places in
    let teams = c.in_ok-teams.ensures.teams in
    let b = c.in_ok-basics.basics in
    let a = rw (c.deref.ensures.value, c.deref-2.ensures.value) at c.in_ok-basics.ensures in
    let value = c.in_ok-value.value in
    let v = rw (c.deref-3.ensures.value, c.deref-4.ensures.value, c.deref-5.ensures.value) at c.in_ok-value.ensures in
    let e = ap (table c.push.new.self.items) c.in_ok-push-2.ensures.items
    ∙ opened_rows n ts ps b.rows.items c.push.new.self.items b.basis.items b.basics.items value same teams a (v n teams) c.in_ok-push.ensures.items in
    let rows = c.in_ok-table.ensures.rows ∙ ap (λ l. table l c.push-2.new.self.items) c.deref-6.ensures.value ∙ e in
    record {
      places = same;
      columns = ap length c.new.ensures.items;
      going = refl;
      run = subst (IsRunOver n [] 0) (sym rows) Opens;
    }
