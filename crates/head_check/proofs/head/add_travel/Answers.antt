use Rattle.std.proofs.Common.{◌≡◌, ◌+◌, ◌-◌, suc, List, length, ap, sym, subst, ◌∙◌, arith}
use Rattle.std.specs.Prelude.{ℤ, pos}
use Rattle.std.proofs.lemmas.List.{length-map}
use Rattle.crew_terms.specs.declared.TheConstants.{LAST_MINUTE}
use Rattle.crew_instance.specs.Draft.{with_row}
use Rattle.dossier_terms.specs.Reading.{travels_due}
use Rattle.dossier_terms.specs.Rules.{Goes}
use Rattle.dossier_terms.specs.HeadTable.{after_travel}
use Rattle.head_check.specs.declared.due.Head.{Head}
use Rattle.head_check.specs.Numbers.{AreBelow, naturals}
use Rattle.head_check.specs.Head.{HasRowsLeft, IsHead, IsRowOf, HeadTells, instance_so_far, opening_of, read_before_rows}
use Rattle.head_check.proofs.Steps.{told_by}
use Rattle.head_check.proofs.HeadRows.{travel_parts}
use Rattle.head_check.proofs.HeadSteps.{head_more, minutes_below}
use Rattle.head_check.proofs.head.add_travel.Goals as goal
use Rattle.head_check.specs.NumbersBack.{naturals-pos}

counted : (times : List ℤ) (h : Head) → IsRowOf times h → length times ≡ h.size.places
counted times h t = ap length t.1 ∙ length-map t.0 pos ∙ t.2.count

pub overflow_sub-from : goal.overflow_sub-from
overflow_sub-from c =
    let held = subst (λ (h : Head). HasRowsLeft h (suc c.args.more)) (sym c.deref_mut-held.ensures.value) c.requires.held in
    let n = held.2.places in let l = held.1 in let m = c.places.ensures.count in omega arith

pub set_row-requires-clause-place : goal.set_row-requires-clause-place
set_row-requires-clause-place c =
    let held = subst (λ (h : Head). HasRowsLeft h (suc c.args.more)) (sym c.deref_mut-held.ensures.value) c.requires.held in
    let n = held.2.places in let l = held.1 in let m = c.places.ensures.count in omega arith

pub set_row-requires-clause-count : goal.set_row-requires-clause-count
set_row-requires-clause-count c =
    let b : Head = c.deref_mut-held.result.now in
    let held = subst (λ (h : Head). HasRowsLeft h (suc c.args.more)) (sym c.deref_mut-held.ensures.value) c.requires.held in
    counted c.args.times.now b (subst (IsRowOf c.args.times.now) (sym c.deref_mut-held.ensures.value) c.requires.times) ∙ sym held.2.places

pub set_row-requires-clause-day : goal.set_row-requires-clause-day
set_row-requires-clause-day c =
    let t = c.requires.times in
    subst (AreBelow (LAST_MINUTE + 1)) (sym t.1) (minutes_below t.0 t.2.minutes)

pub due_travels-requires : goal.due_travels-requires
due_travels-requires c =
    let b : Head = c.deref_mut-held.result.now in
    let held : HasRowsLeft b (suc c.args.more) = subst (λ (h : Head). HasRowsLeft h (suc c.args.more)) (sym c.deref_mut-held.ensures.value) c.requires.held in
    let t : IsRowOf c.args.times.now b = subst (IsRowOf c.args.times.now) (sym c.deref_mut-held.ensures.value) c.requires.times in
    let p = held.0 in
    let l = held.1 in
    let n = held.2.places in
    let m = c.places.ensures.count in
    let rows = c.places.ensures.limits.rows in
    let from : c.places.result - 1 - c.args.more ≡ p = omega arith in
    let row : naturals c.args.times.now ≡ t.0 = ap naturals t.1 ∙ naturals-pos t.0 in
    let sets : c.set_row.new.builder ≡ with_row b.builder p t.0 =
    c.in_ok-set_row.ensures ∙ ap (λ a. with_row b.builder a (naturals c.args.times.now)) from ∙ ap (with_row b.builder p) row in (
      p + 1,
      (omega arith),
      subst (λ d. IsHead (record { form = b.form; size = b.size; builder = d }) b.size.places (p + 1) 0 0) (sym sets)
          (head_more b.form b.size b.builder p b.size.places t.0 held.2 (omega arith) t.2.count),
    )

pub returns : goal.returns
returns c = λ row is.
    let b : Head = c.deref_mut-held.result.now in
    let e : b ≡ c.args.head.value = c.deref_mut-held.ensures.value in
    let held : HasRowsLeft b (suc c.args.more) = subst (λ (h : Head). HasRowsLeft h (suc c.args.more)) (sym e) c.requires.held in
    let t : IsRowOf c.args.times.now b = subst (IsRowOf c.args.times.now) (sym e) c.requires.times in
    let r = b.size.places - suc c.args.more in
    let new = c.set_row.new.builder in
    let l = held.1 in
    let n = held.2.places in
    let m = c.places.ensures.count in
    let rows = c.places.ensures.limits.rows in
    let from : c.places.result - 1 - c.args.more ≡ r = omega arith in
    let sets : new ≡ with_row b.builder r row =
    c.in_ok-set_row.ensures ∙ ap (λ a. with_row b.builder a (naturals c.args.times.now)) from
    ∙ ap (with_row b.builder r) (ap naturals is ∙ naturals-pos row) in
    let next : b.size.places - c.args.more ≡ suc r = omega arith in
    let size : length row ≡ b.size.places = sym (length-map row pos) ∙ sym (ap length is) ∙ counted c.args.times.now b t in
    let parts = travel_parts b.builder r row (omega arith) (omega arith) in
    subst (λ (h : Head). HeadTells (after_travel (opening_of h) c.args.more (read_before_rows h (suc c.args.more)) row) c.due_travels.result) e
    (told_by c.due_travels.result c.due_travels.ensures (λ said rest.
    subst (λ i. Goes (travels_due (opening_of b) c.args.more i) said) parts
    (subst (λ d. Goes (travels_due (opening_of b) c.args.more (instance_so_far d (suc r))) said) sets
    (subst (λ x. Goes (travels_due (opening_of b) c.args.more (instance_so_far new x)) said) next rest))))
