use Rattle.std.proofs.Common.{◌<◌, ◌^◌, ◌≡◌, ◌∙◌, ap, subst, sym, arith, rules, pos, get_or, length, FitsSigned, unsigned_abs}
use Rattle.std.specs.Int.{w128}
use Rattle.std.specs.Prelude.{◌<ℤ◌}
use Rattle.std.proofs.lemmas.Int.{to_z-of_z}
use Rattle.crew_num.specs.Exact.{FitsI128}
use Rattle.kept_rows.specs.Columns.{IsKnownIn, entry_in}
use Rattle.kept_rows.specs.Factor.{IsCovered}
use Rattle.kept_rows.specs.Replaced.{AreLowered}
use Rattle.kept_rows.proofs.Entries.{full_at}
use Rattle.kept_rows.proofs.NewRow.{kept_steps, mid_fits, mid_positive, new_row, start_some, start_fits, start_covered}
use Rattle.kept_rows.proofs.replacing.replace.Goals as goal

pub combine-requires-clause-fits : goal.combine-requires-clause-fits
combine-requires-clause-fits c =
    let w = length c.args.pivot.now in
    let p : FitsSigned w128 c.args.p = c.ranges.p in
    let e : FitsSigned w128 c.args.e = c.ranges.e in
    let x : FitsSigned w128 c.over_factor-by.result.p = search rules in
    let y : FitsSigned w128 c.over_factor-by.result.e = search rules in
    let low : AreLowered c.args.p c.args.e c.over_factor-by.result = rw (to_z-of_z w128 c.args.p p, to_z-of_z w128 c.args.e e) at c.over_factor-by.ensures in
    λ j lt. rw (to_z-of_z w128 c.over_factor-by.result.p x, to_z-of_z w128 c.over_factor-by.result.e y)
    (kept_steps w c.args.columns.now c.args.pivot.now c.args.row.now c.args.p c.args.e c.over_factor-by.result c.requires.can.combine c.requires.fits low j
    (omega (arith, c.requires.can.row_kept.wide)))

pub entry-requires-clause-known : goal.entry-requires-clause-known
entry-requires-clause-known c =
    let w = length c.args.pivot.now in
    let e : length c.combine.new.row ≡ w = c.combine.ensures.width ∙ c.requires.can.row_kept.wide in
    subst (λ d. IsKnownIn (length c.combine.new.row) d) (sym c.index-columns-basic.is)
    (subst (λ k. IsKnownIn k (get_or c.args.columns.now c.args.basic c.index-columns-basic.result)) (sym e) (c.requires.can.combine.known c.args.basic c.index-columns-basic.result c.requires.can.known))

pub entry-requires-clause-fits : goal.entry-requires-clause-fits
entry-requires-clause-fits c =
    let w = length c.args.pivot.now in
    let p : FitsSigned w128 c.args.p = c.ranges.p in
    let e : FitsSigned w128 c.args.e = c.ranges.e in
    let x : FitsSigned w128 c.over_factor-by.result.p = search rules in
    let y : FitsSigned w128 c.over_factor-by.result.e = search rules in
    let low : AreLowered c.args.p c.args.e c.over_factor-by.result = rw (to_z-of_z w128 c.args.p p, to_z-of_z w128 c.args.e e) at c.over_factor-by.ensures in
    let m = rw (to_z-of_z w128 c.over_factor-by.result.p x, to_z-of_z w128 c.over_factor-by.result.e y) at c.combine.ensures in
    let f = mid_fits w c.args.columns.now c.args.pivot.now c.args.row.now c.combine.new.row c.args.p c.args.e c.over_factor-by.result low c.requires.can.row_kept.wide
    c.requires.can.combine c.requires.fits m c.args.basic c.requires.can.known in
    subst (λ d. FitsI128 (entry_in c.combine.new.row d)) (sym c.index-columns-basic.is)
    (subst FitsI128 (full_at c.args.columns.now c.combine.new.row c.args.basic c.index-columns-basic.result c.requires.can.known) f)

pub divide-requires-clause-covered : goal.divide-requires-clause-covered
divide-requires-clause-covered c =
    let w = length c.args.pivot.now in
    let z : FitsSigned w128 c.entry.result = search rules in
    let is = rw (to_z-of_z w128 c.entry.result z) at c.unsigned_abs-start.ensures.value in
    let e : length c.combine.new.row ≡ w = c.combine.ensures.width ∙ c.requires.can.row_kept.wide in
    let all = start_covered w c.args.columns.now c.combine.new.row c.args.basic c.index-columns-basic.result e c.requires.can.combine.known c.requires.can.known in
    let same = is ∙ ap unsigned_abs (c.entry.ensures ∙ ap (entry_in c.combine.new.row) c.index-columns-basic.is) in
    subst (λ k. IsCovered c.combine.new.row k) (sym same) all

pub divide-requires-clause-some : goal.divide-requires-clause-some
divide-requires-clause-some c =
    let w = length c.args.pivot.now in
    let p : FitsSigned w128 c.args.p = c.ranges.p in
    let e : FitsSigned w128 c.args.e = c.ranges.e in
    let x : FitsSigned w128 c.over_factor-by.result.p = search rules in
    let y : FitsSigned w128 c.over_factor-by.result.e = search rules in
    let z : FitsSigned w128 c.entry.result = search rules in
    let is = rw (to_z-of_z w128 c.entry.result z) at c.unsigned_abs-start.ensures.value in
    let low : AreLowered c.args.p c.args.e c.over_factor-by.result = rw (to_z-of_z w128 c.args.p p, to_z-of_z w128 c.args.e e) at c.over_factor-by.ensures in
    let m = rw (to_z-of_z w128 c.over_factor-by.result.p x, to_z-of_z w128 c.over_factor-by.result.e y) at c.combine.ensures in
    let f = mid_positive w c.args.columns.now c.args.pivot.now c.args.row.now c.combine.new.row c.args.v c.args.basic c.args.p c.args.e c.over_factor-by.result low c.requires.can c.requires.p m in
    let g = subst (λ k. pos 0 <ℤ k) (full_at c.args.columns.now c.combine.new.row c.args.basic c.index-columns-basic.result c.requires.can.known
    ∙ sym (c.entry.ensures ∙ ap (entry_in c.combine.new.row) c.index-columns-basic.is)) f in
    subst (λ k. 0 < k) (sym is) (start_some c.entry.result g)

pub divide-requires-clause-fits : goal.divide-requires-clause-fits
divide-requires-clause-fits c =
    let w = length c.args.pivot.now in
    let p : FitsSigned w128 c.args.p = c.ranges.p in
    let e : FitsSigned w128 c.args.e = c.ranges.e in
    let x : FitsSigned w128 c.over_factor-by.result.p = search rules in
    let y : FitsSigned w128 c.over_factor-by.result.e = search rules in
    let z : FitsSigned w128 c.entry.result = search rules in
    let is = rw (to_z-of_z w128 c.entry.result z) at c.unsigned_abs-start.ensures.value in
    let low : AreLowered c.args.p c.args.e c.over_factor-by.result = rw (to_z-of_z w128 c.args.p p, to_z-of_z w128 c.args.e e) at c.over_factor-by.ensures in
    let m = rw (to_z-of_z w128 c.over_factor-by.result.p x, to_z-of_z w128 c.over_factor-by.result.e y) at c.combine.ensures in
    let f = mid_positive w c.args.columns.now c.args.pivot.now c.args.row.now c.combine.new.row c.args.v c.args.basic c.args.p c.args.e c.over_factor-by.result low c.requires.can c.requires.p m in
    let g = subst (λ k. pos 0 <ℤ k) (full_at c.args.columns.now c.combine.new.row c.args.basic c.index-columns-basic.result c.requires.can.known
    ∙ sym (c.entry.ensures ∙ ap (entry_in c.combine.new.row) c.index-columns-basic.is)) f in
    subst (λ k. k < 2 ^ 127) (sym is) (start_fits c.entry.result g z)

pub returns : goal.returns
returns c =
    let w = length c.args.pivot.now in
    let p : FitsSigned w128 c.args.p = c.ranges.p in
    let e : FitsSigned w128 c.args.e = c.ranges.e in
    let x : FitsSigned w128 c.over_factor-by.result.p = search rules in
    let y : FitsSigned w128 c.over_factor-by.result.e = search rules in
    let low : AreLowered c.args.p c.args.e c.over_factor-by.result = rw (to_z-of_z w128 c.args.p p, to_z-of_z w128 c.args.e e) at c.over_factor-by.ensures in
    let m = rw (to_z-of_z w128 c.over_factor-by.result.p x, to_z-of_z w128 c.over_factor-by.result.e y) at c.combine.ensures in
    new_row w c.args.columns.now c.args.pivot.now c.args.row.now c.combine.new.row c.divide.new.row c.args.v c.args.basic c.args.p c.args.e c.over_factor-by.result
    c.requires.can c.requires.p c.requires.e c.requires.fits low m c.divide.ensures
