use Rattle.std.proofs.Common.{◌≡◌, ◌∙◌, ◌<◌, [], ℤ, List, length, get_or, refl, ap, sym, arith}
use Rattle.std.specs.Int.{w64}
use Rattle.std.proofs.lemmas.Int.{to_z-of_z}
use Rattle.crew_terms.specs.Leaf.{Prices}
use Rattle.potentials.specs.Prices.{with_rho}
use Rattle.kept_prices.specs.Rows.{whole_row, with_row}
use Rattle.kept_prices.proofs.RowLemmas.{price_at, put_on, row_count, same_front, set_same, whole_count}
use Rattle.kept_prices.proofs.rows.put_row.Goals as goal

pub loop-j-init : goal.loop-j-init
loop-j-init c =
    let p : Prices = c.args.prices.now in (
      get_or p.rho c.args.k [],
      row_count p c.args.k c.tasks-j-end.ensures.limits c.requires.team,
      refl,
      ap (λ (rows : List (List ℤ)). record p { rho = rows }) (sym (set_same [] p.rho c.args.k)),
    )

pub loop-j-preserved : goal.loop-j-preserved
loop-j-preserved c =
    let v = c.loop-j.invariant in
    let p : Prices = c.args.prices.now in
    let n = length p.pi in
    let end = c.tasks-j-end.ensures.count in
    let test = c.loop-j-test.true in
    let fits : c.loop-j.j < n = omega arith in
    let source = whole_row n c.args.row.now in
    let all = whole_count n c.args.row.now c.requires.row in
    let known : c.loop-j.j < length source = omega arith in
    let x : ℤ = c.price_in.result in
    let price : c.set_rho.new.self ≡ with_rho c.loop-j.prices c.args.k c.loop-j.j x =
    c.set_rho.ensures.price ∙ ap (λ (z : ℤ). with_rho c.loop-j.prices c.args.k c.loop-j.j z) (to_z-of_z w64 x (record { sfits = c.price_in.type_inv })) in
    put_on p c.loop-j.prices c.set_rho.new.self c.args.k c.loop-j.j v.0 source x c.requires.team v.3 price
    (c.price_in.ensures ∙ price_at n c.args.row.now c.loop-j.j c.requires.row fits) known v.1 fits v.2

pub returns : goal.returns
returns c =
    let v = c.loop-j.invariant in
    let p : Prices = c.args.prices.now in
    let n = length p.pi in
    let end = c.tasks-j-end.ensures.count in
    let test = c.loop-j-test.false in
    let count = v.1 in
    let all = whole_count n c.args.row.now c.requires.row in
    v.3 ∙ ap (λ (row : List ℤ). with_row p c.args.k row) (same_front c.loop-j.j v.0 (whole_row n c.args.row.now) (omega arith) (omega arith) v.2)
