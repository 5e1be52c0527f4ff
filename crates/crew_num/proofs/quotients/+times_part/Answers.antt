use Rattle.std.proofs.Common.{◌≡◌, ◌+◌, ◌*◌, ◌/◌, ℕ, ap, arith}
use Rattle.crew_num.proofs.quotients.+times_part.Goals as goal

-- the double of the product with half the factor, and with what is left of the factor
doubled : (part by q quotient rest carry last left : ℕ) → by ≡ 2 * (by / 2) + left → quotient * q + rest ≡ part * (by / 2)
    → carry * q + last ≡ rest + rest → (2 * quotient + carry) * q + last + part * left ≡ part * by
doubled part by q quotient rest carry last left e half twice = let f = ap (λ n. part * n) e in omega arith

pub returns-then-by-eq0-2-clause-exact : goal.returns-then-by-eq0-2-clause-exact
returns-then-by-eq0-2-clause-exact t c =
    let h = doubled c.args.part c.args.by c.args.q _ _ _ _ 0 (omega arith) c.times_part-half.ensures.exact c.add_parts-twice.ensures.exact in
    omega (arith, h)

pub returns-clause-exact : goal.returns-clause-exact
returns-clause-exact t c =
    let h = doubled c.args.part c.args.by c.args.q _ _ _ _ 1 (omega arith) c.times_part-half.ensures.exact c.add_parts-twice.ensures.exact in
    omega (arith, h)
