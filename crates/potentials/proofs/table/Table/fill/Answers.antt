use Rattle.std.proofs.Common.{◌≡◌, ◌≢◌, ◌≤◌, ◌<◌, ◌+◌, ℕ, ℤ, ◌⊎◌, inl, inr, refl, ap, ◌∙◌, arith, to_z, of_z, w64}
use Rattle.std.proofs.lemmas.Bool.{cases_eq}
use Rattle.std.proofs.lemmas.Int.{to_z-of_z}
use Rattle.potentials.specs.Table.{phi}
use Rattle.potentials.proofs.table.Table.fill.Goals as goal

pub loop-t-init : goal.loop-t-init
loop-t-init c = record {
  values = λ t from below. absurd (omega arith);
  others = λ j t out. refl;
  count = refl;
  minutes = λ j t has. has;
  table = λ instance is. is;
}

pub set-requires-clause-minute : goal.set-requires-clause-minute
set-requires-clause-minute c = c.loop-t.invariant.minutes c.args.i c.loop-t.t (record {
  early = let a = c.requires.first.early in let b = c.loop-t.auto.t in omega arith;
  late = let a = c.requires.last.late in omega arith;
})

pub loop-t-preserved : goal.loop-t-preserved
loop-t-preserved c = record {
  values = λ t from below. by t from below (cases_eq t c.loop-t.t);
  others = λ j t out. c.set.ensures.others j t (λ e f. let a = c.loop-t.auto.t in let o = out e (omega arith) in let b = c.loop-t-test.true in absurd (omega arith)) ∙ c.loop-t.invariant.others j t out;
  count = c.set.ensures.count ∙ c.loop-t.invariant.count;
  minutes = λ j t has. c.set.ensures.minutes j t (c.loop-t.invariant.minutes j t has);
  table = λ instance is. c.set.ensures.table instance (c.loop-t.invariant.table instance is);
}
  where
    v : ℤ
    v = to_z w64 (of_z w64 c.args.v)

    by : (t : ℕ) → c.args.from ≤ t → t < c.loop-t.t + 1 → (t ≡ c.loop-t.t) ⊎ (t ≡ c.loop-t.t → ⊥) → phi c.set.new.self c.args.i t ≡ v
    by t from below (inl e) = ap (phi c.set.new.self c.args.i) e ∙ c.set.ensures.value
    by t from below (inr ne) = c.set.ensures.others c.args.i t (λ _. ne) ∙ c.loop-t.invariant.values t from (let d : t ≢ c.loop-t.t = ne in omega arith)

pub returns-2-clause-values : goal.returns-2-clause-values
returns-2-clause-values c t from until = by (cases_eq t c.loop-t.t) ∙ to_z-of_z w64 c.args.v c.ranges.v
  where
    by : (t ≡ c.loop-t.t) ⊎ (t ≡ c.loop-t.t → ⊥) → phi c.set.new.self c.args.i t ≡ to_z w64 (of_z w64 c.args.v)
    by (inl e) = ap (phi c.set.new.self c.args.i) e ∙ c.set.ensures.value
    by (inr ne) = c.set.ensures.others c.args.i t (λ _. ne) ∙ c.loop-t.invariant.values t from (let d : t ≢ c.loop-t.t = ne in omega arith)

pub returns-2-clause-others : goal.returns-2-clause-others
returns-2-clause-others c j t out =
    c.set.ensures.others j t (λ e f. let a = c.loop-t.auto.t in let o = out e (omega arith) in let b = c.loop-t-test.true in absurd (omega arith)) ∙ c.loop-t.invariant.others j t out

pub returns-2-clause-count : goal.returns-2-clause-count
returns-2-clause-count c = c.set.ensures.count ∙ c.loop-t.invariant.count

pub returns-2-clause-minutes : goal.returns-2-clause-minutes
returns-2-clause-minutes c j t has = c.set.ensures.minutes j t (c.loop-t.invariant.minutes j t has)
