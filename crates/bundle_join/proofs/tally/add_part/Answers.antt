use Rattle.std.proofs.Common.{ℕ, List, Ok, ap, subst, sym, refl}
use Rattle.std.specs.Prelude.{MatchOption}
use Rattle.part_terms.specs.Parts.{Restricts}
use Rattle.bundle_join.proofs.Parts.{adds_none, adds_one, adds_taken, none_of}
use Rattle.bundle_join.proofs.tally.add_part.Goals as goal

pub returns-in_default-clause-says : goal.returns-in_default-clause-says
returns-in_default-clause-says c =
    let whole = c.args.whole.now in
    let part = c.instance.result.now in
    let none = subst (λ o. MatchOption o ((tasks : List ℕ) → Restricts whole part tasks → ⊥) (λ tasks. Restricts whole part tasks.items)) (none_of c.in_ok-tasks.field-0 c.in_default.not-Some) c.in_ok-tasks.ensures in
    adds_none whole part c.args.text.now c.args.tally.now c.args.tally.now (λ d good is. c.instance.ensures d (c.in_ok-judged.ensures.is d good is).whole) c.one_more_part.ensures.some none

pub returns-then-not-branch-clause-says : goal.returns-then-not-branch-clause-says
returns-then-not-branch-clause-says c =
    let whole = c.args.whole.now in
    let part = c.instance.result.now in
    let found = subst (λ o. MatchOption o ((tasks : List ℕ) → Restricts whole part tasks → ⊥) (λ tasks. Restricts whole part tasks.items)) c.in-Some.is c.in_ok-tasks.ensures in
    let r : Restricts whole part c.deref.result.now = subst (Restricts whole part) (sym c.deref.ensures.value) found in
    adds_taken whole part c.args.text.now c.args.tally.now _ (λ d good is. c.instance.ensures d (c.in_ok-judged.ensures.is d good is).whole) c.deref.result.now r c.one_more_part.ensures.only
    (λ all. let t = c.in_ok-take.ensures.answer.1 all in let f = c.if-not-branch.true in absurd (cc))

pub returns-clause-says : goal.returns-clause-says
returns-clause-says c =
    let whole = c.args.whole.now in
    let part = c.instance.result.now in
    let found = subst (λ o. MatchOption o ((tasks : List ℕ) → Restricts whole part tasks → ⊥) (λ tasks. Restricts whole part tasks.items)) c.in-Some.is c.in_ok-tasks.ensures in
    let r : Restricts whole part c.deref.result.now = subst (Restricts whole part) (sym c.deref.ensures.value) found in
    let t = c.if-not-branch.false in
    adds_one whole part c.args.text.now c.args.tally.now _ (λ d good is. c.instance.ensures d (c.in_ok-judged.ensures.is d good is).whole) c.deref.result.now r c.one_more_part.ensures.more
    (c.in_ok-take.ensures.answer.0 (cc)) (c.in_ok-take.ensures.taken (ap Ok t)) c.in_ok-judged.judged.verdict.bound refl (λ d good is. ap (λ v. v.bound) (c.in_ok-judged.ensures.is d good is).says)
