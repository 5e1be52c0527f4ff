use Rattle.std.proofs.Common.{ℕ, List, subst, sym}
use Rattle.std.specs.Prelude.{MatchOption}
use Rattle.part_terms.specs.Parts.{Restricts}
use Rattle.parts_reader.proofs.Added.{takes, takes_none}
use Rattle.parts_reader.proofs.parts.take_part.Goals as goal

pub returns-in-Some : goal.returns-in-Some
returns-in-Some c =
    let whole = c.args.whole.now in
    let part = c.args.part.now in
    let found = subst (λ o. MatchOption o ((tasks : List ℕ) → Restricts whole part tasks → ⊥) (λ tasks. Restricts whole part tasks.items)) c.in-Some.is c.in_ok-tasks.ensures in
    let r : Restricts whole part c.deref.result.now = subst (Restricts whole part) (sym c.deref.ensures.value) found in
    takes whole part c.one_more_part.ensures.more c.one_more_part.ensures.only c.deref.result.now c.args.taken.now c.take.new.self r c.take.result c.take.ensures.answer c.take.ensures.taken

pub returns-in-None : goal.returns-in-None
returns-in-None c =
    let whole = c.args.whole.now in
    let part = c.args.part.now in
    let none = subst (λ o. MatchOption o ((tasks : List ℕ) → Restricts whole part tasks → ⊥) (λ tasks. Restricts whole part tasks.items)) c.in-None.is c.in_ok-tasks.ensures in
    takes_none whole part c.one_more_part.ensures.some none c.args.taken.now
