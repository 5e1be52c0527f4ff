use Rattle.std.proofs.Common.{◌≡◌, ◌<◌, ◌+◌, ◌++◌, ◌∷◌, [], List, ℕ, length, take, get_or, ap, subst, sym, ◌∙◌, arith, append_assoc}
use Rattle.std.proofs.lemmas.List.{length-take-le, take_more}
use Rattle.trial_command.specs.Findings.{AreLines, Holds}
use Rattle.trial_command.proofs.feed.feed.Goals as goal

-- a piece up to its first LF, and that LF
with_its_feed : (bytes piece : List ℕ) (n : ℕ) → n < length piece → get_or piece n 0 ≡ 10 → (bytes ++ take n piece) ++ 10 ∷ [] ≡ bytes ++ take (n + 1) piece
with_its_feed bytes piece n below is = append_assoc bytes (take n piece) (10 ∷ []) ∙ ap (λ x. bytes ++ x) (ap (λ b. take n piece ++ b ∷ []) (sym is) ∙ sym (take_more piece n 0 below))

pub returns-then-until-room-clause-finding : goal.returns-then-until-room-clause-finding
returns-then-until-room-clause-finding c = λ bytes are.
    let piece = c.args.piece.now in
    let until = c.first_feed-until.result in
    let within = c.first_feed-until.ensures.within in
    let room = c.room.ensures in
    let long = c.if-until-room.true in
    let n = length-take-le until piece within in
    c.lines_are_short.ensures.long bytes c.args.front.now c.args.checker.now (take until piece) are c.first_feed-until.ensures.plain (omega arith)

pub returns-clause-finding : goal.returns-clause-finding
returns-clause-finding c = λ bytes are.
    let piece = c.args.piece.now in
    let until = c.first_feed-until.result in
    let front = c.args.front.now in
    let within = c.first_feed-until.ensures.within in
    let room = c.room.ensures in
    let short = c.if-until-room.false in
    let n = length-take-le until piece within in
    let some = c.if-until-piece.false in
    let below : until < length piece = omega arith in
    let grown = c.lines_are_short.ensures.front bytes front c.args.checker.now (take until piece) are c.first_feed-until.ensures.plain (omega arith) in
    subst (λ (x : List ℕ). Holds c.in_ok-judge.field-0 x c.judge.new.front c.judge.new.checker) (with_its_feed bytes piece until below (c.first_feed-until.ensures.feed below))
    (c.in_ok-judge.ensures (bytes ++ take until piece) (subst (λ (x : List ℕ). AreLines (bytes ++ take until piece) x c.args.checker.now) (sym c.in_ok-add.ensures.ok) grown))
