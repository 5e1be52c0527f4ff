use Rattle.std.proofs.Common.{◌++◌, ◌∷◌, [], List, ℕ, map, subst, sym}
use Rattle.crew_terms.specs.Words.{words_of}
use Rattle.cert_checker.specs.Checked.{IsJudged}
use Rattle.trial_command.specs.Findings.{Holds, finding_of}
use Rattle.trial_command.specs.declared.feed.Finding.{Finding}
use Rattle.trial_command.proofs.feed.judge.Goals as goal

pub returns : goal.returns
returns c = λ bytes are.
    let front = c.args.front.now in
    let old = c.args.checker.now in
    let new = c.line.new.self in
    let said = c.in_ok-said.said in
    let judged = subst (λ (line : List ℕ). IsJudged old.lines are.due (words_of line) said new) c.bytes.ensures.value (c.in_ok-said.ensures.judged are.due (map words_of are.lines, are.leads) are.stands) in
    subst (λ (finding : Finding). Holds finding (bytes ++ 10 ∷ []) c.clear.new.self new) (sym c.finding_of.ensures)
    (subst (λ (x : List ℕ). Holds (finding_of said) (bytes ++ 10 ∷ []) x new) (sym c.clear.ensures) (c.lines_are_judged.ensures bytes front old new said are judged))
