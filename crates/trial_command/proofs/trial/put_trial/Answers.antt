use Rattle.std.proofs.Common.{List, ℕ, [], ◌∷◌, subst}
use Rattle.std.specs.Prelude.{codes}
use Rattle.std.specs.Fmt.{decimal}
use Rattle.crew_terms.specs.Words.{line_text}
use Rattle.crew_io.specs.Puts.{Puts}
use Rattle.cert_checker.specs.declared.checker.Verdict.{Verdict}
use Rattle.trial_command.specs.declared.words.Trial.{Trial}
use Rattle.trial_command.proofs.trial.put_trial.Goals as goal

-- the line that is written
abbrev written : Trial → Verdict → List ℕ
written t v = line_text (codes "trial" ∷ decimal t.number ∷ decimal t.teams ∷ decimal t.tasks
    ∷ codes "unassigned" ∷ decimal v.unassigned ∷ codes "bound" ∷ decimal v.bound
    ∷ codes "splits" ∷ decimal v.splits ∷ codes "closed" ∷ decimal v.closed ∷ codes "open" ∷ decimal v.left_open
    ∷ codes "unshown" ∷ decimal v.unshown ∷ codes "yes" ∷ [])

pub returns : goal.returns
returns g c = λ d is. subst (λ (v : Verdict). Puts g.K.Sink (written c.args.trial v) c.args.out.now c.put_line.new.out c.put_line.result) is c.put_line.ensures
