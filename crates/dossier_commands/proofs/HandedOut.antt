-- the bytes of the lines that a reader hands out
use Rattle.std.proofs.Common.{◌≡◌, ◌++◌, ℕ, List, [], Option, None, Some, ap, subst, sym, refl, ◌∙◌, append_assoc}
use Rattle.crew_terms.specs.Words.{with_feed}
use Rattle.crew_io.specs.Lines.{Reader, Advances, AnswersTold, allowance, rest_of, with_left}
use Rattle.crew_io.specs.declared.lines.Progress.{Progress}
use Rattle.crew_io.specs.declared.lines.Progress.TheVariants.{Line}
use Rattle.cert_checker.specs.Checked.{Checked}
use Rattle.dossier_commands.specs.Input.{HasHandedOut, IsOutcomeAtStop, KeepsDossier, Over, Short, Fault}
use Rattle.dossier_commands.specs.declared.input.Outcome.{Outcome}

none_more : (rest : Option (List ℕ)) → rest ≡ with_left [] rest
none_more None = refl
none_more (Some rest) = refl

-- nothing is handed out yet
pub keeps_none : (old : Reader) (left : Option (List ℕ)) (kept : List ℕ) → kept ≡ [] → HasHandedOut old left kept old left
keeps_none old left kept e = subst (λ bytes. HasHandedOut old left bytes old left) (sym e) (none_more (rest_of old left))

line_more : (allowed : ℕ) (first rest later : Option (List ℕ)) (kept line : List ℕ) → first ≡ with_left kept rest → AnswersTold allowed rest Line line later
    → first ≡ with_left (kept ++ with_feed line) later
line_more allowed first None later kept line e told = e ∙ ap (with_left (kept ++ with_feed line)) (sym told)
line_more allowed first (Some rest) later kept line e told =
    e ∙ ap Some (ap (λ x. kept ++ x) told.2.parts ∙ sym (append_assoc kept (with_feed line) told.0)) ∙ ap (with_left (kept ++ with_feed line)) (sym told.1)

-- one line more
pub keeps_line : (first old new : Reader) (left0 left later : Option (List ℕ)) (kept : List ℕ) → HasHandedOut first left0 kept old left → Advances old left Line new later
    → HasHandedOut first left0 (kept ++ with_feed new.line) new later
keeps_line first old new left0 left later kept so a = line_more (allowance old) (rest_of first left0) (rest_of old left) (rest_of new later) kept new.line so a.rest

-- where no line comes whole there is no dossier
pub stop_is_no_yes : (checker after : Checked) (answer : Progress) (outcome : Outcome) → IsOutcomeAtStop checker answer after outcome
    → (old new : Reader) (left later : Option (List ℕ)) (kept : List ℕ) → KeepsDossier old left kept new later outcome
stop_is_no_yes checker after answer outcome (Over end ended same is) old new left later kept = subst (KeepsDossier old left kept new later) (sym is) tt
stop_is_no_yes checker after answer outcome (Short why told more refused is) old new left later kept = subst (KeepsDossier old left kept new later) (sym is) tt
stop_is_no_yes checker after answer outcome (Fault told same is) old new left later kept = subst (KeepsDossier old left kept new later) (sym is) tt
