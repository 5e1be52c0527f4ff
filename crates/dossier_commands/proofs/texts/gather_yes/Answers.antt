use Rattle.std.proofs.Common.{◌++◌, [], ◌∷◌, ap, ◌∙◌}
use Rattle.std.specs.Prelude.{codes}
use Rattle.std.specs.Fmt.{decimal}
use Rattle.crew_terms.specs.Words.{Words}
use Rattle.cert_checker.specs.declared.checker.Verdict.{Verdict}
use Rattle.dossier_commands.proofs.YesLine.{count_more, line_of_words, written}
use Rattle.dossier_commands.proofs.texts.gather_yes.Goals as goal

-- the words so far
abbrev unassigned : Verdict → Words
unassigned v = codes "unassigned" ∷ decimal v.unassigned ∷ []

abbrev bound : Verdict → Words
bound v = unassigned v ++ codes "bound" ∷ decimal v.bound ∷ []

abbrev splits : Verdict → Words
splits v = bound v ++ codes "splits" ∷ decimal v.splits ∷ []

abbrev closed : Verdict → Words
closed v = splits v ++ codes "closed" ∷ decimal v.closed ∷ []

abbrev last : Verdict → Words
last v = closed v ++ codes "open" ∷ decimal v.left_open ∷ []

pub returns-clause-line : goal.returns-clause-line
returns-clause-line c = λ d is.
    let v = c.args.verdict in
    let yes = codes "yes" in
    let a = count_more yes [] (codes "unassigned") (decimal v.unassigned) _ _ c.add_bytes-at.ensures.added c.add_count-at.ensures.added in
    let b = count_more yes (unassigned v) (codes "bound") (decimal v.bound) _ _ a c.add_count-at-2.ensures.added in
    let e = count_more yes (bound v) (codes "splits") (decimal v.splits) _ _ b c.add_count-at-3.ensures.added in
    let f = count_more yes (splits v) (codes "closed") (decimal v.closed) _ _ e c.add_count-at-4.ensures.added in
    let g = count_more yes (closed v) (codes "open") (decimal v.left_open) _ _ f c.add_count-at-5.ensures.added in
    let h = count_more yes (last v) (codes "unshown") (decimal v.unshown) _ _ g c.add_count-at-6.ensures.added in
    let line = line_of_words yes (last v ++ codes "unshown" ∷ decimal v.unshown ∷ []) _ h in
    (c.add_bytes.ensures.added ∙ line) ∙ ap written is
