-- a law of words: they ask for one trial
use Rattle.std.proofs.Common.{◌≡◌, ap, sym, ◌∙◌, arith}
use Rattle.std.specs.Fmt.{decimal}
use Rattle.std.proofs.lemmas.Fmt.{decimal_injective}
use Rattle.crew_terms.specs.Words.{Words}
use Rattle.trial_command.specs.Trials.{AsksForTrial, IsTrial, trial_words}
use Rattle.trial_command.specs.declared.words.Trial.{Trial}

-- trials with the same numbers are one
same_trial : (t u : Trial) → t.number ≡ u.number → t.teams ≡ u.teams → t.tasks ≡ u.tasks → t.nodes ≡ u.nodes → t ≡ u
same_trial t u number teams tasks nodes =
    ap (λ x. record t { number = x }) number
    ∙ ap (λ x. record t { number = u.number; teams = x }) teams
    ∙ ap (λ x. record t { number = u.number; teams = u.teams; tasks = x }) tasks
    ∙ ap (λ x. record t { number = u.number; teams = u.teams; tasks = u.tasks; nodes = x }) nodes

-- the words behind the first are the same
same_number : (t u : Trial) → trial_words t ≡ trial_words u → decimal t.number ≡ decimal u.number
same_number t u e = cc

same_teams : (t u : Trial) → trial_words t ≡ trial_words u → decimal t.teams ≡ decimal u.teams
same_teams t u e = cc

same_tasks : (t u : Trial) → trial_words t ≡ trial_words u → decimal t.tasks ≡ decimal u.tasks
same_tasks t u e = cc

same_nodes : (t u : Trial) → trial_words t ≡ trial_words u → decimal t.nodes ≡ decimal u.nodes
same_nodes t u e = cc

pub one_trial : (words : Words) (t u : Trial) → AsksForTrial t words → AsksForTrial u words → t ≡ u
one_trial words t u a b =
    let e : trial_words t ≡ trial_words u = sym a.1 ∙ b.1 in
    let p : IsTrial t = a.0 in
    let q : IsTrial u = b.0 in
    same_trial t u (decimal_injective t.number u.number (omega arith) (omega arith) (same_number t u e))
    (decimal_injective t.teams u.teams (omega arith) (omega arith) (same_teams t u e))
    (decimal_injective t.tasks u.tasks (omega arith) (omega arith) (same_tasks t u e))
    (decimal_injective t.nodes u.nodes (omega arith) (omega arith) (same_nodes t u e))
