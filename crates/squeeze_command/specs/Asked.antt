-- a law of words: they ask for one number of steps
use Rattle.std.proofs.Common.{◌≡◌, ap, sym, ◌∙◌, arith}
use Rattle.std.specs.Fmt.{decimal}
use Rattle.std.proofs.lemmas.Fmt.{decimal_injective}
use Rattle.crew_terms.specs.Words.{Words}
use Rattle.squeeze_command.specs.Words.{AsksForSqueeze, squeeze_words}
use Rattle.squeeze_command.specs.declared.words.Squeeze.{Squeeze}

same_steps : (s t : Squeeze) → squeeze_words s ≡ squeeze_words t → decimal s.steps ≡ decimal t.steps
same_steps s t e = cc

pub one_squeeze : (words : Words) (s t : Squeeze) → AsksForSqueeze s words → AsksForSqueeze t words → s ≡ t
one_squeeze words s t a b =
    let e : squeeze_words s ≡ squeeze_words t = sym a.1 ∙ b.1 in
    let p = a.0 in
    let q = b.0 in
    ap (λ x. record s { steps = x }) (decimal_injective s.steps t.steps (omega arith) (omega arith) (same_steps s t e))
