-- the plans of rounds whose texts were written are ones that they may have
use Rattle.std.proofs.Common.{◌∷◌, [], ℕ, List, sym, subst}
use Rattle.crew_terms.specs.Legal.{IsLegal}
use Rattle.crew_terms.specs.Plan.{Plan}
use Rattle.dossier_terms.specs.Dossier.{Dossier}
use Rattle.route_terms.specs.Named.{NamedRoute}
use Rattle.day_terms.specs.Rounds.{Round}
use Rattle.replan.specs.Rounds.{AreRoundDossiers, handed_on}
use Rattle.day_commands.specs.Dossiers.{plans_in}
use Rattle.day_commands.specs.Outputs.{AreLegal, MayHave, TextsOf}
use Rattle.day_commands.specs.declared.ended.DayOutput.{DayOutput}
use Rattle.day_commands.specs.declared.ended.DayOutput.TheVariants.{Instances, Dossiers}

legal_all : (handed : List NamedRoute) (rounds : List Round) (ds : List Dossier) → AreRoundDossiers handed rounds ds → AreLegal (plans_in ds) rounds
legal_all handed rounds [] are = tt
legal_all handed [] (d ∷ ds) are = absurd are
legal_all handed (r ∷ rs) (d ∷ ds) are = (subst (λ i. IsLegal i d.plan) are.0.instance are.0.legal, legal_all (handed_on d) rs ds are.1)

-- what was written of rounds with such plans
pub may_have : (output : DayOutput) (plans : List Plan) (rounds : List Round) (text : List ℕ) → TextsOf output plans rounds text → MayHave output plans rounds
may_have Instances plans rounds text a = a.0
may_have Dossiers plans rounds text a = subst (λ ps. AreLegal ps rounds) (sym a.1.plans_are) (legal_all [] rounds a.0 a.1.dossiers_are)
