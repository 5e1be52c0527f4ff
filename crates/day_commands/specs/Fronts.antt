-- fronts of what is written of a day
use Rattle.std.proofs.Common.{◌≡◌, ◌++◌, ◌∷◌, [], ℕ, List, Option, None, length, take, ap, sym, subst, refl}
use Rattle.std.proofs.Math.Seq.{take-length}
use Rattle.crew_terms.specs.Plan.{Plan}
use Rattle.day_terms.specs.Rounds.{Round}
use Rattle.day_commands.specs.Rounds.{Stops, TextsFor, SaysRounds, SaysOutputPart, OfRounds, OfRefusal, SaysFirstRounds, NoRound, Rounds, change_stop}
use Rattle.day_commands.specs.Outputs.{TextsOf, ProvedOf, UnprovedOf}
use Rattle.day_commands.specs.Says.{SaysAt}
use Rattle.day_commands.specs.declared.ended.DayOutput.{DayOutput}
use Rattle.day_commands.specs.declared.ended.DayOutput.TheVariants.{Instances, Dossiers}
use Rattle.day_commands.specs.declared.ended.Ended.{Ended}
use Rattle.day_commands.specs.declared.ended.Ended.TheVariants.{Done, Unproved, Refused, ReadFault, WriteFault}

pub take_front : {X : Type 0} (xs ys : List X) → take (length xs) (xs ++ ys) ≡ xs
take_front [] ys = refl
take_front (x ∷ xs) ys = ap (λ l. x ∷ l) (take_front xs ys)

-- what is proved is a text of the rounds
pub proved_are : (output : DayOutput) (plans : List Plan) (rounds : List Round) (text : List ℕ) → ProvedOf output plans rounds text → TextsOf output plans rounds text
proved_are Instances plans rounds text p = p
proved_are Dossiers plans rounds text p = (p.0, p.1)

-- so is what is not
pub unproved_are : (output : DayOutput) (plans : List Plan) (rounds : List Round) (text : List ℕ) → UnprovedOf output plans rounds text → TextsOf output plans rounds text
unproved_are Instances plans rounds text p = absurd p
unproved_are Dossiers plans rounds text p = (p.0, p.1)

-- the texts of the first rounds are a front of themselves
pub first_are_part : (stops : Stops) (Texts : TextsFor) (input written : List ℕ) → SaysFirstRounds stops Texts input written → SaysOutputPart stops Texts input written
first_are_part stops Texts input written says = OfRounds written says (length written) (sym (take-length written))

-- so are those of all rounds
rounds_are_part : (stops : Stops) (Texts Fact : TextsFor) (input written : List ℕ) → ((plans : List Plan) (rounds : List Round) (text : List ℕ) → Fact plans rounds text → Texts plans rounds text)
    → SaysRounds stops Fact input written → SaysOutputPart stops Texts input written
rounds_are_part stops Texts Fact input written are says =
    first_are_part stops Texts input written
    (Rounds says.within says.plans says.rounds None says.comes_to says.stay (length says.rounds)
    (subst (λ rounds. Texts says.plans rounds written) (sym (take-length says.rounds)) (are says.plans says.rounds written says.texts)))

-- however the call ends, what was written is a front of the output
pub part_of : (output : DayOutput) (answer : Ended) (unseen : Option (List ℕ)) (input written : List ℕ) → SaysAt output answer unseen input written
    → SaysOutputPart change_stop (TextsOf output) input written
part_of output Done unseen input written says = rounds_are_part _ (TextsOf output) (ProvedOf output) input written (proved_are output) says
part_of output Unproved unseen input written says = rounds_are_part _ (TextsOf output) (UnprovedOf output) input written (unproved_are output) says
part_of output Refused unseen input written says = OfRefusal written says (length written) (sym (take-length written))
part_of output ReadFault unseen input written says = OfRounds [] (NoRound refl) 0 says.none
part_of output WriteFault unseen input written says = says
