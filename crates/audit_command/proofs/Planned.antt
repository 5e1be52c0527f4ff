-- what `day` writes for a day without a refused record belongs to that day
use Rattle.std.proofs.Common.{◌≡◌, ◌≤◌, ◌++◌, ◌∷◌, ◌↔◌, [], ℕ, List, None, length, ap, subst, sym, refl, ◌∙◌, arith, length-append, append-nil}
use Rattle.std.proofs.lemmas.List.Elements.{All-cons, All-nil}
use Rattle.std.specs.Prelude.{All}
use Rattle.std.specs.List.{flat_map}
use Rattle.crew_terms.specs.Instance.{Instance}
use Rattle.crew_terms.specs.Limits.{root_limits}
use Rattle.crew_terms.specs.Plan.{Plan}
use Rattle.crew_terms.specs.Words.{IsLine}
use Rattle.crew_terms.specs.declared.TheConstants.{LONGEST_INPUT}
use Rattle.dossier_terms.specs.Dossier.{Dossier, IsGood}
use Rattle.dossier_terms.specs.Lines.{text_of}
use Rattle.route_terms.specs.Kept.{AreKeptIn}
use Rattle.route_terms.specs.Named.{NamedRoute}
use Rattle.day_terms.specs.Refusal.{AreTaken}
use Rattle.day_terms.specs.Rounds.{Round, rounds_of}
use Rattle.day_terms.specs.State.{start_with}
use Rattle.day_terms.specs.declared.Entry.{Entry}
use Rattle.dossier_commands.specs.Input.{text_before, text_of_lines}
use Rattle.replan.specs.Rounds.{AreRoundDossiers, IsRoundDossier}
use Rattle.day_commands.specs.Dossiers.{AreDossiers, AreTextsOf}
use Rattle.day_commands.specs.Rounds.{AllTaken, AreTakenBy, BadEntry, BadRecord, ComesTo, SaysRounds, change_stop}
use Rattle.day_audit.specs.Belongs.{BelongToRounds, BelongsToRound, handed_on, kept_of, plans_of}
use Rattle.audit_command.specs.Days.{AreDayLines, front_of_day}
use Rattle.audit_command.specs.Events.{BelongToText, IsFineAudit}
use Rattle.audit_command.specs.Planned.{with_dossiers}

-- a round's dossier belongs to it
one_belongs : (handed : List NamedRoute) (round : Round) (d : Dossier) → IsRoundDossier handed round d → BelongsToRound handed round d
one_belongs handed round d is = record {
  good = is.good;
  instance = is.instance;
  budget = is.budget;
  kept = subst (λ (i : Instance). AreKeptIn (root_limits i) handed (kept_of d)) is.instance is.kept;
}

all_belong : (handed : List NamedRoute) (rounds : List Round) (ds : List Dossier) → AreRoundDossiers handed rounds ds → BelongToRounds handed rounds ds
all_belong handed [] [] are = tt
all_belong handed [] (d ∷ ds) are = absurd are
all_belong handed (r ∷ rounds) [] are = absurd are
all_belong handed (r ∷ rounds) (d ∷ ds) are = (one_belongs handed r d are.0, all_belong (handed_on d) rounds ds are.1)

all_good : (handed : List NamedRoute) (rounds : List Round) (ds : List Dossier) → AreRoundDossiers handed rounds ds → All IsGood ds
all_good handed rounds [] are = All-nil IsGood
all_good handed [] (d ∷ ds) are = absurd are
all_good handed (r ∷ rounds) (d ∷ ds) are = All-cons IsGood d ds are.0.good (all_good (handed_on d) rounds ds are.1)

module _ (takes : (plans : List Plan) (entries : List Entry) → AreTakenBy change_stop (start_with plans) entries ↔ AreTaken (start_with plans) entries) where
  belong_to_text : (text : List ℕ) (ds : List Dossier) (plans : List Plan) (rounds : List Round) → plans ≡ plans_of ds → ComesTo change_stop plans text rounds None
      → AreRoundDossiers [] rounds ds → BelongToText text ds
  belong_to_text text ds plans rounds known (AllTaken entries day taken are is) dossiers = record {
    entries = entries;
    day = day;
    belong = record {
      taken = (takes (plans_of ds) entries).0 (subst (λ ps. AreTakenBy change_stop (start_with ps) entries) known taken);
      rounds = all_belong [] (rounds_of (plans_of ds) entries) ds (subst (λ rs. AreRoundDossiers [] rs ds) (are ∙ ap (λ ps. rounds_of ps entries) known) dossiers);
    };
  }
  belong_to_text text ds plans rounds known (BadRecord entries refused day taken are is) dossiers = absurd (cc)
  belong_to_text text ds plans rounds known (BadEntry front back entry later day taken fault refused are is) dossiers = absurd (cc)

  pub planned_belongs : (lines : List (List ℕ)) (written : List ℕ) → AreDayLines lines → SaysRounds change_stop AreDossiers (text_of_lines lines) written
      → length (with_dossiers (text_of_lines lines) written) ≤ LONGEST_INPUT → IsFineAudit (with_dossiers (text_of_lines lines) written)
  planned_belongs lines written are says within = record {
    text = day;
    dossiers = ds;
    audited = record {
      behind = written;
      day = record { lines = lines; are = are; text_is = refl; parts = refl; within = (let n = length-append front written in omega (arith, n, within)) };
      within = says.within;
      read = record { text = text; within = subst (λ x. length x ≤ LONGEST_INPUT) (text ∙ append-nil (text_before (front_of_day day) ds [])) within; good = all_good [] says.rounds ds texts.dossiers_are; each = All-nil IsLine; leads = refl };
    };
    belong = belong_to_text day ds says.plans says.rounds texts.plans_are says.comes_to texts.dossiers_are;
  }
    where
      day : List ℕ
      day = text_of_lines lines

      front : List ℕ
      front = (front_of_day day).text

      ds : List Dossier
      ds = says.texts.0

      texts : AreTextsOf says.plans says.rounds written ds
      texts = says.texts.1

      text : with_dossiers day written ≡ text_before (front_of_day day) ds [] ++ []
      text = ap (λ x. front ++ x) (texts.texts ∙ sym (append-nil (flat_map text_of ds))) ∙ sym (append-nil (text_before (front_of_day day) ds []))
