-- what is written of a day's rounds, one after another
use Rattle.std.proofs.Common.{◌≡◌, ◌<◌, ◌+◌, ◌&&◌, ◌++◌, ◌∷◌, [], ℕ, zero, suc, Bool, true, false, List, length, get_or, ap, subst, sym, refl, ◌∙◌, arith, length-append}
use Rattle.std.specs.Prelude.{Any}
use Rattle.std.specs.List.{flat_map}
use Rattle.std.proofs.lemmas.List.{map-append}
use Rattle.std.proofs.lemmas.List.Elements.{All-append, All-nil}
use Rattle.std.proofs.lemmas.List.Concat.{flat_map-append}
use Rattle.crew_terms.specs.Plan.{Plan}
use Rattle.dossier_terms.specs.Dossier.{Dossier}
use Rattle.dossier_terms.specs.Lines.{text_of}
use Rattle.route_terms.specs.Named.{NamedRoute}
use Rattle.day_terms.specs.Rounds.{Round}
use Rattle.replan.specs.Rounds.{AreRoundDossiers, handed_on}
use Rattle.day_commands.specs.Dossiers.{IsProved, IsUnproved, plans_in}
use Rattle.day_commands.specs.Instances.{rounds_text}
use Rattle.day_commands.specs.Outputs.{TextsOf, ProvedOf, UnprovedOf}
use Rattle.day_commands.specs.Taken.{AreTextsFrom, TellsProved, handed_after}
use Rattle.day_commands.specs.declared.ended.DayOutput.{DayOutput}
use Rattle.day_commands.specs.declared.ended.DayOutput.TheVariants.{Instances, Dossiers}
use Rattle.day_commands.proofs.Days.{instances_more}

-- ---- dossiers behind dossiers

dossiers_then : (handed : List NamedRoute) (rounds more : List Round) (ds es : List Dossier) → AreRoundDossiers handed rounds ds → AreRoundDossiers (handed_after handed ds) more es
    → AreRoundDossiers handed (rounds ++ more) (ds ++ es)
dossiers_then handed [] more [] es a b = b
dossiers_then handed [] more (d ∷ ds) es a b = absurd a
dossiers_then handed (r ∷ rs) more [] es a b = absurd a
dossiers_then handed (r ∷ rs) more (d ∷ ds) es a b = (a.0, dossiers_then (handed_on d) rs more ds es a.1 b)

handed_then : (handed : List NamedRoute) (ds es : List Dossier) → handed_after handed (ds ++ es) ≡ handed_after (handed_after handed ds) es
handed_then handed [] es = refl
handed_then handed (d ∷ ds) es = handed_then (handed_on d) ds es

-- some of the first list, or of the second
any_first : {X : Type 0} (P : X → Type 0) (xs ys : List X) → Any P xs → Any P (xs ++ ys)
any_first {X = X} P xs ys a = (a.0, a.1, (let l = a.2 in omega (arith, length-append xs ys, l)), before xs a.0 a.2 ∙ a.3, a.4)
  where
    before : (zs : List X) (k : ℕ) → k < length zs → get_or (zs ++ ys) k a.1 ≡ get_or zs k a.1
    before [] k l = absurd (omega (arith, l))
    before (z ∷ zs) zero l = refl
    before (z ∷ zs) (suc k) l = before zs k (omega (arith, l))

any_second : {X : Type 0} (P : X → Type 0) (xs ys : List X) → Any P ys → Any P (xs ++ ys)
any_second {X = X} P xs ys a = (length xs + a.0, a.1, (let l = a.2 in omega (arith, length-append xs ys, l)), behind xs ∙ a.3, a.4)
  where
    behind : (zs : List X) → get_or (zs ++ ys) (length zs + a.0) a.1 ≡ get_or ys a.0 a.1
    behind [] = ap (λ k. get_or ys k a.1) (let e : 0 + a.0 ≡ a.0 = omega arith in e)
    behind (z ∷ zs) = ap (λ k. get_or (z ∷ (zs ++ ys)) k a.1) (let e : suc (length zs) + a.0 ≡ suc (length zs + a.0) = omega arith in e) ∙ behind zs

tells_then : (p q : Bool) (ds es : List Dossier) → TellsProved p ds → TellsProved q es → TellsProved (p && q) (ds ++ es)
tells_then true true ds es a b = All-append IsProved ds es a b
tells_then true false ds es a b = any_second IsUnproved ds es b
tells_then false true ds es a b = any_first IsUnproved ds es a
tells_then false false ds es a b = any_first IsUnproved ds es a

both_true : (p q : Bool) → p ≡ true → q ≡ true → (p && q) ≡ true
both_true p q a b = ap (λ x. x && q) a ∙ b

-- ---- texts behind texts

pub texts_none : (output : DayOutput) → AreTextsFrom output [] [] [] [] true []
texts_none Instances = ((refl, refl), refl)
texts_none Dossiers = record { dossiers = []; dossiers_are = tt; plans_are = refl; texts = refl; tells = All-nil IsProved; handed_last = refl }

pub texts_then : (output : DayOutput) (first mid last : List NamedRoute) (plans others : List Plan) (rounds more : List Round) (xs ys : List ℕ) (p q : Bool) → AreTextsFrom output first plans rounds xs p mid
    → AreTextsFrom output mid others more ys q last → AreTextsFrom output first (plans ++ others) (rounds ++ more) (xs ++ ys) (p && q) last
texts_then Instances first mid last plans others rounds more xs ys p q a b = (
  (ap (λ l. l ++ others) a.0.0 ∙ b.0.0, ap (λ x. x ++ ys) a.0.1 ∙ ap (λ y. rounds_text rounds ++ y) b.0.1 ∙ sym (instances_more rounds more)),
  both_true p q a.1 b.1,
)
texts_then Dossiers first mid last plans others rounds more xs ys p q a b = record {
  dossiers = a.dossiers ++ b.dossiers;
  dossiers_are = dossiers_then first rounds more a.dossiers b.dossiers a.dossiers_are (subst (λ h. AreRoundDossiers h more b.dossiers) a.handed_last b.dossiers_are);
  plans_are = ap (λ x. x ++ others) a.plans_are ∙ ap (λ y. plans_in a.dossiers ++ y) b.plans_are ∙ sym (map-append (λ d. d.plan) a.dossiers b.dossiers);
  texts = ap (λ x. x ++ ys) a.texts ∙ ap (λ y. flat_map text_of a.dossiers ++ y) b.texts ∙ sym (flat_map-append text_of a.dossiers b.dossiers);
  tells = tells_then p q a.dossiers b.dossiers a.tells b.tells;
  handed_last = b.handed_last ∙ ap (λ h. handed_after h b.dossiers) a.handed_last ∙ sym (handed_then first a.dossiers b.dossiers);
}

-- ---- what they are

pub texts_are : (output : DayOutput) (plans : List Plan) (rounds : List Round) (text : List ℕ) (p : Bool) (last : List NamedRoute) → AreTextsFrom output [] plans rounds text p last → TextsOf output plans rounds text
texts_are Instances plans rounds text p last a = a.0
texts_are Dossiers plans rounds text p last a = (a.dossiers, record { dossiers_are = a.dossiers_are; plans_are = a.plans_are; texts = a.texts })

pub texts_proved : (output : DayOutput) (plans : List Plan) (rounds : List Round) (text : List ℕ) (last : List NamedRoute) → AreTextsFrom output [] plans rounds text true last → ProvedOf output plans rounds text
texts_proved Instances plans rounds text last a = a.0
texts_proved Dossiers plans rounds text last a = (a.dossiers, record { dossiers_are = a.dossiers_are; plans_are = a.plans_are; texts = a.texts }, a.tells)

pub texts_unproved : (output : DayOutput) (plans : List Plan) (rounds : List Round) (text : List ℕ) (last : List NamedRoute) → AreTextsFrom output [] plans rounds text false last → UnprovedOf output plans rounds text
texts_unproved Instances plans rounds text last a = absurd (let e = a.1 in cc)
texts_unproved Dossiers plans rounds text last a = (a.dossiers, record { dossiers_are = a.dossiers_are; plans_are = a.plans_are; texts = a.texts }, a.tells)

-- ---- how many plans there are

-- rounds that have all their plans
abbrev pub HasAll : DayOutput → List Plan → List Round → Type 0
HasAll Instances plans rounds = plans ≡ []
HasAll Dossiers plans rounds = length plans ≡ length rounds

as_many : (handed : List NamedRoute) (rounds : List Round) (ds : List Dossier) → AreRoundDossiers handed rounds ds → length (plans_in ds) ≡ length rounds
as_many handed [] [] are = refl
as_many handed [] (d ∷ ds) are = absurd are
as_many handed (r ∷ rs) [] are = absurd are
as_many handed (r ∷ rs) (d ∷ ds) are = ap (λ n. suc n) (as_many (handed_on d) rs ds are.1)

pub has_all : (output : DayOutput) (handed later : List NamedRoute) (plans : List Plan) (rounds : List Round) (text : List ℕ) (p : Bool) → AreTextsFrom output handed plans rounds text p later → HasAll output plans rounds
has_all Instances handed later plans rounds text p a = a.0.0
has_all Dossiers handed later plans rounds text p a = ap length a.plans_are ∙ as_many handed rounds a.dossiers a.dossiers_are
