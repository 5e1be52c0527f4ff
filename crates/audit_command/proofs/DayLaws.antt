-- the laws of days that are cited here, and what follows of rounds and their dossiers
use Rattle.std.proofs.Common.{◌≡◌, ◌≤◌, ◌++◌, ◌∷◌, ◌↔◌, [], suc, List, None, length, ap, sym, refl, ◌∙◌, arith, length-append, fold, count_by}
use Rattle.std.proofs.lemmas.List.{map-append}
use Rattle.crew_terms.specs.Plan.{Plan}
use Rattle.dossier_terms.specs.Dossier.{Dossier}
use Rattle.route_terms.specs.Named.{NamedRoute}
use Rattle.day_terms.specs.Entries.{after_entry, state_after}
use Rattle.day_terms.specs.Laws.{is_plan}
use Rattle.day_terms.specs.Refusal.{AreTaken, refusal_of}
use Rattle.day_terms.specs.Rounds.{Round, round_at, rounds_from, rounds_of}
use Rattle.day_terms.specs.State.{DayState, start_with}
use Rattle.day_terms.specs.declared.Entry.{Entry}
use Rattle.day_commands.specs.Rounds.{AreTakenBy, change_stop}
use Rattle.day_audit.specs.Belongs.{BelongToRounds, BelongsToRound, handed_on, plans_of}
use Rattle.audit_command.specs.Events.{handed_behind}

-- the laws of entries, and of the plans of rounds to come
pub record DayLaws : Type 0 where
  pub takes : (plans : List Plan) (entries : List Entry) → AreTakenBy change_stop (start_with plans) entries ↔ AreTaken (start_with plans) entries
  pub refusal : (s : DayState) (plans : List Plan) (entry : Entry) → refusal_of (record s { plans = plans }) entry ≡ refusal_of s entry
  pub round : (s : DayState) (plans : List Plan) (entry : Entry) → round_at (record s { plans = plans }) entry ≡ round_at s entry
  pub count : (plans : List Plan) (entries : List Entry) → length (rounds_of plans entries) ≡ count_by is_plan entries
  pub appended : (plans : List Plan) (front back : List Entry) → rounds_of plans (front ++ back) ≡ rounds_of plans front ++ rounds_from (state_after plans front) back
  pub one_more : (plans : List Plan) (entries : List Entry) (entry : Entry) → rounds_of plans (entries ++ entry ∷ []) ≡ rounds_of plans entries ++ round_at (state_after plans entries) entry
  pub next_state : (plans : List Plan) (entries : List Entry) (entry : Entry) → state_after plans (entries ++ entry ∷ []) ≡ after_entry (state_after plans entries) entry
  pub state : (plans more : List Plan) (entries : List Entry) → length plans ≡ count_by is_plan entries
      → state_after (plans ++ more) entries ≡ record (state_after plans entries) { plans = more }
  pub rounds : (plans more : List Plan) (entries : List Entry) → length plans ≡ count_by is_plan entries → rounds_of (plans ++ more) entries ≡ rounds_of plans entries
  pub taken : (plans more : List Plan) (entries : List Entry) → length plans ≡ count_by is_plan entries → AreTaken (start_with plans) entries → AreTaken (start_with (plans ++ more)) entries

-- entries that are taken

taken_at_from : (s : DayState) (front back : List Entry) (entry : Entry) → AreTaken s (front ++ entry ∷ back) → refusal_of (fold after_entry s front) entry ≡ None
taken_at_from s [] back entry t = t.0
taken_at_from s (x ∷ front) back entry t = taken_at_from (after_entry s x) front back entry t.1

pub taken_at : (plans : List Plan) (front back : List Entry) (entry : Entry) → AreTaken (start_with plans) (front ++ entry ∷ back) → refusal_of (state_after plans front) entry ≡ None
taken_at plans front back entry t = taken_at_from (start_with plans) front back entry t

taken_more_from : (s : DayState) (front : List Entry) (entry : Entry) → AreTaken s front → refusal_of (fold after_entry s front) entry ≡ None → AreTaken s (front ++ entry ∷ [])
taken_more_from s [] entry t e = (e, tt)
taken_more_from s (x ∷ front) entry t e = (t.0, taken_more_from (after_entry s x) front entry t.1 e)

pub taken_more : (plans : List Plan) (front : List Entry) (entry : Entry) → AreTaken (start_with plans) front → refusal_of (state_after plans front) entry ≡ None → AreTaken (start_with plans) (front ++ entry ∷ [])
taken_more plans front entry t e = taken_more_from (start_with plans) front entry t e

-- dossiers that belong to rounds

pub belong_count : (handed : List NamedRoute) (rounds : List Round) (ds : List Dossier) → BelongToRounds handed rounds ds → length rounds ≡ length ds
belong_count handed [] [] b = refl
belong_count handed [] (d ∷ ds) b = absurd b
belong_count handed (r ∷ rounds) [] b = absurd b
belong_count handed (r ∷ rounds) (d ∷ ds) b = ap suc (belong_count (handed_on d) rounds ds b.1)

pub belong_at : (handed : List NamedRoute) (rounds back : List Round) (round : Round) (done tail : List Dossier) (d : Dossier) → BelongToRounds handed rounds done
    → BelongToRounds handed (rounds ++ round ∷ back) (done ++ d ∷ tail) → BelongsToRound (handed_behind handed done) round d
belong_at handed [] back round [] tail d a b = b.0
belong_at handed [] back round (x ∷ done) tail d a b = absurd a
belong_at handed (r ∷ rounds) back round [] tail d a b = absurd a
belong_at handed (r ∷ rounds) back round (x ∷ done) tail d a b = belong_at (handed_on x) rounds back round done tail d a.1 b.1

pub belong_more : (handed : List NamedRoute) (rounds : List Round) (round : Round) (done : List Dossier) (d : Dossier) → BelongToRounds handed rounds done
    → BelongsToRound (handed_behind handed done) round d → BelongToRounds handed (rounds ++ round ∷ []) (done ++ d ∷ [])
belong_more handed [] round [] d a b = (b, tt)
belong_more handed [] round (x ∷ done) d a b = absurd a
belong_more handed (r ∷ rounds) round [] d a b = absurd a
belong_more handed (r ∷ rounds) round (x ∷ done) d a b = (a.0, belong_more (handed_on x) rounds round done d a.1 b)

pub handed_more : (handed : List NamedRoute) (done : List Dossier) (d : Dossier) → handed_behind handed (done ++ d ∷ []) ≡ handed_on d
handed_more handed [] d = refl
handed_more handed (x ∷ done) d = handed_more (handed_on x) done d

pub plans_more : (done more : List Dossier) → plans_of (done ++ more) ≡ plans_of done ++ plans_of more
plans_more done more = map-append (λ (d : Dossier). d.plan) done more

module _ (laws : DayLaws) where
  -- as many plans are known as there are rounds
  pub plans_known : (plans : List Plan) (front : List Entry) (done : List Dossier) → BelongToRounds [] (rounds_of plans front) done → count_by is_plan front ≡ length done
  plans_known plans front done b = sym (laws.count plans front) ∙ belong_count [] (rounds_of plans front) done b

  pub count_le : (front back : List Entry) → count_by is_plan front ≤ count_by is_plan (front ++ back)
  count_le front back =
      let a = laws.count [] (front ++ back) in
      let b = laws.count [] front in
      let e = ap length (laws.appended [] front back) in
      let n = length-append (rounds_of [] front) (rounds_from (state_after [] front) back) in
      omega (arith, a, b, e, n)
