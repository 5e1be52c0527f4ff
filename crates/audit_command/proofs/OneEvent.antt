-- an input comes to one event
use Rattle.std.proofs.Common.{◌≡◌, ◌≢◌, ◌≤◌, ◌+◌, ◌++◌, ◌∷◌, ◌⊎◌, inl, inr, [], ℕ, List, Some, length, ap, subst, sym, refl, ◌∙◌, arith, length-append, append_assoc, append-nil}
use Rattle.std.proofs.lemmas.List.{append_cancel_left}
use Rattle.std.proofs.lemmas.List.Concat.{flat_map-append}
use Rattle.std.specs.Prelude.{All}
use Rattle.std.specs.List.{flat_map}
use Rattle.crew_terms.specs.Words.{IsLine, Words, line_of, line_text, with_feed}
use Rattle.dossier_terms.specs.Dossier.{Dossier}
use Rattle.dossier_terms.specs.Lines.{lines_of, text_of}
use Rattle.dossier_terms.specs.Reading.{Form, Reading}
use Rattle.dossier_terms.specs.declared.Reason.{Reason}
use Rattle.route_terms.specs.Named.{NamedRoute}
use Rattle.day_terms.specs.Rounds.{Round}
use Rattle.cert_checker.specs.declared.checker.Stop.{Stop}
use Rattle.dossier_commands.specs.Input.{Front, GoTo, HasRead, IsAcceptedBehind, IsRefusal, text_before}
use Rattle.day_commands.specs.Rounds.{DayStop}
use Rattle.day_commands.specs.declared.refused.DayFault.TheVariants.{TooLong}
use Rattle.day_audit.specs.Belongs.{BelongsToRound, IsFit}
use Rattle.day_audit.specs.declared.audit.Fit.{Fit}
use Rattle.day_audit.specs.declared.audit.Fit.TheVariants as fits
use Rattle.text_laws.specs.Texts.{HasMore}
use Rattle.audit_command.specs.Days.{HasLongDay, HasNoDay, front_of_day}
use Rattle.audit_command.specs.Events.{AtRound, BadLine, Belongs, Differs, HasAudited, IsEvent, IsMore, IsRefused, IsRoundEvent, LongDay, NoDay, NoMore, handed_behind, misfit}
use Rattle.audit_command.specs.declared.event.Event.{Event}
use Rattle.audit_command.specs.declared.event.Event.TheVariants.{BadDossier, Belong, More, NoDossiers, Refused}
use Rattle.audit_command.proofs.Coming.{Begins, Comes, Coming, Ends, IsOneReading, NextBelongs, Stops, next_belongs, of_all, of_round, of_stop, one_next}
use Rattle.audit_command.proofs.DayLaws.{DayLaws}
use Rattle.audit_command.proofs.DayLines.{day_or_none, one_day, one_none}

-- what the input has behind these dossiers, where this comes next in the day
pub data IsAt (input text : List ℕ) (done : List Dossier) (rest : List ℕ) (what : Coming) (event : Event) : Type 0 where
  AtStop : (stop : DayStop) (is : what ≡ Stops stop) (event_is : event ≡ Refused stop.number stop.cause) → IsAt input text done rest what event
  AtNext : (round : Round) (is : what ≡ Begins round)
      (at : IsRoundEvent (handed_behind [] done) round (length done + 1) (front_of_day text) input done event) → IsAt input text done rest what event
  AtMore : (is : what ≡ Ends) (some : rest ≢ []) (event_is : event ≡ More (length done)) → IsAt input text done rest what event
  AtEnd : (is : what ≡ Ends) (none : rest ≡ []) (event_is : event ≡ Belong (length done)) → IsAt input text done rest what event

-- an event behind dossiers that belong to the first rounds of the day
pub record Stands (input text : List ℕ) (done : List Dossier) (event : Event) : Type 0 where
  pub rest : List ℕ
  pub audited : HasAudited input text done rest
  pub what : Coming
  pub comes : Comes text done what
  pub at : IsAt input text done rest what event

-- the text of a dossier has bytes
some_lines : (lines : List Words) → lines ≢ [] → 1 ≤ length (flat_map line_text lines)
some_lines [] some = absurd (some refl)
some_lines (ws ∷ lines) some =
    let a = length-append (line_text ws) (flat_map line_text lines) in
    let b = length-append (line_of ws) (10 ∷ []) in
    omega (arith, a, b)

some_text : (d : Dossier) → 1 ≤ length (text_of d)
some_text d = some_lines (lines_of d) (λ e. cc)

-- one dossier beside a round fits, or differs in one thing
one_fit : (handed : List NamedRoute) (round : Round) (d : Dossier) (a b : Fit) → IsFit handed round d a → IsFit handed round d b → a ≡ b
one_fit handed round d fits.Fits fits.Fits p q = refl
one_fit handed round d fits.Fits fits.Instance p q = absurd (q p.instance)
one_fit handed round d fits.Fits fits.Nodes p q = absurd (q.1 p.budget)
one_fit handed round d fits.Fits fits.Kept p q = absurd (q.2 p.kept)
one_fit handed round d fits.Instance fits.Fits p q = absurd (p q.instance)
one_fit handed round d fits.Instance fits.Instance p q = refl
one_fit handed round d fits.Instance fits.Nodes p q = absurd (p q.0)
one_fit handed round d fits.Instance fits.Kept p q = absurd (p q.0)
one_fit handed round d fits.Nodes fits.Fits p q = absurd (p.1 q.budget)
one_fit handed round d fits.Nodes fits.Instance p q = absurd (q p.0)
one_fit handed round d fits.Nodes fits.Nodes p q = refl
one_fit handed round d fits.Nodes fits.Kept p q = absurd (p.1 q.1)
one_fit handed round d fits.Kept fits.Fits p q = absurd (p.2 q.kept)
one_fit handed round d fits.Kept fits.Instance p q = absurd (q p.0)
one_fit handed round d fits.Kept fits.Nodes p q = absurd (q.1 p.1)
one_fit handed round d fits.Kept fits.Kept p q = refl

-- of a dossier that belongs to the round no event is told
no_misfit : (handed : List NamedRoute) (round : Round) (d : Dossier) (fit : Fit) (number : ℕ) (event : Event) → IsFit handed round d fit → BelongsToRound handed round d
    → misfit number fit ≡ Some event → ⊥
no_misfit handed round d fits.Fits number event told b e = cc
no_misfit handed round d fits.Instance number event told b e = told b.instance
no_misfit handed round d fits.Nodes number event told b e = told.1 b.budget
no_misfit handed round d fits.Kept number event told b e = told.2 b.kept

round_is : (a b : Round) → Begins a ≡ Begins b → a ≡ b
round_is a b e = cc

stop_is : (a b : DayStop) → Stops a ≡ Stops b → a ≡ b
stop_is a b e = cc

-- the first of two dossiers that go on from the same ones
first_same : (done xs ys : List Dossier) (d x : Dossier) → GoTo (done ++ d ∷ xs) (done ++ x ∷ ys) → d ≡ x
first_same done xs ys d x g =
    let e : x ∷ ys ≡ d ∷ (xs ++ g.tail) = append_cancel_left done (x ∷ ys) (d ∷ (xs ++ g.tail)) (g.is ∙ append_assoc done (d ∷ xs) g.tail) in
    cc

module _
    (laws : DayLaws)
    (one_reading : IsOneReading)
    (one_refusal : (front : Front) (input : List ℕ) (done others : List Dossier) (number other : ℕ) (reason cause : Reason) → IsRefusal front input done number reason
    → IsRefusal front input others other cause → (done ≡ others) × (number ≡ other) × (reason ≡ cause))
    (not_accepted : (front : Front) (input : List ℕ) (done : List Dossier) (number : ℕ) (reason : Reason) (dossiers : List Dossier) → IsRefusal front input done number reason
    → IsAcceptedBehind front input dossiers → ⊥)
    (one_way : (front : Front) (input : List ℕ) (done others : List Dossier) (lines more : List (List ℕ)) (rest later : List ℕ) (due next : Reading) → HasRead front input done lines rest due
    → HasRead front input others more later next → GoTo done others ⊎ GoTo others done)
    (not_refused : (front : Front) (input : List ℕ) (done tail : List Dossier) (d : Dossier) (rest : List ℕ) (number : ℕ) (reason : Reason) → IsRefusal front input done number reason
    → HasRead front input (done ++ d ∷ tail) [] rest Form → ⊥)
    (either : (xs ys : List (List ℕ)) (a b : List ℕ) → All IsLine xs → All IsLine ys → flat_map with_feed xs ++ a ≡ flat_map with_feed ys ++ b
    → HasMore xs ys a b ⊎ HasMore ys xs b a) where
  -- nothing more is read of an input that ends behind dossiers
  no_more_read : (front : Front) (input : List ℕ) (done tail : List Dossier) (d : Dossier) (rest : List ℕ) → IsAcceptedBehind front input done
      → HasRead front input (done ++ d ∷ tail) [] rest Form → ⊥
  no_more_read front input done tail d rest a h =
      let t = ap length (a.text ∙ ap (λ x. front.text ++ x) a.accepted.text) in
      let u = ap length h.text in
      let v = length-append (text_before front (done ++ d ∷ tail) []) rest in
      let w = length-append front.text (flat_map text_of (done ++ d ∷ tail) ++ []) in
      let x = ap length (append-nil (flat_map text_of (done ++ d ∷ tail)) ∙ flat_map-append text_of done (d ∷ tail)) in
      let y = length-append (flat_map text_of done) (text_of d ++ flat_map text_of tail) in
      let z = length-append (text_of d) (flat_map text_of tail) in
      let f = length-append front.text (flat_map text_of done) in
      let s = some_text d in
      omega (arith, t, u, v, w, x, y, z, f, s)

  -- the same dossier comes next in two readings
  same_dossier : (front : Front) (input : List ℕ) (done xs ys : List Dossier) (d x : Dossier) (rest later : List ℕ) → HasRead front input (done ++ d ∷ xs) [] rest Form
      → HasRead front input (done ++ x ∷ ys) [] later Form → d ≡ x
  same_dossier front input done xs ys d x rest later a b = elim (one_way front input (done ++ d ∷ xs) (done ++ x ∷ ys) [] [] rest later Form Form a b) [
    | inl g ↦ first_same done xs ys d x g
    | inr g ↦ sym (first_same done ys xs x d g)
  ]

  -- one event comes beside a round
  same_beside : (handed : List NamedRoute) (round : Round) (number : ℕ) (front : Front) (input : List ℕ) (done : List Dossier) (a b : Event)
      → IsRoundEvent handed round number front input done a → IsRoundEvent handed round number front input done b → a ≡ b
  same_beside handed round number front input done a b (BadLine line reason r is) (BadLine other cause q is2) =
      let e = one_refusal front input done done line other reason cause r q in
      is ∙ ap (λ n. BadDossier number n reason) e.1 ∙ ap (BadDossier number other) e.2 ∙ sym is2
  same_beside handed round number front input done a b (BadLine line reason r is) (NoMore accepted is2) = absurd (not_accepted front input done line reason done r accepted)
  same_beside handed round number front input done a b (BadLine line reason r is) (Differs d rest read fit told is2) = absurd (not_refused front input done [] d rest line reason r read)
  same_beside handed round number front input done a b (NoMore accepted is2) (BadLine line reason r is) = absurd (not_accepted front input done line reason done r accepted)
  same_beside handed round number front input done a b (NoMore accepted is) (NoMore accepted2 is2) = is ∙ sym is2
  same_beside handed round number front input done a b (NoMore accepted is) (Differs d rest read fit told is2) = absurd (no_more_read front input done [] d rest accepted read)
  same_beside handed round number front input done a b (Differs d rest read fit told is2) (BadLine line reason r is) = absurd (not_refused front input done [] d rest line reason r read)
  same_beside handed round number front input done a b (Differs d rest read fit told is2) (NoMore accepted is) = absurd (no_more_read front input done [] d rest accepted read)
  same_beside handed round number front input done a b (Differs d rest read fit told is) (Differs x later read2 fit2 told2 is2) =
      let e : d ≡ x = same_dossier front input done [] [] d x rest later read read2 in
      let f : fit ≡ fit2 = one_fit handed round x fit fit2 (subst (λ y. IsFit handed round y fit) e told) told2 in
      let g : Some a ≡ Some b = sym is ∙ ap (misfit number) f ∙ is2 in
      cc

  -- one event behind one list of dossiers
  same_place : (input text : List ℕ) (done : List Dossier) (a b : Event) → Stands input text done a → Stands input text done b → a ≡ b
  same_place input text done a b p q = by p.at q.at
    where
      what : p.what ≡ q.what
      what = one_next laws one_reading text done p.what q.what p.comes q.comes

      rest : p.rest ≡ q.rest
      rest = append_cancel_left (text_before (front_of_day text) done []) p.rest q.rest (sym p.audited.read.text ∙ q.audited.read.text)

      by : IsAt input text done p.rest p.what a → IsAt input text done q.rest q.what b → a ≡ b
      by (AtStop s is event) (AtStop t is2 event2) =
          event ∙ ap (λ (x : DayStop). Refused x.number x.cause) (stop_is s t (sym is ∙ what ∙ is2)) ∙ sym event2
      by (AtStop s is event) (AtNext round is2 at) = absurd (let e = sym is ∙ what ∙ is2 in cc)
      by (AtStop s is event) (AtMore is2 some event2) = absurd (let e = sym is ∙ what ∙ is2 in cc)
      by (AtStop s is event) (AtEnd is2 none event2) = absurd (let e = sym is ∙ what ∙ is2 in cc)
      by (AtNext round is at) (AtStop s is2 event) = absurd (let e = sym is ∙ what ∙ is2 in cc)
      by (AtNext round is at) (AtNext other is2 at2) =
          same_beside (handed_behind [] done) other (length done + 1) (front_of_day text) input done a b
          (subst (λ r. IsRoundEvent (handed_behind [] done) r (length done + 1) (front_of_day text) input done a) (round_is round other (sym is ∙ what ∙ is2)) at) at2
      by (AtNext round is at) (AtMore is2 some event2) = absurd (let e = sym is ∙ what ∙ is2 in cc)
      by (AtNext round is at) (AtEnd is2 none event2) = absurd (let e = sym is ∙ what ∙ is2 in cc)
      by (AtMore is some event) (AtStop s is2 event2) = absurd (let e = sym is ∙ what ∙ is2 in cc)
      by (AtMore is some event) (AtNext round is2 at) = absurd (let e = sym is ∙ what ∙ is2 in cc)
      by (AtMore is some event) (AtMore is2 some2 event2) = event ∙ sym event2
      by (AtMore is some event) (AtEnd is2 none event2) = absurd (some (rest ∙ none))
      by (AtEnd is none event) (AtStop s is2 event2) = absurd (let e = sym is ∙ what ∙ is2 in cc)
      by (AtEnd is none event) (AtNext round is2 at) = absurd (let e = sym is ∙ what ∙ is2 in cc)
      by (AtEnd is none event) (AtMore is2 some event2) = absurd (some (sym rest ∙ none))
      by (AtEnd is none event) (AtEnd is2 none2 event2) = event ∙ sym event2

  -- none comes before another one
  not_earlier : (input text : List ℕ) (done tail : List Dossier) (d : Dossier) (a b : Event) → Stands input text done a → Stands input text (done ++ d ∷ tail) b → ⊥
  not_earlier input text done tail d a b p q = by p.at
    where
      front : Front
      front = front_of_day text

      next : NextBelongs done d p.what
      next = next_belongs laws one_reading text done tail d p.what q.what p.comes q.comes

      beside : (round : Round) → BelongsToRound (handed_behind [] done) round d → IsRoundEvent (handed_behind [] done) round (length done + 1) front input done a → ⊥
      beside round b (BadLine line reason r is) = not_refused front input done tail d q.rest line reason r q.audited.read
      beside round b (NoMore accepted is) = no_more_read front input done tail d q.rest accepted q.audited.read
      beside round b (Differs x rest read fit told is) =
          let e : x ≡ d = same_dossier front input done [] tail x d rest q.rest read q.audited.read in
          no_misfit (handed_behind [] done) round d fit (length done + 1) a (subst (λ y. IsFit (handed_behind [] done) round y fit) e told) b is

      by : IsAt input text done p.rest p.what a → ⊥
      by (AtStop s is event) = let e = sym is ∙ next.is in cc
      by (AtMore is some event) = let e = sym is ∙ next.is in cc
      by (AtEnd is none event) = let e = sym is ∙ next.is in cc
      by (AtNext round is at) =
          beside round (subst (λ r. BelongsToRound (handed_behind [] done) r d) (sym (round_is round next.round (sym is ∙ next.is))) next.belongs) at

  -- one event behind one day
  behind_day : (input text : List ℕ) (done others : List Dossier) (a b : Event) → Stands input text done a → Stands input text others b → a ≡ b
  behind_day input text done others a b p q = elim (one_way (front_of_day text) input done others [] [] p.rest q.rest Form Form p.audited.read q.audited.read) [
    | inl g ↦ on g.tail g.is
    | inr g ↦ back g.tail g.is
  ]
    where
      on : (tail : List Dossier) → others ≡ done ++ tail → a ≡ b
      on [] e = same_place input text done a b p (subst (λ ds. Stands input text ds b) (e ∙ append-nil done) q)
      on (d ∷ tail) e = absurd (not_earlier input text done tail d a b p (subst (λ ds. Stands input text ds b) e q))

      back : (tail : List Dossier) → done ≡ others ++ tail → a ≡ b
      back [] e = same_place input text others a b (subst (λ ds. Stands input text ds a) (e ∙ append-nil others) p) q
      back (d ∷ tail) e = absurd (not_earlier input text others tail d b a q (subst (λ ds. Stands input text ds a) e p))

  -- an event of an input by its day
  data IsOf (input : List ℕ) (event : Event) : Type 0 where
    OfNone : (why : Stop) (none : HasNoDay input why) (is : event ≡ NoDossiers why) → IsOf input event
    OfLong : (long : HasLongDay input) (is : event ≡ Refused 0 TooLong) → IsOf input event
    OfDay : (text : List ℕ) (done : List Dossier) (stands : Stands input text done event) → IsOf input event

  of_event : (input : List ℕ) (event : Event) → IsEvent input event → IsOf input event
  of_event input event (NoDay why none is) = OfNone why none is
  of_event input event (LongDay long is) = OfLong long is
  of_event input event (IsRefused text done rest audited stop stopped is) =
      OfDay text done (record { rest = rest; audited = audited; what = Stops stop; comes = of_stop laws text done stop stopped; at = AtStop stop refl is })
  of_event input event (AtRound text done rest audited round next at) =
      OfDay text done (record { rest = rest; audited = audited; what = Begins round; comes = of_round text done round next; at = AtNext round refl at })
  of_event input event (IsMore text done rest audited some belong is) =
      OfDay text done (record { rest = rest; audited = audited; what = Ends; comes = of_all text done belong; at = AtMore refl some is })
  of_event input event (Belongs text done audited belong is) =
      OfDay text done (record { rest = []; audited = audited; what = Ends; comes = of_all text done belong; at = AtEnd refl refl is })

  not_long : (input text : List ℕ) (done : List Dossier) (event : Event) → Stands input text done event → HasLongDay input → ⊥
  not_long input text done event s l =
      let e = ap length (one_day either input text l.text s.audited.behind l.behind s.audited.day l.day) in
      let w = s.audited.within in
      let m = l.more in
      omega (arith, e, w, m)

  by_day : (input : List ℕ) (a b : Event) → IsOf input a → IsOf input b → a ≡ b
  by_day input a b (OfNone why none is) (OfNone other none2 is2) = is ∙ ap NoDossiers (one_none either input why other none none2) ∙ sym is2
  by_day input a b (OfNone why none is) (OfLong long is2) = absurd (day_or_none either input long.text long.behind why long.day none)
  by_day input a b (OfNone why none is) (OfDay text done s) = absurd (day_or_none either input text s.audited.behind why s.audited.day none)
  by_day input a b (OfLong long is2) (OfNone why none is) = absurd (day_or_none either input long.text long.behind why long.day none)
  by_day input a b (OfLong long is) (OfLong long2 is2) = is ∙ sym is2
  by_day input a b (OfLong long is) (OfDay text done s) = absurd (not_long input text done b s long)
  by_day input a b (OfDay text done s) (OfNone why none is) = absurd (day_or_none either input text s.audited.behind why s.audited.day none)
  by_day input a b (OfDay text done s) (OfLong long is) = absurd (not_long input text done a s long)
  by_day input a b (OfDay text done s) (OfDay other others t) =
      let e : text ≡ other = one_day either input text other s.audited.behind t.audited.behind s.audited.day t.audited.day in
      behind_day input other done others a b (subst (λ x. Stands input x done a) e s) t

  pub one_event : (input : List ℕ) (a b : Event) → IsEvent input a → IsEvent input b → a ≡ b
  one_event input a b p q = by_day input a b (of_event input a p) (of_event input b q)
