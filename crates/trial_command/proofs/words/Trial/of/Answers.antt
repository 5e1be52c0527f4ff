use Rattle.std.proofs.Common.{◌≡◌, ◌≢◌, ◌≤◌, ◌∷◌, [], ℕ, List, Option, None, true, false, String, Global, length, get_or, map, subst, sym, ◌∙◌, arith}
use Rattle.std.specs.Prelude.{MatchOption, string_bytes, codes}
use Rattle.std.specs.Fmt.{decimal}
use Rattle.std.proofs.lemmas.Slice.Eq.{bytes_eq-Decides}
use Rattle.trial_command.specs.Trials.{AsksForTrial, IsTrial, trial_words}
use Rattle.trial_command.specs.declared.words.Trial.{Trial}
use Rattle.trial_command.proofs.words.Trial.of.Goals as goal

-- the bytes of five words
five : (ws : List (String Global)) (a b d e f : String Global) → length ws ≡ 5 → a ≡ get_or ws 0 a → b ≡ get_or ws 1 b → d ≡ get_or ws 2 d → e ≡ get_or ws 3 e → f ≡ get_or ws 4 f
    → map (λ w. string_bytes w) ws ≡ string_bytes a ∷ string_bytes b ∷ string_bytes d ∷ string_bytes e ∷ string_bytes f ∷ []
five [] a b d e f count p q r s t = absurd (omega arith)
five (v ∷ []) a b d e f count p q r s t = absurd (omega arith)
five (v ∷ w ∷ []) a b d e f count p q r s t = absurd (omega arith)
five (v ∷ w ∷ x ∷ []) a b d e f count p q r s t = absurd (omega arith)
five (v ∷ w ∷ x ∷ y ∷ []) a b d e f count p q r s t = absurd (omega arith)
five (v ∷ w ∷ x ∷ y ∷ z ∷ []) a b d e f count p q r s t = cc
five (v ∷ w ∷ x ∷ y ∷ z ∷ u ∷ us) a b d e f count p q r s t = absurd (omega arith)

-- words of which one is not as it must be ask for no trial
module _ (words : List (List ℕ)) (a b d e f : List ℕ) (is : words ≡ a ∷ b ∷ d ∷ e ∷ f ∷ []) where
  same : (t : Trial) → AsksForTrial t words → a ∷ b ∷ d ∷ e ∷ f ∷ [] ≡ trial_words t
  same t asks = sym is ∙ asks.1

  first_of : (t : Trial) → a ∷ b ∷ d ∷ e ∷ f ∷ [] ≡ trial_words t → a ≡ codes "trial"
  first_of t e = cc

  number_of : (t : Trial) → a ∷ b ∷ d ∷ e ∷ f ∷ [] ≡ trial_words t → b ≡ decimal t.number
  number_of t e = cc

  teams_of : (t : Trial) → a ∷ b ∷ d ∷ e ∷ f ∷ [] ≡ trial_words t → d ≡ decimal t.teams
  teams_of t e = cc

  tasks_of : (t : Trial) → a ∷ b ∷ d ∷ e ∷ f ∷ [] ≡ trial_words t → e ≡ decimal t.tasks
  tasks_of t e = cc

  nodes_of : (t : Trial) → a ∷ b ∷ d ∷ e ∷ f ∷ [] ≡ trial_words t → f ≡ decimal t.nodes
  nodes_of t e = cc

  no_number : (word : List ℕ) (most : ℕ) → word ≡ b → ((t : Trial) → IsTrial t → t.number ≤ most) → ((n : ℕ) → 0 ≤ n → n ≤ most → word ≢ decimal n) → (t : Trial) → AsksForTrial t words → ⊥
  no_number word most w within none t asks = none t.number (omega arith) (within t asks.0) (w ∙ number_of t (same t asks))

  no_teams : (word : List ℕ) (most : ℕ) → word ≡ d → ((t : Trial) → IsTrial t → t.teams ≤ most) → ((n : ℕ) → 1 ≤ n → n ≤ most → word ≢ decimal n) → (t : Trial) → AsksForTrial t words → ⊥
  no_teams word most w within none t asks = none t.teams asks.0.some_team (within t asks.0) (w ∙ teams_of t (same t asks))

  no_tasks : (word : List ℕ) (most : ℕ) → word ≡ e → ((t : Trial) → IsTrial t → t.tasks ≤ most) → ((n : ℕ) → 1 ≤ n → n ≤ most → word ≢ decimal n) → (t : Trial) → AsksForTrial t words → ⊥
  no_tasks word most w within none t asks = none t.tasks asks.0.some_task (within t asks.0) (w ∙ tasks_of t (same t asks))

  no_nodes : (word : List ℕ) (most : ℕ) → word ≡ f → ((t : Trial) → IsTrial t → t.nodes ≤ most) → ((n : ℕ) → 0 ≤ n → n ≤ most → word ≢ decimal n) → (t : Trial) → AsksForTrial t words → ⊥
  no_nodes word most w within none t asks = none t.nodes (omega arith) (within t asks.0) (w ∙ nodes_of t (same t asks))

  asked : (t : Trial) → a ≡ codes "trial" → b ≡ decimal t.number → d ≡ decimal t.teams → e ≡ decimal t.tasks → f ≡ decimal t.nodes → words ≡ trial_words t
  asked t p q r s u = is ∙ cc

no_trial : (words : List (List ℕ)) (r : Option Trial) → r ≡ None → ((t : Trial) → AsksForTrial t words → ⊥) → MatchOption r ((t : Trial) → AsksForTrial t words → ⊥) (λ t. AsksForTrial t words)
no_trial words r is none = subst (λ (x : Option Trial). MatchOption x ((t : Trial) → AsksForTrial t words → ⊥) (λ t. AsksForTrial t words)) (sym is) none

pub returns-in_err-number : goal.returns-in_err-number
returns-in_err-number c =
    let low = c.in-len5.len_at_least in
    let high = c.in-len5.len_below in
    let is = five c.args.words.now c.word-item.result c.number-item.result c.teams-item.result c.tasks-item.result c.nodes-item.result (omega arith) c.word-item.is c.number-item.is c.teams-item.is c.tasks-item.is c.nodes-item.is in
    no_trial _ _ c.from_residual.ensures (no_number _ _ _ _ _ _ is c.as_str.result.now _ c.as_str.ensures.value (λ t h. h.number) c.in_err-number.ensures)

pub returns-in_err-teams : goal.returns-in_err-teams
returns-in_err-teams c =
    let low = c.in-len5.len_at_least in
    let high = c.in-len5.len_below in
    let is = five c.args.words.now c.word-item.result c.number-item.result c.teams-item.result c.tasks-item.result c.nodes-item.result (omega arith) c.word-item.is c.number-item.is c.teams-item.is c.tasks-item.is c.nodes-item.is in
    no_trial _ _ c.from_residual-in_err-teams.ensures (no_teams _ _ _ _ _ _ is c.as_str-2.result.now _ c.as_str-2.ensures.value (λ t h. h.teams) c.in_err-teams.ensures)

pub returns-in_err-tasks : goal.returns-in_err-tasks
returns-in_err-tasks c =
    let low = c.in-len5.len_at_least in
    let high = c.in-len5.len_below in
    let is = five c.args.words.now c.word-item.result c.number-item.result c.teams-item.result c.tasks-item.result c.nodes-item.result (omega arith) c.word-item.is c.number-item.is c.teams-item.is c.tasks-item.is c.nodes-item.is in
    no_trial _ _ c.from_residual-in_err-tasks.ensures (no_tasks _ _ _ _ _ _ is c.as_str-3.result.now _ c.as_str-3.ensures.value (λ t h. h.tasks) c.in_err-tasks.ensures)

pub returns-in_err-nodes : goal.returns-in_err-nodes
returns-in_err-nodes c =
    let low = c.in-len5.len_at_least in
    let high = c.in-len5.len_below in
    let is = five c.args.words.now c.word-item.result c.number-item.result c.teams-item.result c.tasks-item.result c.nodes-item.result (omega arith) c.word-item.is c.number-item.is c.teams-item.is c.tasks-item.is c.nodes-item.is in
    no_trial _ _ c.from_residual-in_err-nodes.ensures (no_nodes _ _ _ _ _ _ is c.as_str-4.result.now _ c.as_str-4.ensures.value (λ t h. h.nodes) c.in_err-nodes.ensures)

pub returns-then-eq : goal.returns-then-eq
returns-then-eq c =
    let low = c.in-len5.len_at_least in
    let high = c.in-len5.len_below in
    let is = five c.args.words.now c.word-item.result c.number-item.result c.teams-item.result c.tasks-item.result c.nodes-item.result (omega arith) c.word-item.is c.number-item.is c.teams-item.is c.tasks-item.is c.nodes-item.is in
    let first = (bytes_eq-Decides c.as_str-5.result.now (codes "trial")).0 (sym c.eq.ensures ∙ c.if-eq.true) in (
      record {
        number = c.in_ok-number.ensures.1;
        some_team = c.in_ok-teams.ensures.0;
        teams = c.in_ok-teams.ensures.1;
        some_task = c.in_ok-tasks.ensures.0;
        tasks = c.in_ok-tasks.ensures.1;
        nodes = c.in_ok-nodes.ensures.1;
      },
      asked _ _ _ _ _ _ is _ (sym c.as_str-5.ensures.value ∙ first) (sym c.as_str.ensures.value ∙ c.in_ok-number.ensures.2) (sym c.as_str-2.ensures.value ∙ c.in_ok-teams.ensures.2)
          (sym c.as_str-3.ensures.value ∙ c.in_ok-tasks.ensures.2) (sym c.as_str-4.ensures.value ∙ c.in_ok-nodes.ensures.2),
    )

pub returns : goal.returns
returns c = λ t asks.
    let low = c.in-len5.len_at_least in
    let high = c.in-len5.len_below in
    let is = five c.args.words.now c.word-item.result c.number-item.result c.teams-item.result c.tasks-item.result c.nodes-item.result (omega arith) c.word-item.is c.number-item.is c.teams-item.is c.tasks-item.is c.nodes-item.is in
    let first = first_of _ _ _ _ _ _ is t (same _ _ _ _ _ _ is t asks) in
    let equal = (bytes_eq-Decides c.as_str-5.result.now (codes "trial")).1 (c.as_str-5.ensures.value ∙ first) in
    let other = c.if-eq.false in
    absurd (let e : true ≡ false = sym equal ∙ (sym c.eq.ensures ∙ other) in cc)
