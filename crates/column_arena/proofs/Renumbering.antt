-- the names of an instance as a set, and the numbers that names have in another
use Rattle.std.proofs.Common.{◌≡◌, ◌≢◌, ◌<◌, ◌+◌, ℕ, false, List, [], ◌∷◌, ◌++◌, length, map, take, get_or, All, Option, None, Some, sym, ap, ◌∙◌, arith, true≢false}
use Rattle.std.specs.Prelude.{AllPairs, MatchOption}
use Rattle.std.specs.List.{list_any, position}
use Rattle.std.specs.Str.{bytes_eq}
use Rattle.std.proofs.lemmas.Bool.{cond-false, false_from_ne_true}
use Rattle.std.proofs.lemmas.List.{get_or-take, get_or_default, get_or-map, length-map, length-take-le, map-append, take_more}
use Rattle.std.proofs.lemmas.List.Elements.{All-push}
use Rattle.std.proofs.lemmas.List.Folds.{list_any_none}
use Rattle.std.proofs.lemmas.List.Quantifiers.{position-Some}
use Rattle.std.proofs.lemmas.Slice.Eq.{bytes_eq-Decides}
use Rattle.indexmap.specs.IndexSet.{insert_key}
use Rattle.crew_terms.specs.Instance.{Instance}
use Rattle.crew_terms.specs.Rules.{IsInstance}
use Rattle.crew_terms.specs.declared.Task.{Task}
use Rattle.crew_terms.specs.declared.Team.{Team}
use Rattle.crew_terms.specs.declared.Visit.{Visit}
use Rattle.route_terms.specs.KeyLaws.{visit_at}
use Rattle.route_terms.specs.NameLaws.{one_task, one_team}
use Rattle.route_terms.specs.Named.{NamedVisit, name_of, task_names, team_names, visit_named}
use Rattle.column_arena.specs.Carried.{AreRenumbered, IsRenumbered, TwoNames}
use Rattle.column_arena.proofs.Finding.{position-None}
use Rattle.column_arena.proofs.Tables.{no_visit}

module _ (i : Instance) (is : IsInstance i) where
  pub team_names_apart : AllPairs (λ a b. a ≢ b) (team_names i)
  team_names_apart k l d less below e =
      let long = length-map i.teams (λ (t : Team). t.name) in
      let a = get_or_default (team_names i) k [] d (omega arith) in
      let b = get_or_default (team_names i) l [] d below in
      let same : k ≡ l = one_team i is k l (omega arith) (omega arith) (a ∙ e ∙ sym b) in omega arith

  pub task_names_apart : AllPairs (λ a b. a ≢ b) (task_names i)
  task_names_apart k l d less below e =
      let long = length-map i.tasks (λ (t : Task). t.name) in
      let a = get_or_default (task_names i) k [] d (omega arith) in
      let b = get_or_default (task_names i) l [] d below in
      let same : k ≡ l = one_task i is k l (omega arith) (omega arith) (a ∙ e ∙ sym b) in omega arith

-- a name that differs from those before it goes last
pub set_more : (names : List (List ℕ)) (k : ℕ) (name : List ℕ) → AllPairs (λ a b. a ≢ b) names → k < length names → name ≡ get_or names k name
    → insert_key bytes_eq (take k names) name ≡ take (k + 1) names
set_more names k name apart below at =
    cond-false (list_any (bytes_eq name) (take k names)) (take k names) (take k names ++ name ∷ []) (list_any_none (bytes_eq name) (take k names) none)
    ∙ ap (λ n. take k names ++ n ∷ []) at ∙ sym (take_more names k name below)
  where
    long : length (take k names) ≡ k
    long = length-take-le k names (omega arith)

    none : All (λ n. bytes_eq name n ≡ false) (take k names)
    none m d less = false_from_ne_true _ (λ same.
        let l : m < k = omega (arith, long) in
        let e : name ≡ get_or (take k names) m d = (bytes_eq-Decides name (get_or (take k names) m d)).0 same in
        apart m k d l below (sym (get_or-take k names m d l) ∙ sym e ∙ at ∙ get_or_default names k name d below))

pub renumber : (names : TwoNames) (k : ℕ) (name : List ℕ) (at : Option ℕ) → name ≡ name_of names.old k → at ≡ position (bytes_eq name) names.new
    → MatchOption at ((j : ℕ) → IsRenumbered names k j → ⊥) (IsRenumbered names k)
renumber names k name None here e = λ j is.
    true≢false (sym ((bytes_eq-Decides name (name_of names.new j)).1 (here ∙ sym is.name)) ∙ position-None (bytes_eq name) names.new j [] (sym e) is.known)
renumber names k name (Some j) here e =
    let at = position-Some (bytes_eq name) names.new j [] (sym e) in
    record { known = at.0; name = sym ((bytes_eq-Decides name (name_of names.new j)).0 at.1) ∙ here }

module _ (names : TwoNames) (visits : List Visit) (i : ℕ) (below : i < length visits) where
  abbrev next : Visit
  next = get_or visits i no_visit

  pub renumbered_more : (j : ℕ) (new : List Visit) → AreRenumbered names (take i visits) new → IsRenumbered names next.task j
      → AreRenumbered names (take (i + 1) visits) (new ++ visit_at j next.start ∷ [])
  renumbered_more j new so is = record {
    known = All-push (λ (w : Visit). w.task < length names.new) new (visit_at j next.start) so.known is.known;
    named = map-append (visit_named names.new) new (visit_at j next.start ∷ [])
        ∙ ap (λ ns. ns ++ visit_named names.new (visit_at j next.start) ∷ []) so.named
        ∙ ap (λ n. map (visit_named names.old) (take i visits) ++ named_at n next.start ∷ []) is.name
        ∙ sym (map-append (visit_named names.old) (take i visits) (next ∷ []))
        ∙ ap (map (visit_named names.old)) (sym (take_more visits i no_visit below));
  }
    where
      named_at : List ℕ → ℕ → NamedVisit
      named_at task start = record { task = task; start = start }

  -- no visits are renumbered where the task of one has no new number
  pub not_renumbered : ((j : ℕ) → IsRenumbered names next.task j → ⊥) → (vs : List Visit) → AreRenumbered names visits vs → ⊥
  not_renumbered none vs so =
      let long : length vs ≡ length visits = sym (length-map vs (visit_named names.new)) ∙ ap length so.named ∙ length-map visits (visit_named names.old) in
      let l : i < length vs = omega arith in
      let x = visit_named names.new no_visit in
      let same : visit_named names.new (get_or vs i no_visit) ≡ visit_named names.old next =
      sym (get_or-map (visit_named names.new) vs i no_visit x l) ∙ ap (λ ns. get_or ns i x) so.named ∙ get_or-map (visit_named names.old) visits i no_visit x below in
      none (get_or vs i no_visit).task (record { known = so.known i no_visit l; name = ap (λ (n : NamedVisit). n.task) same })
