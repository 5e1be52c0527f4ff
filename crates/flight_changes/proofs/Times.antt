-- the times that were given, as they are kept
use Rattle.std.proofs.Common.{◌≡◌, ◌≤◌, ◌&&◌, ℕ, Bool, List, [], ◌∷◌, map, refl, ap}
use Rattle.std.specs.Prelude.{All, bytes_eq, find, option_map}
use Rattle.std.specs.Map.{lookup}
use Rattle.std.proofs.lemmas.List.Elements.{All-cons, All-head, All-tail, All-nil}
use Rattle.indexmap.specs.IndexMap.{insert_entry}
use Rattle.crew_terms.specs.declared.TheConstants.{LAST_MINUTE}
use Rattle.day_terms.specs.State.{Given, is_way, given_time}
use Rattle.flight_changes.specs.Kept.{given_of}
use Rattle.day_terms.specs.ByTest.{by_test}
use Rattle.flight_changes.proofs.Keyed.{Bytes}

-- the entries of the times
abbrev pub Entries : Type 0
Entries = List ((Bytes × Bytes) × ℕ)

abbrev pub same_way : Bytes × Bytes → Bytes × Bytes → Bool
same_way x y = bytes_eq x.0 y.0 && bytes_eq x.1 y.1

pub inserted : (es : Entries) (from to : Bytes) (minutes : ℕ) → map given_of (insert_entry same_way es (from, to) minutes) ≡ given_time (map given_of es) from to minutes
inserted [] from to minutes = refl
inserted (e ∷ es) from to minutes = by_test (same_way (from, to) e.0) (λ t. rw t refl) (λ t. rw t (ap (λ gs. given_of e ∷ gs) (inserted es from to minutes)))

pub looked_up : (es : Entries) (from to : Bytes) → lookup (same_way (from, to)) es ≡ option_map (λ g. g.minutes) (find (is_way from to) (map given_of es))
looked_up [] from to = refl
looked_up (e ∷ es) from to = by_test (same_way (from, to) e.0) (λ t. rw t refl) (λ t. rw t (looked_up es from to))

abbrev Few : Given → Type 0
Few g = g.minutes ≤ LAST_MINUTE

pub few_given : (gs : List Given) (from to : Bytes) (minutes : ℕ) → minutes ≤ LAST_MINUTE → All Few gs → All Few (given_time gs from to minutes)
few_given [] from to minutes few all = All-cons Few _ [] few (All-nil Few)
few_given (g ∷ gs) from to minutes few all =
    by_test (is_way from to g) (λ t. rw t (All-cons Few _ gs few (All-tail Few g gs all))) (λ t. rw t (All-cons Few g _ (All-head Few g gs all) (few_given gs from to minutes few (All-tail Few g gs all))))
