-- a division of a day's tasks
use Rattle.std.proofs.Common.{◌≤◌, ◌<◌, ℕ, List, [], ◌∷◌, length, get_or}
use Rattle.std.specs.Prelude.{All, Contains}
use Rattle.std.proofs.lemmas.List.Elements.{All-nil, All-cons, All-contains_itself, Contains-append_left, Contains-append_right}
use Rattle.crew_terms.specs.Instance.{Instance}
use Rattle.crew_terms.specs.declared.TheConstants.{MOST_TASKS}
use Rattle.part_cuts.specs.Divided.{IsDivision, all_tasks}
use Rattle.bundle_write.specs.Bundles.{AreApart}

known_in : (n : ℕ) (lists : List (List ℕ)) → ((t : ℕ) → Contains (all_tasks lists) t → t < n) → All (λ list. All (λ t. t < n) list) lists
known_in n [] known = All-nil _
known_in n (list ∷ lists) known =
    All-cons (λ list. All (λ t. t < n) list) list lists
    (λ k d l. known (get_or list k d) (Contains-append_left list (all_tasks lists) (get_or list k d) (All-contains_itself list k d l)))
    (known_in n lists (λ t c. known t (Contains-append_right list (all_tasks lists) t c)))

pub divided_apart : (i : Instance) (lists : List (List ℕ)) → IsDivision (length i.tasks) lists → length lists ≤ MOST_TASKS → AreApart i lists
divided_apart i lists division few = record {
  few = few;
  lists_of = record { known = known_in (length i.tasks) lists division.known; rising = division.rising };
  once = division.once;
}
