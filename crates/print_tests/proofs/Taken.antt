-- entries that are taken one by one
use Rattle.std.proofs.Common.{◌≡◌, ◌<◌, ◌+◌, ℕ, List, None, length, drop, get_or, subst}
use Rattle.std.specs.Prelude.{fold}
use Rattle.std.proofs.lemmas.List.{drop_more, at_drop_more}
use Rattle.day_terms.specs.declared.Entry.{Entry}
use Rattle.day_terms.specs.State.{DayState}
use Rattle.day_terms.specs.Entries.{after_entry}
use Rattle.day_terms.specs.Refusal.{AreTaken, refusal_of}

pub next_is_taken : (s : DayState) (entries : List Entry) (i : ℕ) (d : Entry) → i < length entries → AreTaken s (drop i entries)
    → (refusal_of s (get_or entries i d) ≡ None) × AreTaken (after_entry s (get_or entries i d)) (drop (i + 1) entries)
next_is_taken s entries i d lt taken = subst (AreTaken s) (drop_more entries i d lt) taken

pub next_state : (s : DayState) (entries : List Entry) (i : ℕ) (d : Entry) → i < length entries
    → fold after_entry s (drop i entries) ≡ fold after_entry (after_entry s (get_or entries i d)) (drop (i + 1) entries)
next_state s entries i d lt = at_drop_more (fold after_entry s) entries i d lt
