-- what adding and solving leave as it was
use Rattle.std.proofs.Common.{◌≡◌, ◌<◌, ◌+◌, ◌++◌, ◌∷◌, [], ℕ, refl, ap, sym, subst, arith}
use Rattle.std.specs.Prelude.{All, MatchOption, MatchResult, None, Option, Result, Some, Ok, Err}
use Rattle.std.specs.declared.alloc.AllocError.{AllocError}
use Rattle.std.proofs.lemmas.List.Elements.{All-push}
use Rattle.crew_num.specs.declared.Overflow.{Overflow}
use Rattle.crew_terms.specs.Limits.{Route}
use Rattle.frac_master.specs.declared.solved.Added.{Added}
use Rattle.frac_master.specs.declared.solved.Added.TheVariants.{Done, Overflow as OverflowedAdd}
use Rattle.frac_master.specs.declared.solved.Solved.{Solved}
use Rattle.frac_master.specs.declared.solved.Solved.TheVariants.{Overflow as Overflowed}
use Rattle.frac_master.specs.State.{MasterState}
use Rattle.frac_master.specs.Adding.{Adds, AddsOn}
use Rattle.frac_master.specs.Solving.{Solves, SolvesOn}

-- the places stay, and the columns are below the next number
pub record IsEntered (old new : MasterState) (column : ℕ) : Type 0 where
  pub places : new.places ≡ old.places
  pub columns : All (λ id. id < column + 1) new.columns

more : (column : ℕ) (m : MasterState) → All (λ id. id < column) m.columns → All (λ id. id < column + 1) m.columns
more column m h = λ k d lt. let f = h k d lt in omega arith

adds_on : (old new : MasterState) (column : ℕ) (r : Route) (a : Added) → All (λ id. id < column) old.columns → AddsOn old column r a new → IsEntered old new column
adds_on old new column r Done h e = record {
  places = ap (λ (m : MasterState). m.places) e;
  columns = subst (λ (m : MasterState). All (λ id. id < column + 1) m.columns) (sym e)
      (All-push (λ id. id < column + 1) old.columns column (more column old h) (omega arith));
}
adds_on old new column r (OverflowedAdd f) h e = record {
  places = ap (λ (m : MasterState). m.places) e.0;
  columns = subst (λ (m : MasterState). All (λ id. id < column + 1) m.columns) (sym e.0) (more column old h);
}

same : (old new : MasterState) (column : ℕ) → All (λ id. id < column) old.columns → new ≡ old → IsEntered old new column
same old new column h e = record {
  places = ap (λ (m : MasterState). m.places) e;
  columns = subst (λ (m : MasterState). All (λ id. id < column + 1) m.columns) (sym e) (more column old h);
}

pub entered : (old new : MasterState) (column : ℕ) (r : Route) (result : Result Added AllocError) → All (λ id. id < column) old.columns
    → MatchResult result (λ a. Adds old column r a new) (λ _. new ≡ old) → IsEntered old new column
entered old new column r (Err e) h m = same old new column h m
entered old new column r (Ok a) h m = by_end old.ended m
  where
    by_end : (o : Option Overflow) → MatchOption o (AddsOn old column r a new) (λ f. (a ≡ OverflowedAdd f) × (new ≡ old)) → IsEntered old new column
    by_end None e = adds_on old new column r a h e
    by_end (Some f) e = same old new column h e.1

pub solves_places : (old new : MasterState) (pivots : ℕ) (solved : Solved) → Solves old pivots solved new → new.places ≡ old.places
solves_places old new pivots solved m = by_end old.ended m
  where
    by_end : (o : Option Overflow) → MatchOption o (SolvesOn old pivots solved new) (λ f. (solved ≡ Overflowed f) × (new ≡ old)) → new.places ≡ old.places
    by_end None e = e.places
    by_end (Some f) e = ap (λ (m : MasterState). m.places) e.1
