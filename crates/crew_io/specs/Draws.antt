-- what is said of faults where a call reads
use Rattle.std.proofs.Common.{subst, refl, ◌∙◌, arith}
use Rattle.std.specs.Prelude.{◌≡◌, ◌≤◌}
use Rattle.crew_io.specs.Io.{Rose}
use Rattle.crew_io.specs.declared.source.Source.{Ghosts}

-- the call answers a read fault, where this says so, only where the source's count of faults rose in it, and tells each
-- fault that came; of a source that does not fail it tells none
pub record TellsReads {S : Type 0} (source : Ghosts S) (old new : S) (fault : Type 0) : Type 0 where
  pub cause : fault → Rose (source.faults old) (source.faults new)
  pub told : (fault → ⊥) → source.faults new ≡ source.faults old
  pub later : source.faults old ≤ source.faults new
  pub steady : source.steady old → source.steady new × (fault → ⊥)

module _ {S : Type 0} (source : Ghosts S) where
  -- before a call no fault is told
  pub reads_none : (old : S) → TellsReads source old old ⊥
  reads_none old = record { cause = λ fault. absurd fault; told = λ _. refl; later = omega arith; steady = λ h. (h, λ fault. fault) }

  -- a call that told no fault, and then another, which tells the fault of both
  pub reads_then : {First Next Fault : Type 0} (old mid new : S) → (First → ⊥) → TellsReads source old mid First → TellsReads source mid new Next → (Fault → Next) → (Next → Fault)
      → TellsReads source old new Fault
  reads_then old mid new none_first a b to from = record {
    cause = λ fault. subst (λ n. Rose n (source.faults new)) (a.told none_first) (b.cause (to fault));
    told = λ none. b.told (λ fault. none (from fault)) ∙ a.told none_first;
    later = let p = a.later in let q = b.later in omega (arith, p, q);
    steady = λ h. let t = b.steady (a.steady h).0 in (t.0, λ fault. t.1 (to fault));
  }
