-- the causes of an outcome, as a dossier tells them
use Rattle.std.specs.Prelude.{◌≡◌, ℕ, List, Option, None, Some, All, map, unsigned_abs}
use Rattle.cert_write.specs.Causes.{part_of}
use Rattle.crew_num.specs.Exact.{FitsI128}
use Rattle.crew_terms.specs.Limits.{Route}
use Rattle.dossier_terms.specs.Causes.{Cause as Told, NoCause, Loose, Overflowed, Spent, choice_of}
use Rattle.node_solver.specs.declared.step.Why.{Why}
use Rattle.node_solver.specs.declared.step.Why.TheVariants as whys
use Rattle.search_core.specs.declared.causes.Cause.{Cause}
use Rattle.search_terms.specs.Earned.{Loose as LooseAt, Overflowed as OverflowedAt, Spent as SpentRun}
use Rattle.search_terms.specs.SearchTree.{SplitCause}

-- the reason of a split at which `now` tasks were left unassigned
abbrev pub told_why : ℕ → Why → Told
told_why now (whys.Loose den shares left_open) =
    Loose now (record { whole = unsigned_abs den; parts = map part_of shares; spare = map unsigned_abs left_open })
told_why now (whys.Overflow fault) = Overflowed now fault
told_why now whys.Spent = Spent now

-- a cause as a dossier tells it
abbrev pub told_of : Cause → Told
told_of c = told_why c.now c.why

-- the denominator and the operands have 128 bits
abbrev pub IsInRange : Why → Type 0
IsInRange (whys.Loose den shares left_open) = FitsI128 den
IsInRange (whys.Overflow fault) = FitsI128 fault.a × FitsI128 fault.b
IsInRange whys.Spent = Unit {0}

-- the causes, one after the other, as a dossier tells them
pub record AreTold (causes : List Cause) (told : List Told) : Type 0 where
  pub each : told ≡ map told_of causes
  pub range : All (λ (c : Cause). IsInRange c.why) causes

-- ---- and what a dossier tells, as the search has it

-- the cause of a split of the search that the cause of a dossier tells, with shares of the columns of this pool; None where it
-- tells none
abbrev pub split_cause_in : List Route → Told → Option SplitCause
split_cause_in pool NoCause = None
split_cause_in pool (Loose now shares) = Some (record { now = now; why = LooseAt (choice_of pool shares) })
split_cause_in pool (Overflowed now fault) = Some (record { now = now; why = OverflowedAt fault })
split_cause_in pool (Spent now) = Some (record { now = now; why = SpentRun })

-- the causes of a dossier with this pool tell these of the search, one after the other
abbrev pub Tell : List Route → List Told → List SplitCause → Type 0
Tell pool told causes = map (split_cause_in pool) told ≡ map Some causes
