-- what a team has to do, in order of start
use Rattle.std.specs.Prelude.{◌<◌, ◌+◌, ℕ, List, length, slice_index_or, Contains, All}
use Rattle.crew_terms.specs.Limits.{Limits, IsPermittedVisit, IsPermittedStep}
use Rattle.crew_instance.specs.declared.turns.Turn.{Turn}

-- the turn at place i
abbrev pub turn_at : List Turn → ℕ → Turn
turn_at turns i = slice_index_or turns i (record { start = 0; task = 0 })

-- team k may begin the task of each turn
abbrev pub MayBeginAll : Limits → ℕ → List Turn → Type 0
MayBeginAll n k turns = All (λ (v : Turn). IsPermittedVisit n k v.task v.start) turns

-- it may not begin the task of one of them
abbrev pub MayNotBegin : Limits → ℕ → List Turn → Type 0
MayNotBegin n k turns = (v : Turn) × Contains turns v × (IsPermittedVisit n k v.task v.start → ⊥)

-- from the turn at place i to the next
abbrev pub IsStepAt : Limits → List Turn → ℕ → Type 0
IsStepAt n turns i = let v = turn_at turns i in let w = turn_at turns (i + 1) in IsPermittedStep n v.task v.start w.task w.start

-- each turn can follow the one before it
abbrev pub CanFollowAll : Limits → List Turn → Type 0
CanFollowAll n turns = (i : ℕ) → i + 1 < length turns → IsStepAt n turns i

-- one of them can't
abbrev pub CanNotFollow : Limits → List Turn → Type 0
CanNotFollow n turns = (i : ℕ) × (i + 1 < length turns) × (IsStepAt n turns i → ⊥)
