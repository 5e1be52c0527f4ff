-- the choices by which a search splits a node
use Rattle.crew_terms.specs.Limits.{Limits}
use Rattle.crew_terms.specs.Tree.{CanSplit}
use Rattle.crew_terms.specs.Decided.{MayBegin}
use Rattle.crew_terms.specs.declared.Choice.{Choice}
use Rattle.crew_terms.specs.declared.Choice.TheVariants as choices

-- the team of a pair may begin its task
abbrev pub HasMinute : Limits → Choice → Type 0
HasMinute n (choices.Window j cut) = Unit {0}
HasMinute n (choices.Pair k j) = MayBegin n k j

-- a choice by which a search may split the node: a cut of a window, or a free pair whose team may begin its task
pub record IsValidChoice (n : Limits) (choice : Choice) : Type 0 where
  pub can : CanSplit n choice
  pub minute : HasMinute n choice
