-- what one call of a reader lends
use Rattle.std.specs.Prelude.{◌≡◌, ℕ, List, Option}
use Rattle.crew_io.specs.Lines.{Reader, Steps}
use Rattle.crew_io.specs.declared.lines.Progress.{Progress}
use Rattle.crew_io.specs.declared.lines.Got.{Got}
use Rattle.crew_io.specs.declared.lines.Progress.TheVariants as progress
use Rattle.crew_io.specs.declared.lines.Got.TheVariants.{Line, TooLong, TooMuch, End, ReadFault}

-- the answer, without the line
abbrev pub progress_of : Got → Progress
progress_of (Line line) = progress.Line
progress_of TooLong = progress.TooLong
progress_of TooMuch = progress.TooMuch
progress_of (End partial) = progress.End partial
progress_of ReadFault = progress.ReadFault

-- the line that is lent is this one
abbrev pub Lent : Got → List ℕ → Type 0
Lent (Line line) last = line.now ≡ last
Lent _ last = Unit {0}

-- the answer of one call, and the line that it lends
pub record GotNext (old : Reader) (left : Option (List ℕ)) (got : Got) (new : Reader) (later : Option (List ℕ)) : Type 0 where
  pub steps : Steps old left (progress_of got) new later
  pub lent : Lent got new.line
