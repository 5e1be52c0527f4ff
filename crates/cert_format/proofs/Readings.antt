-- what a reader gives that ends with the numbers of its line
use Rattle.std.proofs.Common.{◌≡◌, Result, Ok, Err, sym, subst}
use Rattle.std.specs.Prelude.{MatchResult}
use Rattle.crew_terms.specs.Words.{Words}
use Rattle.cert_format.specs.Lines.{IsLineOf, IsFaultOf}
use Rattle.cert_format.specs.Typed.{ReadsAs}
use Rattle.cert_format.specs.declared.kinds.Expect.{Expect}
use Rattle.cert_format.specs.declared.kinds.LineKind.{LineKind}
use Rattle.line_in.specs.declared.faults.LineFault.{LineFault}
use Rattle.line_in.specs.declared.faults.LineFault.TheVariants.{Number}

-- the line is one where its numbers are, and else their fault is its first
pub rest_read : {A : Type 0} (expect : Expect) (kind : A → LineKind) (ws : Words) (r : Result A LineFault) (Read : A → Type 0) (None : Type 0)
    → MatchResult r Read (λ fault. (fault ≡ Number) × None)
    → ((fields : A) → Read fields → IsLineOf expect ws (kind fields))
    → (None → IsFaultOf expect ws Number)
    → ReadsAs expect kind ws r
rest_read expect kind ws (Ok fields) Read None read line none = line fields read
rest_read expect kind ws (Err fault) Read None read line none = subst (IsFaultOf expect ws) (sym read.0) (none read.1)
