-- the sheet of a price run, written
use Rattle.std.proofs.Common.{ℕ, List, sym, subst}
use Rattle.std.specs.Prelude.{Result, Ok, Err}
use Rattle.crew_terms.specs.Instance.{Instance}
use Rattle.crew_terms.specs.declared.Visit.{Visit}
use Rattle.crew_io.specs.declared.sink.Sink.{Ghosts}
use Rattle.squeeze_terms.specs.Squeezed.{IsSqueezed}
use Rattle.cert_write.specs.declared.faults.PutFault.{PutFault}
use Rattle.cert_write.specs.declared.faults.PutFault.TheVariants.{WriteFault, OutOfMemory}
use Rattle.sheet_write.specs.Given.{IsProved, squeezed}
use Rattle.sheet_write.specs.Sheets.{PutsSheet, WritesSheet}
use Rattle.squeeze_command.specs.Sheets.{PutsSqueezed, PutsSqueezedSheet}

module _ {K : Type 0} (sink : Ghosts K) (i : Instance) (nodes steps best l : ℕ) (trace : List (List (List Visit)))
    (run : IsSqueezed i steps best l trace) (proved : IsProved (squeezed i nodes best l trace)) (old new : K) where
  puts_squeezed : {T E : Type 0} (result : Result T E) → PutsSheet sink (squeezed i nodes best l trace) old new result → PutsSqueezedSheet sink i nodes steps old new result
  puts_squeezed result put = record {
    sheet = put.sheet;
    is = record {
      instance = put.parts.instance;
      budget = put.parts.budget;
      best = best;
      trace = trace;
      run = subst (λ m. IsSqueezed i steps best m trace) (sym put.parts.bound) run;
      prices = put.parts.prices;
      good = put.good proved;
    };
    puts = put.puts;
  }

  pub writes_squeezed : (result : Result (Unit {0}) PutFault) → WritesSheet sink (squeezed i nodes best l trace) old new result → PutsSqueezed sink i nodes steps old new result
  writes_squeezed (Ok done) wrote = puts_squeezed (Ok done) wrote
  writes_squeezed (Err WriteFault) wrote = puts_squeezed (Err WriteFault) wrote
  writes_squeezed (Err OutOfMemory) same = same
