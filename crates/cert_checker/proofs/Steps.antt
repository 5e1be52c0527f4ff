-- what rules tell of a step
use Rattle.std.specs.Prelude.{Result, Ok, Err}
use Rattle.dossier_terms.specs.declared.Reason.{Reason}
use Rattle.dossier_terms.specs.Reading.{Answer, More as Goes, Whole as Ends, No as Refuses}
use Rattle.cert_checker.specs.Due.{Tells}
use Rattle.cert_checker.specs.declared.due.Step.{Step}
use Rattle.cert_checker.specs.declared.due.Step.TheVariants.{More, Whole}

-- what some rules tell of a step, a row of the table tells that they are the rest of
pub tells_row : (Rules Row : Answer → Type 0) (step : Result Step Reason) → ((said : Answer) → Rules said → Row said) → Tells Rules step → Tells Row step
tells_row Rules Row (Ok (More due)) row told = (told.0, row (Goes told.0) told.1, told.2)
tells_row Rules Row (Ok (Whole ended)) row told = (told.0, row (Ends told.0) told.1, told.2)
tells_row Rules Row (Err reason) row told = row (Refuses reason) told
