use Rattle.day_records.proofs.OneReadings.{record_one, records_one}
use Rattle.day_records.proofs.laws.one_reading.Goals as goal

pub returns-clause-of_record : goal.returns-clause-of_record
returns-clause-of_record c = record_one c.one_answer.ensures.spells

pub returns-clause-of_day : goal.returns-clause-of_day
returns-clause-of_day c text entries others stop other a b = records_one c.one_answer.ensures.spells _ entries others stop other a b
