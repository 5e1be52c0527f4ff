use Rattle.std.proofs.Common.{sym, subst}
use Rattle.sheet_terms.specs.Sheet.{IsGoodSheet}
use Rattle.sheet_write.proofs.Good.{good_with, sheet_is}
use Rattle.sheet_write.proofs.laws.proved_sheets_are_good.Goals as goal

pub returns : goal.returns
returns c = λ g s is are parts proved. subst IsGoodSheet (sym (sheet_is g s parts)) (good_with c.one_worth.ensures g s.tables is are parts.tables proved)
