use Rattle.std.proofs.Common.{refl}
use Rattle.search_laws.proofs.searches_are_caused.Goals as goal

pub returns : goal.returns
returns c = λ i budget kept o s searched loose. record {
  state = s;
  searched = searched;
  causes = refl;
  loose = loose;
  runs = c.runs_stay_shown.ensures i budget kept o.pool s searched.run;
}
