use Rattle.std.proofs.Common.{ap, sym, ◌∙◌}
use Rattle.crew_terms.specs.Leaf.{earned}
use Rattle.cert_write.specs.Dossiers.{dossier_is, dossier_with}
use Rattle.cert_write.proofs.Existing.{some_dossier}
use Rattle.cert_write.proofs.OneDossier.{one_written}
use Rattle.cert_write.proofs.laws.parts_have_one_dossier.Goals as goal

pub returns : goal.returns
returns c = record {
  some = λ g is valid. some_dossier c.minutes_are_permitted.ensures (λ n k p. c.teams_have_bests.ensures.some n k (earned p k)) g is valid;
  one = λ g d e a b.
      dossier_is g d a
      ∙ ap (dossier_with g) (one_written (λ n k p. c.teams_have_bests.ensures.one n k (earned p k)) (λ n k p. c.one_worth.ensures n k (earned p k)) g d.tree e.tree c.one_tree.ensures a.tree b.tree)
      ∙ sym (dossier_is g e b);
}
