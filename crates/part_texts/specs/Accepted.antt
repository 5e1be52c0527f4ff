-- the bytes that a check of parts accepts
use Rattle.std.specs.Prelude.{◌≡◌, ◌≢◌, ◌≤◌, ℕ, List, [], length, All}
use Rattle.std.specs.List.{flat_map}
use Rattle.crew_terms.specs.declared.TheConstants.{LONGEST_INPUT}
use Rattle.part_texts.specs.Bundle.{Bundle, IsGoodBundle}
use Rattle.part_texts.specs.Lines.{text_of_bundle}

-- the texts of one or more good bundles, one after another
pub record AreBundles (bytes : List ℕ) (bundles : List Bundle) : Type 0 where
  pub size : length bytes ≤ LONGEST_INPUT
  pub some : bundles ≢ []
  pub good : All IsGoodBundle bundles
  pub text : bytes ≡ flat_map text_of_bundle bundles
