-- what holds of a sheet that is read to its end
use Rattle.std.proofs.Common.{◌≡◌, ◌<◌, ℕ, List, [], ◌∷◌, length, get_or, sym, subst, arith, inl, inr}
use Rattle.std.specs.Prelude.{pos}
use Rattle.std.proofs.lemmas.List.{get_or-map}
use Rattle.crew_terms.specs.Words.{Words}
use Rattle.crew_terms.specs.Limits.{root_limits}
use Rattle.crew_terms.specs.Leaf.{HoldsLocally, worth_of}
use Rattle.dossier_terms.specs.Dossier.{Potentials, no_potentials}
use Rattle.squeeze_terms.specs.MinutePrices.{minute_price}
use Rattle.sheet_terms.specs.Reading.{SheetReading, First, More, Whole}
use Rattle.sheet_terms.specs.Sheet.{Sheet, phi_of, worths_in}
use Rattle.sheet_terms.specs.Table.{EndsSheet}
use Rattle.sheet_laws.specs.Held.{Holds}
use Rattle.sheet_laws.proofs.SoFar.{SoFar, IsProved, follows}

-- the lines from a state on
ended : (s : SheetReading) (lines : List Words) (sheet : Sheet) → SoFar s → EndsSheet s lines sheet → IsProved sheet
ended s [] sheet h e = absurd e
ended s (ws ∷ lines) sheet h (inl e) = follows s ws (Whole sheet) h e.0
ended s (ws ∷ lines) sheet h (inr e) = ended e.0 lines sheet (follows s ws (More e.0) h e.1) e.2

-- what is proved holds
holds : (s : Sheet) → IsProved s → Holds s
holds s h = record {
  valid = record { prices = h.teams.prices; valid = λ k l. at k (let c = h.teams.count in omega arith) };
  proved = h.proved;
}
  where
    worth_is : (k : ℕ) → k < length s.tables → worth_of (worths_in s.tables) k ≡ (get_or s.tables k no_potentials).worth
    worth_is k l = get_or-map (λ (t : Potentials). t.worth) s.tables k no_potentials (pos 0) l

    at : (k : ℕ) → k < length s.tables → HoldsLocally (root_limits s.instance) k (minute_price s.instance s.prices) (phi_of s k) (worth_of (worths_in s.tables) k)
    at k l = subst (HoldsLocally (root_limits s.instance) k (minute_price s.instance s.prices) (phi_of s k)) (sym (worth_is k l)) (h.teams.teams k l)

pub read_holds : (lines : List Words) (s : Sheet) → EndsSheet First lines s → Holds s
read_holds lines s e = holds s (ended First lines s tt e)
