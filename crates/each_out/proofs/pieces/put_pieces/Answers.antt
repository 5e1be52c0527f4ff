use Rattle.std.proofs.Common.{◌≡◌, ◌++◌, ℕ, List, [], ◌∷◌, map, ap, refl}
use Rattle.std.specs.List.{flat_map}
use Rattle.crew_io.specs.Chains.{puts_same}
use Rattle.each_out.specs.Pieces.{joined, piece_text}
use Rattle.each_out.specs.declared.pieces.Piece.{Piece}
use Rattle.each_out.proofs.pieces.put_pieces.Goals as goal

each_joined : (pieces : List Piece) → flat_map piece_text pieces ≡ joined (map piece_text pieces)
each_joined [] = refl
each_joined (p ∷ ps) = ap (λ rest. piece_text p ++ rest) (each_joined ps)

pub returns : goal.returns
returns g c = puts_same g.K.Sink _ _ _ _ _ (each_joined c.args.pieces.now) c.put_each.ensures
